use Rattle.std.proofs.Common.{◌≡◌, ◌∙◌, ◌<◌, ◌⊎◌, inl, inr, ℕ, true, None, Some, List, length, slice_get, ap, sym, subst}
use Rattle.std.proofs.lemmas.Result.{IfOk-weaker}
use Rattle.wit_data.specs.declared.types.TypeDef.{TypeDef}
use Rattle.wit_remap_spec.specs.Resources.{leads_to_resource}
use Rattle.wit_link_resources.specs.declared.incoming.Incoming.{Incoming}
use Rattle.wit_link_resources.specs.steps.IncomingTypes.{IsRemapped, new_of}
use Rattle.wit_link_resources.specs.steps.Leading.{AreRight}
use Rattle.wit_link_resources.specs.facts.IncomingLeads.{leads_itself, leads_old, not_new_old, remapped_there}
use Rattle.wit_link_resources.proofs.leading.leads_unknown.Goals as goal

-- what is remapped and isn't in the graph is new
is_new_one : (s : Incoming) (t : ℕ) → IsRemapped s.ids.now t → (new_of s t ≡ true) ⊎ (slice_get s.ids.now t ≡ Some None) → new_of s t ≡ true
is_new_one s t to (inl new) = new
is_new_one s t to (inr none) = let same : Some (Some to.0) ≡ Some None = sym to.1 ∙ none in absurd (apart same)
  where
    apart : {x : ℕ} → Some (Some x) ≡ Some None → ⊥
    apart same = cc

pub in_graph-requires : goal.in_graph-requires
in_graph-requires c =
    let s : Incoming = c.args.incoming.now in
    let there = remapped_there s.graph_types.now s.types.now s.ids.now c.requires.can c.args.index c.requires.remapped in
    subst (λ (n : ℕ). c.args.index < n) (sym c.requires.can.long) there

pub leads_to_resource-requires-clause-there : goal.leads_to_resource-requires-clause-there
leads_to_resource-requires-clause-there c =
    let s : Incoming = c.args.incoming.now in
    let to = c.in_graph.ensures.some c.in-Some.id c.in-Some.is in
    subst (λ (types : List TypeDef). c.in-Some.id < length types) (sym c.as_slice.ensures) (not_new_old s.graph_types.now s.types.now s.ids.now c.requires.can c.args.index c.in-Some.id to.1 to.0)

pub leads_to_resource-requires-clause-met : goal.leads_to_resource-requires-clause-met
leads_to_resource-requires-clause-met c = subst (λ (types : List TypeDef). AreRight types c.args.met.now) (sym c.as_slice.ensures) c.requires.met

pub returns-in-Some-clause-met : goal.returns-in-Some-clause-met
returns-in-Some-clause-met c = subst (λ (types : List TypeDef). AreRight types c.leads_to_resource.new.met) c.as_slice.ensures c.leads_to_resource.ensures.met

pub returns-in-Some-clause-leads : goal.returns-in-Some-clause-leads
returns-in-Some-clause-leads c =
    let s : Incoming = c.args.incoming.now in
    let to = c.in_graph.ensures.some c.in-Some.id c.in-Some.is in
    let before = not_new_old s.graph_types.now s.types.now s.ids.now c.requires.can c.args.index c.in-Some.id to.1 to.0 in
    IfOk-weaker c.leads_to_resource.result _ _
    (λ leads right functions r is. leads_old s.graph_types.now s.types.now s.ids.now c.requires.can functions r is c.args.index c.in-Some.id to.1 before
    ∙ (ap (λ (types : List TypeDef). leads_to_resource types c.in-Some.id) (sym c.as_slice.ensures) ∙ sym right)) c.leads_to_resource.ensures.leads

pub at-requires : goal.at-requires
at-requires c =
    let s : Incoming = c.args.incoming.now in
    remapped_there s.graph_types.now s.types.now s.ids.now c.requires.can c.args.index c.requires.remapped

pub returns-in-None-clause-leads : goal.returns-in-None-clause-leads
returns-in-None-clause-leads c = λ functions r is.
    let s : Incoming = c.args.incoming.now in
    let new = is_new_one s c.args.index c.requires.remapped (c.in_graph.ensures.none c.in-None.is) in
    leads_itself s.graph_types.now s.types.now s.ids.now c.requires.can functions r is c.args.index c.at.result.now new c.at.ensures (c.requires.end new c.at.result.now c.at.ensures) ∙ sym c.is_resource.ensures
