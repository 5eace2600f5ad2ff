use Rattle.std.proofs.Common.{◌≡◌, ◌∙◌, ◌<◌, ℕ, Some, None, length, nat_eq, slice_get, ap, refl, sym, subst}
use Rattle.std.specs.Map.{lookup}
use Rattle.std.specs.Option.{option_copied}
use Rattle.std.proofs.lemmas.Bool.{eqb-true}
use Rattle.std.proofs.lemmas.Map.Views.{Contains-from_lookup}
use Rattle.std.proofs.lemmas.Option.{slice_get-get_or}
use Rattle.wit_data.specs.Uses.{alias_rows}
use Rattle.wit_digraph.specs.PostOrder.{post_order}
use Rattle.wit_data.specs.declared.types.TypeDef.{TypeDef}
use Rattle.wit_remap_spec.specs.Resources.{is_resource_kind, leads_to_resource}
use Rattle.wit_link_resources.specs.facts.Leads.{leads_here, leads_on, target_there, walk_falls}
use Rattle.wit_graph_theory.specs.facts.AliasFacts.{alias_acyclic}
use Rattle.wit_link_resources.proofs.met.end_of_way.Goals as goal

pub loop-target-smaller : goal.loop-target-smaller
loop-target-smaller c =
    let types = c.args.types.now in
    let on = c.in-Some.ensures.some c.in-Some.target refl in
    subst (λ (k : ℕ). length (post_order (alias_rows types) k) < length (post_order (alias_rows types) c.loop-target.place)) (sym c.index-place.ensures)
    (walk_falls types (alias_acyclic types c.requires.acyclic) c.loop-target.place c.in-Some.target on.1.0 on.1.1 on.1.2)

pub loop-target-preserved : goal.loop-target-preserved
loop-target-preserved c =
    let types = c.args.types.now in
    let on = c.in-Some.ensures.some c.in-Some.target refl in
    record {
      there = subst (λ (k : ℕ). k < length types) (sym c.index-place.ensures) (target_there types c.requires.acyclic c.loop-target.place c.in-Some.target on.1.0 on.1.1 on.1.2);
      same = c.loop-target.invariant.same
          ∙ (leads_on types (alias_acyclic types c.requires.acyclic) c.loop-target.place c.in-Some.target on.1.0 on.1.1 on.1.2 ∙ ap (leads_to_resource types) (sym c.index-place.ensures));
    }

pub returns-in-Some-get : goal.returns-in-Some-get
returns-in-Some-get c =
    let met = c.args.met.now in
    let found : lookup (nat_eq c.loop-target.place) met ≡ Some c.in-Some-get.leads.now =
    ap (λ (t : ℕ). lookup (nat_eq t) met) (sym c.from_index.ensures) ∙ (sym c.get.ensures ∙ ap option_copied c.in-Some-get.is) in
    sym (c.requires.met c.loop-target.place c.in-Some-get.leads.now (Contains-from_lookup eqb-true c.loop-target.place c.in-Some-get.leads.now met found)).1 ∙ sym c.loop-target.invariant.same

pub returns-in-None : goal.returns-in-None
returns-in-None c =
    let types = c.args.types.now in
    let none : lookup (nat_eq c.loop-target.place) c.args.met.now ≡ None =
    ap (λ (t : ℕ). lookup (nat_eq t) c.args.met.now) (sym c.from_index.ensures) ∙ (sym c.get.ensures ∙ ap option_copied c.in-None.is) in
    let x : TypeDef = c.index-types-place.result in
    let at : slice_get types c.loop-target.place ≡ Some x = slice_get-get_or types c.loop-target.place x c.loop-target.invariant.there ∙ ap Some (sym c.index-types-place.is) in
    c.is_resource.ensures ∙ (ap (λ (d : TypeDef). is_resource_kind d.kind) (sym c.index-types-place.is)
    ∙ (sym (leads_here types (alias_acyclic types c.requires.acyclic) c.loop-target.place x at (c.in_default.ensures.none refl none x at)) ∙ sym c.loop-target.invariant.same))
