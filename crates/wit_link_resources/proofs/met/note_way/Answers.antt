use Rattle.std.proofs.Common.{◌≡◌, ◌∙◌, ◌++◌, ◌∷◌, [], ◌<◌, ℕ, Bool, List, length, take, ap, refl, sym, subst}
use Rattle.wit_data.specs.Uses.{alias_rows}
use Rattle.wit_digraph.specs.PostOrder.{post_order}
use Rattle.wit_remap_spec.specs.Resources.{leads_to_resource}
use Rattle.wit_link_resources.specs.steps.Leading.{AreRight}
use Rattle.wit_link_resources.specs.facts.Leads.{leads_on, target_there, walk_falls}
use Rattle.wit_link_resources.specs.facts.MetTypes.{begins_more, begins_same, right-more}
use Rattle.wit_graph_theory.specs.facts.AliasFacts.{alias_acyclic}
use Rattle.wit_link_resources.proofs.met.note_way.Goals as goal

pub loop-target-smaller : goal.loop-target-smaller
loop-target-smaller c =
    let types = c.args.types.now in
    let on = c.in-Some.ensures.some c.in-Some.target refl in
    subst (λ (k : ℕ). length (post_order (alias_rows types) k) < length (post_order (alias_rows types) c.loop-target.place)) (sym c.index-place.ensures)
    (walk_falls types (alias_acyclic types c.requires.acyclic) c.loop-target.place c.in-Some.target on.1.0 on.1.1 on.1.2)

pub loop-target-preserved : goal.loop-target-preserved
loop-target-preserved c =
    let types = c.args.types.now in
    let on = c.in-Some.ensures.some c.in-Some.target refl in
    let more : c.push.new.self ≡ c.loop-target.met ++ (c.loop-target.place, c.args.leads) ∷ [] =
    c.in_ok-push.ensures.ok ∙ ap (λ (t : ℕ). c.loop-target.met ++ (t, c.args.leads) ∷ []) c.from_index.ensures in
    record {
      there = subst (λ (k : ℕ). k < length types) (sym c.index-place.ensures) (target_there types c.requires.acyclic c.loop-target.place c.in-Some.target on.1.0 on.1.1 on.1.2);
      met = right-more types c.loop-target.met c.push.new.self c.loop-target.place c.args.leads more c.loop-target.invariant.there c.loop-target.invariant.same c.loop-target.invariant.met;
      begins = begins_more c.args.met.now c.loop-target.met c.push.new.self (c.loop-target.place, c.args.leads) c.loop-target.invariant.begins more;
      same = c.loop-target.invariant.same
          ∙ (leads_on types (alias_acyclic types c.requires.acyclic) c.loop-target.place c.in-Some.target on.1.0 on.1.1 on.1.2 ∙ ap (leads_to_resource types) (sym c.index-place.ensures));
    }

pub loop-target-init : goal.loop-target-init
loop-target-init c = record {
  there = c.requires.there;
  met = c.requires.met;
  begins = begins_same c.args.met.now;
  same = c.requires.leads;
}

pub returns-in_err-push-clause-met : goal.returns-in_err-push-clause-met
returns-in_err-push-clause-met c = subst (AreRight c.args.types.now) (sym c.in_err-push.ensures.unchanged) c.loop-target.invariant.met

pub returns-in_err-push-clause-begins : goal.returns-in_err-push-clause-begins
returns-in_err-push-clause-begins c =
    subst (λ (es : List (ℕ × Bool)). take (length c.args.met.now) es ≡ c.args.met.now) (sym c.in_err-push.ensures.unchanged) c.loop-target.invariant.begins
