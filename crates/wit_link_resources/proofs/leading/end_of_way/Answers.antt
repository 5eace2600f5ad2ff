use Rattle.std.proofs.Common.{◌∙◌, ◌<◌, ℕ, length, ap, refl, sym, subst}
use Rattle.wit_digraph.specs.PostOrder.{post_order}
use Rattle.wit_data.specs.Uses.{alias_rows}
use Rattle.wit_link_resources.specs.steps.IncomingTypes.{IsRemapped, leads_in}
use Rattle.wit_link_resources.specs.facts.IncomingLeads.{remapped_there}
use Rattle.wit_link_resources.proofs.Ways.{next_remapped, next_same, next_shorter}
use Rattle.wit_link_resources.proofs.leading.end_of_way.Goals as goal

pub loop-target-init : goal.loop-target-init
loop-target-init c =
    let s = c.args.incoming.now in
    record {
      there = remapped_there s.graph_types.now s.types.now s.ids.now c.requires.can c.args.index c.requires.remapped;
      remapped = c.requires.remapped;
      same = λ functions r is. refl;
    }

pub loop-target-smaller : goal.loop-target-smaller
loop-target-smaller c =
    let s = c.args.incoming.now in
    let names = c.in-Some.ensures.some c.in-Some.target refl in
    subst (λ (k : ℕ). length (post_order (alias_rows s.types.now) k) < length (post_order (alias_rows s.types.now) c.loop-target.current)) (sym c.index-current.ensures)
    (next_shorter s c.requires.can c.args.known.now c.loop-target.current c.in-Some.target names)

pub loop-target-preserved : goal.loop-target-preserved
loop-target-preserved c =
    let s = c.args.incoming.now in
    let names = c.in-Some.ensures.some c.in-Some.target refl in
    let to = next_remapped s c.requires.can c.args.known.now c.loop-target.current c.in-Some.target names in
    record {
      there = subst (λ (k : ℕ). k < length s.types.now) (sym c.index-current.ensures) (remapped_there s.graph_types.now s.types.now s.ids.now c.requires.can c.in-Some.target to);
      remapped = subst (IsRemapped s.ids.now) (sym c.index-current.ensures) to;
      same = λ functions r is.
          c.loop-target.invariant.same functions r is
          ∙ (next_same s c.requires.can c.args.known.now c.loop-target.current c.in-Some.target names functions r is ∙ ap (leads_in r) (sym c.index-current.ensures));
    }
