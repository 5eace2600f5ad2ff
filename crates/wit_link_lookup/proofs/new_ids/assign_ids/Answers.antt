use Rattle.std.proofs.Common.{◌∙◌, Option, Some, ap, arith, sym, ℕ}
use Rattle.wit_link_lookup.specs.steps.ForeignItems.{assigned_ids}
use Rattle.wit_link_lookup.proofs.Assigned.{assigned-all, assigned-more}
use Rattle.wit_link_lookup.proofs.new_ids.assign_ids.Goals as goal

pub at-is_active-requires : goal.at-is_active-requires
at-is_active-requires g c = omega (arith, c.requires)

pub loop-index-preserved : goal.loop-index-preserved
loop-index-preserved g c =
    let active = c.args.active.now in
    let found = c.args.found.now in
    assigned-more active found c.loop-index.index c.loop-index.ids (assigned_ids c.args.first active found) c.loop-index.next c.loop-index.invariant c.at-is_active.result.now c.in_ok-there.there c.in_ok-assign_id.field-0
    c.assign_id.new.next c.push.new.self c.at-is_active.ensures (c.at.ensures ∙ ap (λ (o : Option ℕ). Some o) (sym c.in_ok-there.ensures)) c.in_ok-assign_id.ensures.id c.in_ok-assign_id.ensures.next c.in_ok-push.ensures.ok

pub returns : goal.returns
returns g c =
    let active = c.args.active.now in
    let found = c.args.found.now in
    assigned-all active found c.loop-index.index c.loop-index.ids (assigned_ids c.args.first active found) c.loop-index.next c.loop-index.invariant (omega (arith, c.requires, c.loop-index-test.false, c.len-index-end.ensures))
