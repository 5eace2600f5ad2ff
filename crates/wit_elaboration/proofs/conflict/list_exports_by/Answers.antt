use Rattle.std.proofs.Common.{◌<◌, length, ap, ◌∙◌}
use Rattle.std.proofs.lemmas.List.Elements.{All-contains}
use Rattle.std.proofs.lemmas.Map.Iter.{iter_turn, rest_more}
use Rattle.std.specs.Map.Iter.{deref_pair}
use Rattle.wit_digraph.specs.steps.PostOrder.{Listed}
use Rattle.wit_elaboration.specs.Entries.{Entry, item_interface}
use Rattle.wit_elaboration.proofs.ExportSteps.{given_at, needs_more}
use Rattle.wit_elaboration.proofs.conflict.list_exports_by.Goals as goal
use Rattle.wit_elaboration.specs.steps.Parts.{exported_interfaces}

pub list_needs-requires-clause-role : goal.list_needs-requires-clause-role
list_needs-requires-clause-role c =
    let at = (iter_turn deref_pair c.args.exports.now c.loop-item.yielded _ _ _ _ (c.into_iter-item-iterator.ensures.into_iter_gives ∙ c.iter-item-items.ensures.rest) c.loop-item.yielded_by _ c.in-Some.is c.next.ensures.steps).1 in
    let has = given_at (λ (f : Entry). item_interface f.1) c.args.exports.now (length c.loop-item.yielded) _ c.in-Some-item_interface.id at c.in-Some-item_interface.ensures in
    All-contains (λ i. i < length c.args.uses.now) (exported_interfaces c.args.exports.now) c.in-Some-item_interface.id c.requires.in_range has

pub loop-item-preserved-in-Continue-1 : goal.loop-item-preserved-in-Continue-1
loop-item-preserved-in-Continue-1 c = record {
  order_is =
      needs_more c.args.uses.now (rest_more deref_pair _ _ _ _ c.in-Some.is c.next.ensures.steps) c.in-Some-item_interface.id _ _ _ c.in-Some-item_interface.ensures c.loop-item.invariant.order_is
      (ap (λ (l : Listed). l.order) c.in_ok-list_needs.ensures.ok);
  is_walk = c.in_ok-list_needs.ensures.post_order;
}
