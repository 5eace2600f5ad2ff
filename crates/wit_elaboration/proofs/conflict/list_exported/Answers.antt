use Rattle.std.proofs.Common.{◌<◌, length, ◌∙◌, arith}
use Rattle.std.proofs.lemmas.List.Elements.{All-contains}
use Rattle.std.proofs.lemmas.Map.Iter.{iter_turn}
use Rattle.std.specs.Map.Iter.{deref_pair}
use Rattle.wit_elaboration.specs.Entries.{Entry, key_interface}
use Rattle.wit_elaboration.proofs.ExportSteps.{given_at}
use Rattle.wit_elaboration.proofs.conflict.list_exported.Goals as goal
use Rattle.wit_elaboration.specs.steps.Parts.{exported_keys}

pub add_node-requires : goal.add_node-requires
add_node-requires c =
    let at = (iter_turn deref_pair c.args.exports.now c.loop-key.yielded _ _ _ _ (c.into_iter-key-iterator.ensures.into_iter_gives ∙ c.iter-key-items.ensures.rest) c.loop-key.yielded_by _ c.in-Some.is c.next.ensures.steps).1 in
    let has = given_at (λ (f : Entry). key_interface f.0) c.args.exports.now (length c.loop-key.yielded) _ c.in-Some-key_interface.id at c.in-Some-key_interface.ensures in
    let below : c.in-Some-key_interface.id < c.args.exported.now.nodes = All-contains (λ i. i < c.args.exported.now.nodes) (exported_keys c.args.exports.now) c.in-Some-key_interface.id c.requires.in_range has in
    omega (arith, c.index.ensures, c.loop-key.invariant.nodes)
