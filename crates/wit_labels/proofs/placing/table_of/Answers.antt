use Rattle.std.proofs.Common.{rules}
use Rattle.std.specs.Vec.Iter.{into_iter_items}
use Rattle.wit_labels.proofs.PlacingSteps.{key-new}
use Rattle.wit_labels.proofs.placing.table_of.Goals as goal

pub push-requires : goal.push-requires
push-requires c =
    key-new c.args.items c.loop-key.table (into_iter_items c.loop-key.key-iterator) (into_iter_items c.next.new.self) c.in-Some.key c.in-Some.item c.requires c.loop-key.invariant (search rules)
