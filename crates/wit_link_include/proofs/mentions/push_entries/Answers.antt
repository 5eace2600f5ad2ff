use Rattle.std.proofs.Common.{refl}
use Rattle.std.specs.List.{flat_map}
use Rattle.std.specs.Map.Iter.{deref_pair}
use Rattle.std.proofs.lemmas.Map.Iter.{rest_more, rest_all}
use Rattle.wit_link_spec.specs.Include.{entry_mentions}
use Rattle.wit_link_include.proofs.Steps.{flat_more, nothing_left}
use Rattle.wit_link_include.proofs.mentions.push_entries.Goals as goal

pub loop-item-preserved : goal.loop-item-preserved
loop-item-preserved c =
    flat_more (entry_mentions c.args.origin.now.graph.now c.args.origin.now.world.now) c.loop-item.ids c.push_item.new.ids _ _ _ _
    (rest_more deref_pair _ _ _ _ c.in-Some.is c.next.ensures.steps) c.loop-item.invariant (c.in_ok-push_item.ensures c.in-Some.field-0-0.now)

pub returns : goal.returns
returns c =
    nothing_left (flat_map (entry_mentions c.args.origin.now.graph.now c.args.origin.now.world.now)) c.loop-item.ids _ _ (rest_all deref_pair _ _ _ c.in-None.is c.next.ensures.steps) refl c.loop-item.invariant
