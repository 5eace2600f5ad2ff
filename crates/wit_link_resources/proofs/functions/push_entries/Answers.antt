use Rattle.std.specs.Map.Iter.{deref_pair}
use Rattle.std.proofs.lemmas.Map.Iter.{rest_more, rest_all}
use Rattle.wit_data.specs.Entries.{Entry}
use Rattle.wit_link_resources.specs.steps.Active.{active_item, seen}
use Rattle.wit_link_resources.proofs.Ranges.{left-next, left-none}
use Rattle.wit_link_resources.proofs.functions.push_entries.Goals as goal

pub loop-item-preserved : goal.loop-item-preserved
loop-item-preserved c =
    left-next (λ (e : Entry). active_item c.args.features.now e.1) (seen c.loop-item.functions.items) (seen c.push_item.new.functions.items) _ _ _ _
    (rest_more deref_pair _ _ _ _ c.in-Some.is c.next.ensures.steps) c.loop-item.invariant c.in_ok-push_item.ensures

pub returns : goal.returns
returns c =
    left-none (λ (e : Entry). active_item c.args.features.now e.1) (seen c.loop-item.functions.items) _ _
    (rest_all deref_pair _ _ _ c.in-None.is c.next.ensures.steps) c.loop-item.invariant
