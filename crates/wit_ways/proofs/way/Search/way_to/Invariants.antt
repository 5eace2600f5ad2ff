use Rattle.std.specs.Option.{option_map_or}
use Rattle.std.proofs.Common.{suc}
use Rattle.wit_ways.proofs.Searching.{IsBack}
use Rattle.wit_ways.proofs.way.Search.way_to.Given as goal

abbrev pub invariant-loop-next : goal.invariant-loop-next
invariant-loop-next l = IsBack l.arrows l.self l.at l.next l.way

abbrev pub decreases-loop-next : goal.decreases-loop-next
decreases-loop-next l = option_map_or suc l.next 0
