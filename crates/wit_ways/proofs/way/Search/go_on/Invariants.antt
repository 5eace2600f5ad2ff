use Rattle.std.specs.Option.{option_map_or}
use Rattle.std.proofs.Common.{suc}
use Rattle.wit_ways.proofs.Searching.{AreDone}
use Rattle.wit_ways.specs.steps.Searching.{GoesOn}
use Rattle.wit_ways.proofs.way.Search.go_on.Given as goal

abbrev pub invariant-loop-next : goal.invariant-loop-next
invariant-loop-next l = record {
  on : GoesOn l.arrows l.goals l.from l.met l.before l.initial.self l.self;
  done : AreDone l.arrows l.goals l.self l.from l.met l.next;
}

abbrev pub decreases-loop-next : goal.decreases-loop-next
decreases-loop-next l = option_map_or suc l.next 0
