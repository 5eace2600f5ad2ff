use Rattle.wit_ways.specs.steps.Searching.{IsIndexUpTo}
use Rattle.wit_ways.proofs.way.ArrowIndex.of.Given as goal

abbrev pub invariant-loop-index : goal.invariant-loop-index
invariant-loop-index l = IsIndexUpTo l.arrows l.index (record { last = l.last; before = l.before })
