use Rattle.wit_data.specs.facts.EachFacts.{EachBelow}
use Rattle.wit_shape.proofs.worlds.includes.Given as goal
use Rattle.wit_data.specs.steps.Parts.{IncludesEarlier}

-- it holds of the first ones
abbrev pub invariant-loop-index : goal.invariant-loop-index
invariant-loop-index l = EachBelow l.index (IncludesEarlier) l.worlds
