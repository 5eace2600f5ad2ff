use Rattle.wit_data.specs.Shape.{IsShaped}
use Rattle.wit_data.specs.facts.EachFacts.{EachBelow}
use Rattle.wit_json_commands.proofs.runs.shapes.find_among.Given as goal

-- the first ones have it
abbrev pub invariant-loop-index : goal.invariant-loop-index
invariant-loop-index l = EachBelow l.index (λ _. IsShaped) l.packages
