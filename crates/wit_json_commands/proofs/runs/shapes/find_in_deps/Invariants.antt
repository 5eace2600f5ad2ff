use Rattle.wit_data.specs.Shape.{IsGroupShaped}
use Rattle.wit_data.specs.facts.EachFacts.{EachBelow}
use Rattle.wit_json_commands.proofs.runs.shapes.find_in_deps.Given as goal

-- the first ones have it
abbrev pub invariant-loop-index : goal.invariant-loop-index
invariant-loop-index l = EachBelow l.index (λ _. IsGroupShaped) l.deps
