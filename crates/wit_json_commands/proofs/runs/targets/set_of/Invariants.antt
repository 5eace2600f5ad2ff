use Rattle.std.proofs.Common.{take}
use Rattle.wit_resolve_graph.specs.steps.Parts.{HaveSameTexts}
use Rattle.wit_json_commands.proofs.runs.targets.set_of.Given as goal

-- the set has the first texts
abbrev pub invariant-loop-text : goal.invariant-loop-text
invariant-loop-text l = HaveSameTexts l.set (take l.text-index l.texts)
