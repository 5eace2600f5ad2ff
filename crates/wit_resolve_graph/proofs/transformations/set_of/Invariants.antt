use Rattle.std.proofs.Common.{take}
use Rattle.wit_resolve_graph.specs.steps.Parts.{HaveSameTexts}
use Rattle.wit_resolve_graph.proofs.transformations.set_of.Given as goal

abbrev pub invariant-loop-text : goal.invariant-loop-text
invariant-loop-text l = HaveSameTexts l.set (take l.text-index l.text-items)
