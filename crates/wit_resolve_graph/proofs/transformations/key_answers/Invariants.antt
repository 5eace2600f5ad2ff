use Rattle.std.proofs.Common.{◌≡◌, length, take}
use Rattle.wit_resolve_graph.proofs.transformations.key_answers.Given as goal
use Rattle.wit_resolve_graph.specs.steps.Parts.{listed_answers}

-- the answers so far
abbrev pub invariant-loop-key : goal.invariant-loop-key
invariant-loop-key l = l.answers ≡ listed_answers l.graph l.keys (take (length l.yielded) l.imports)
