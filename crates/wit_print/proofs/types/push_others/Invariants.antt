use Rattle.std.proofs.Common.{◌≡◌, ◌++◌, drop}
use Rattle.wit_print.specs.steps.Pieces.{others_pieces}
use Rattle.wit_print.proofs.types.push_others.Given as goal

-- the pieces of the last types
abbrev pub invariant-loop-index : goal.invariant-loop-index
invariant-loop-index l = l.stack ≡ l.fn.stack ++ others_pieces (drop l.index l.types) l.depth
