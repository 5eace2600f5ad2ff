use Rattle.std.proofs.Common.{◌≡◌, ◌++◌, string_bytes}
use Rattle.wit_print.specs.steps.Pieces.{stack_steps, stack_text}
use Rattle.wit_print.proofs.types.write_pieces.Given as goal

-- with the pieces that are left it has all
abbrev pub invariant-loop-piece : goal.invariant-loop-piece
invariant-loop-piece l = string_bytes l.text ++ stack_text l.types l.stack ≡ string_bytes l.fn.text ++ stack_text l.types l.fn.stack

abbrev pub decreases-loop-piece : goal.decreases-loop-piece
decreases-loop-piece l = stack_steps l.types l.stack
