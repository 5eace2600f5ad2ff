use Rattle.std.proofs.Common.{length}
use Rattle.wit_transform.proofs.Steps.{FirstAgreeIn}
use Rattle.wit_transform.proofs.interfaces.interface_mismatch.Given as goal

-- the first ones agree
abbrev pub invariant-loop-name : goal.invariant-loop-name
invariant-loop-name l = FirstAgreeIn (length l.yielded) l.from.functions l.into
