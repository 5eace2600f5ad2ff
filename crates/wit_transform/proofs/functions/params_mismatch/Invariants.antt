use Rattle.wit_transform.proofs.Steps.{FirstAgree}
use Rattle.wit_transform.proofs.functions.params_mismatch.Given as goal

-- the first ones agree
abbrev pub invariant-loop-index : goal.invariant-loop-index
invariant-loop-index l = FirstAgree l.index l.from.params l.into.params
