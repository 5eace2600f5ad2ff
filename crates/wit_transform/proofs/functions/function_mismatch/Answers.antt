use Rattle.std.proofs.Common.{arith}
use Rattle.std.proofs.lemmas.Result.{IfOk-weaker}
use Rattle.wit_transform.proofs.Steps.{functions-agree, none-weaker}
use Rattle.wit_transform.proofs.functions.function_mismatch.Goals as goal

pub returns-in-Some-clause-some : goal.returns-in-Some-clause-some
returns-in-Some-clause-some c = rw c.in-Some.is at c.in_ok-text.ensures.some

pub returns-in-None-clause-none : goal.returns-in-None-clause-none
returns-in-None-clause-none c =
    IfOk-weaker c.result_mismatch.result _ _
    (λ found. none-weaker (functions-agree c.args.from.now c.args.into.now (c.are_of_one_kind.ensures.0 c.if-not-are_of_one_kind.false) (omega arith) (rw c.in-None.is at c.in_ok-text.ensures.none)) found)
    c.result_mismatch.ensures.none
