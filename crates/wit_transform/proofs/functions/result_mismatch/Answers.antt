use Rattle.std.proofs.Common.{rules}
use Rattle.wit_remap_spec.specs.FunctionMismatch.{results_differ}
use Rattle.wit_transform.proofs.functions.result_mismatch.Goals as goal

pub returns-in_ok-from_str-in-Some-Some-clause-some : goal.returns-in_ok-from_str-in-Some-Some-clause-some
returns-in_ok-from_str-in-Some-Some-clause-some c =
    results_differ c.in-Some-Some.ty c.in-Some-Some.other c.in-Some-Some.is-0 c.in-Some-Some.is-1
    (λ same. let told = c.are_of_one_sort.ensures.1 same in let not_told = c.if-are_of_one_sort.false in cc) c.in_ok-from_str-in-Some-Some.ensures.ok

pub returns-in-None-None-clause-none : goal.returns-in-None-None-clause-none
returns-in-None-None-clause-none c = search rules
