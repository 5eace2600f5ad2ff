use Rattle.std.proofs.Common.{◌<◌, ◌^◌, arith}
use Rattle.wit_merge_match.proofs.Passing.{none_passes, one_passes}
use Rattle.wit_merge_match.proofs.spans.spans_fit.Goals as goal

pub returns-clause-fit : goal.returns-clause-fit
returns-clause-fit c = λ fits. none_passes c.args.offset c.args.other.now (rw (c.as_slice.ensures, c.as_slice-2.ensures, c.as_slice-3.ensures) at (c.parts_fit.ensures.0 fits))

pub returns-clause-pass : goal.returns-clause-pass
returns-clause-pass c = λ passes.
    let small : c.args.offset < 2 ^ 32 = omega arith in
    one_passes c.args.offset c.args.other.now small
    (λ fits. let passed = c.parts_fit.ensures.1 (rw (c.as_slice.ensures, c.as_slice-2.ensures, c.as_slice-3.ensures) fits) in cc)
