use native.Mathlib.Omega.{arith}
use Rattle.std.proofs.Common.{◌∙◌, sym, rules}
use Rattle.wit_sources.proofs.Starts.{start_before, start_first, start_there}
use Rattle.wit_sources.proofs.shown.start_up_to.Goals as goal

pub loop-start-preserved : goal.loop-start-preserved
loop-start-preserved c = record {
  within = omega (arith, c.loop-start.invariant.within);
  same = sym (start_before c.loop-start.start c.args.bytes.now (omega arith) (search rules)) ∙ c.loop-start.invariant.same;
}

pub returns-else-not-is_char_start-clause-value : goal.returns-else-not-is_char_start-clause-value
returns-else-not-is_char_start-clause-value c = sym (start_there c.loop-start.start c.args.bytes.now (search rules)) ∙ c.loop-start.invariant.same

pub returns-after-loop-start-clause-value : goal.returns-after-loop-start-clause-value
returns-after-loop-start-clause-value c = sym (start_first c.loop-start.start c.args.bytes.now (omega arith)) ∙ c.loop-start.invariant.same
