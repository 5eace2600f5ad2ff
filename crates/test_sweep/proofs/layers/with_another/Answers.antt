use Rattle.std.proofs.Common.{rules}
use Rattle.test_sweep.proofs.layers.with_another.Goals as goal

pub returns : goal.returns
returns c = (c.new.result, search rules)
