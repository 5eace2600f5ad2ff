use Rattle.std.proofs.Common.{rules}
use Rattle.wit_remap.proofs.remap.Remap.packages.Goals as goal

pub returns : goal.returns
returns c = search rules
