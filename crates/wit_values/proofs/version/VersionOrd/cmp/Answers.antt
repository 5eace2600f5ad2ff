use Rattle.std.proofs.Common.{rules}
use Rattle.wit_values.proofs.version.VersionOrd.cmp.Goals as goal

pub returns : goal.returns
returns c = search rules
