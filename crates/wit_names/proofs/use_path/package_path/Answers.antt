use Rattle.std.proofs.Common.{rules}
use Rattle.wit_names.proofs.use_path.package_path.Goals as goal

pub returns : goal.returns
returns c = search rules
