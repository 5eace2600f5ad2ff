use Rattle.std.proofs.Common.{rules}
use Rattle.wit_transform.proofs.new_lists.type_exported.Goals as goal

pub returns : goal.returns
returns c = search rules
