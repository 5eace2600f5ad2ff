use Rattle.std.proofs.Common.{rules}
use Rattle.wit_transform.proofs.functions.are_of_one_kind.Goals as goal

pub returns : goal.returns
returns c = search rules
