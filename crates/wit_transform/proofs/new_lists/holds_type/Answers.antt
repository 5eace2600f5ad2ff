use Rattle.std.proofs.Common.{rules}
use Rattle.wit_transform.proofs.new_lists.holds_type.Goals as goal

pub returns-in-Type_ : goal.returns-in-Type_
returns-in-Type_ c = search rules
