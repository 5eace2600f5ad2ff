use Rattle.std.proofs.Common.{rules}
use Rattle.wit_validity.proofs.canonical.are_of.Goals as goal

pub returns-then-same_entries : goal.returns-then-same_entries
returns-then-same_entries c = search rules
