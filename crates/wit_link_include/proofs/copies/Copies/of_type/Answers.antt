use Rattle.std.proofs.Common.{rules}
use Rattle.wit_link_include.proofs.copies.Copies.of_type.Goals as goal

pub returns : goal.returns
returns c = search rules
