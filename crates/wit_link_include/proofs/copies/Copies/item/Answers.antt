use Rattle.std.proofs.Common.{rules}
use Rattle.wit_link_include.proofs.copies.Copies.item.Goals as goal

pub returns : goal.returns
returns c = search rules
