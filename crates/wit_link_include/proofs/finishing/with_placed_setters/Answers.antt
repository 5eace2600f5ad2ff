use Rattle.std.proofs.Common.{rules}
use Rattle.wit_link_include.proofs.finishing.with_placed_setters.Goals as goal

pub returns : goal.returns
returns c = search rules
