use Rattle.std.proofs.Common.{rules}
use Rattle.wit_link_lookup.proofs.foreign.interface_of.Goals as goal

pub returns : goal.returns
returns c = search rules
