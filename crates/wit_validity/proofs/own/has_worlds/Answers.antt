use Rattle.std.proofs.Common.{rules}
use Rattle.wit_validity.proofs.own.has_worlds.Goals as goal

pub returns : goal.returns
returns c = search rules
