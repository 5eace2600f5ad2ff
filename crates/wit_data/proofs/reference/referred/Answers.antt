use Rattle.std.proofs.Common.{rules}
use Rattle.wit_data.specs.facts.KindFacts.{names_same}
use Rattle.wit_data.proofs.reference.referred.Goals as goal

pub returns : goal.returns
returns c = rw (← names_same c.args.kind.now) (search rules)
