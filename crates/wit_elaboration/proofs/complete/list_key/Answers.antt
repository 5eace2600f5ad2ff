use Rattle.std.proofs.Common.{[]}
use Rattle.wit_digraph.specs.facts.MemberFacts.{Contains-here}
use Rattle.wit_elaboration.proofs.complete.list_key.Goals as goal

pub push-requires-clause-new : goal.push-requires-clause-new
push-requires-clause-new c = λ has. c.requires.new c.index.result (rw (c.in-Interface.is, c.index.ensures) (Contains-here c.in-Interface.id [])) has
