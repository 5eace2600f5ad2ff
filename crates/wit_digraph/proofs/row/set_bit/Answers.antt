use Rattle.std.proofs.Common.{arith}
use Rattle.wit_digraph.specs.facts.BitFacts.{bit_of-set_same, bit_of-set_other}
use Rattle.wit_digraph.proofs.row.set_bit.Goals as goal

pub returns-clause-set : goal.returns-clause-set
returns-clause-set c = bit_of-set_same c.args.row.now c.args.i (omega arith)

pub returns-clause-others : goal.returns-clause-others
returns-clause-others c = λ k apart. bit_of-set_other c.args.row.now c.args.i k (omega arith) apart
