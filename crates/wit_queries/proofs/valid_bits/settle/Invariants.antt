use Rattle.wit_queries.proofs.ValidBits.{IsSettling}
use Rattle.wit_queries.proofs.valid_bits.settle.Given as goal

abbrev pub invariant-loop-place : goal.invariant-loop-place
invariant-loop-place l = IsSettling l.types l.first l.fn.flags l.settled l.flags l.place
