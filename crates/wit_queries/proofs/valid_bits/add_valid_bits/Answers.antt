use Rattle.wit_queries.proofs.ValidBits.{told}
use Rattle.wit_queries.proofs.valid_bits.add_valid_bits.Goals as goal

pub returns-clause-ok : goal.returns-clause-ok
returns-clause-ok c =
    told c.args.types.now c.settle.new.flags c.len-first.result c.settle.ensures.below (c.settle.ensures.settled c.loop-test.false) c.settle.ensures.each c.settle.ensures.off
