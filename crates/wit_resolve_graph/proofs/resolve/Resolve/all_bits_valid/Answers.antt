use Rattle.wit_queries.specs.facts.ValidBitsFacts.{valid_by_flags}
use Rattle.wit_resolve_graph.proofs.resolve.Resolve.all_bits_valid.Goals as goal

pub returns : goal.returns
returns c = rw c.is_valid_by.ensures (valid_by_flags c.args.self.now.graph.types c.valid_bits.result.now c.valid_bits.ensures c.args.ty)
