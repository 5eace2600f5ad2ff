use Rattle.std.proofs.Common.{rules}
use Rattle.wit_resolve_graph.proofs.KeptRows.{none_known}
use Rattle.wit_resolve_graph.proofs.kept.Kept.of.Goals as goal

pub add_valid_bits-requires-clause-known : goal.add_valid_bits-requires-clause-known
add_valid_bits-requires-clause-known c = none_known c.as_slice.result.now c.new-valid_bits.result c.new-valid_bits.ensures

pub returns : goal.returns
returns c = record {
  valid = c.requires;
  caches = search rules;
  bits = search rules;
}
