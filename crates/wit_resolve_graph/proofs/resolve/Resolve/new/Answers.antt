use Rattle.std.proofs.Common.{◌∙◌, length, ap, sym}
use Rattle.wit_data.specs.Uses.{uses_of}
use Rattle.wit_link_resources.specs.facts.MetTypes.{right-begun}
use Rattle.wit_resolve_graph.proofs.EmptyGraph.{valid_without}
use Rattle.wit_resolve_graph.proofs.KeptRows.{none_known}
use Rattle.wit_resolve_graph.proofs.resolve.Resolve.new.Goals as goal

pub invariant_of-result : goal.invariant_of-result
invariant_of-result c = record {
  valid = valid_without c.new.result c.new.ensures.types c.new.ensures.interfaces c.new.ensures.worlds c.new.ensures.packages c.new.ensures.names;
  caches = record {
    uses = c.empty.ensures.uses ∙ ap (uses_of c.new.result.types) (sym c.new.ensures.interfaces);
    met = right-begun c.new.result.types c.empty.result.caches.met c.empty.ensures.met;
  };
  bits = record {
    each = ap length c.empty.ensures.bits ∙ ap length (sym c.new.ensures.types);
    exact = none_known c.new.result.types c.empty.result.valid_bits c.empty.ensures.bits;
  };
}
