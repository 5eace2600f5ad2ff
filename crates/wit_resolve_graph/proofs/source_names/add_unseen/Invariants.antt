use Rattle.std.proofs.Common.{◌≡◌, ℕ, Bor, List, map, take}
use Rattle.wit_resolve_graph.specs.steps.Seen.{with_all}
use Rattle.wit_resolve_graph.proofs.source_names.add_unseen.Given as goal

abbrev pub invariant-loop-name : goal.invariant-loop-name
invariant-loop-name l = record {
  seen : l.seen ≡ with_all l.initial.seen (take l.name-index l.names);
  found : map (λ (name : Bor (List ℕ)). name.now) l.found.items ≡ l.seen;
}
