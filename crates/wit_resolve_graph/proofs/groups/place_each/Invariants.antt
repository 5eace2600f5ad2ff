use Rattle.std.proofs.Common.{◌≡◌, ◌<◌, ◌^◌, ◌∷◌, ◌++◌}
use Rattle.std.specs.Vec.Iter.{into_iter_items}
use Rattle.wit_link.specs.Appending.{files_end, packages_of}
use Rattle.wit_resolve_graph.specs.Step.{with_files}
use Rattle.wit_resolve_graph.proofs.groups.place_each.Given as goal

-- the groups so far are placed
abbrev pub invariant-loop-group : goal.invariant-loop-group
invariant-loop-group l = record {
  files : l.source_map ≡ with_files l.fn.source_map (l.fn.main ∷ l.yielded);
  packages : l.packages ≡ packages_of l.fn.source_map.end (l.fn.main ∷ l.yielded);
  fits : files_end l.fn.source_map.end (l.fn.main ∷ l.yielded) < 2 ^ 32;
  all : l.yielded ++ into_iter_items l.group-iterator ≡ l.fn.deps;
}
