use Rattle.std.proofs.Common.{◌≡◌, ◌++◌, map}
use Rattle.std.specs.Vec.Iter.{into_iter_items}
use Rattle.wit_data.specs.declared.unresolved.UnresolvedPackage.{UnresolvedPackage}
use Rattle.wit_resolve_graph.proofs.groups.take_packages.Given as goal

-- the packages so far are at the end
abbrev pub invariant-loop-package : goal.invariant-loop-package
invariant-loop-package l = record {
  taken : l.packages ≡ l.initial.packages ++ map (λ (u : UnresolvedPackage). (u, l.fn.offset)) l.yielded;
  all : l.yielded ++ into_iter_items l.package-iterator ≡ l.fn.nested;
}
