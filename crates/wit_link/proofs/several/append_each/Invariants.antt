use Rattle.std.proofs.Common.{◌≡◌, ◌++◌}
use Rattle.std.specs.List.{AllByRecursion}
use Rattle.std.specs.Vec.Iter.{into_iter_items}
use Rattle.wit_elaboration.specs.Valid.{IsValid}
use Rattle.wit_link.specs.Appending.{AreAdded, CanAppend}
use Rattle.wit_link.specs.Caches.{AreCachesOf, HaveGrown}
use Rattle.wit_remap.specs.Grown.{Grown}
use Rattle.wit_link.proofs.several.append_each.Given as goal

-- the packages so far are added, and those that are left can be
abbrev pub invariant-loop-package : goal.invariant-loop-package
invariant-loop-package l = record {
  pushed : AreAdded l.fn.features l.initial.graph l.yielded l.graph l.ids;
  valid : IsValid l.graph;
  caches : AreCachesOf l.graph l.caches;
  grown : Grown l.initial.graph l.graph;
  known : HaveGrown l.initial.caches l.caches;
  left : AllByRecursion CanAppend (into_iter_items l.package-iterator);
  all : l.yielded ++ into_iter_items l.package-iterator ≡ l.fn.packages;
}
