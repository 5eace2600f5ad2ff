-- Packages that are added together: which depend on which, in which order they are added, and why they
-- can't be put in an order.
-- Source: `sort_unresolved_packages` and `visit` of wit-parser 0.263.0.
use Rattle.std.specs.Prelude.{◌≡◌, ◌⊎◌, ◌≤◌, ◌<◌, ◌^◌, ℕ, List, map, length, slice_get, Some, IsPermutation, IsSortedByKey, position, filter_map, flat_map}
use Rattle.std.specs.List.{AllZip, range_with_len}
use Rattle.std.specs.Option.{option_cmp}
use Rattle.wit_digraph.specs.Cycles.{IsOnCycle}
use Rattle.wit_digraph.specs.Relation.{Reaches}
use Rattle.wit_digraph.specs.PostOrder.{first_of_each, post_order}
use Rattle.wit_data.specs.Each.{Each, SomeAt}
use Rattle.wit_data.specs.Foreign.{ForeignItem}
use Rattle.wit_names.specs.PackageName.{package_cmp, same_package}
use Rattle.wit_sources.specs.Span.{moved_by}
pub use Rattle.wit_sources.specs.Span.{OptionalSpan}
use Rattle.wit_names.specs.declared.package_name.PackageName.{PackageName}
use Rattle.wit_data.specs.declared.unresolved.UnresolvedPackage.{UnresolvedPackage}
use Rattle.wit_graph_data.specs.declared.error_kind.ResolveErrorKind.{ResolveErrorKind}
use Rattle.wit_graph_data.specs.declared.error_kind.ResolveErrorKind.TheVariants.{DuplicatePackage, PackageCycle, OffsetOverflow}

-- an unresolved package, and the offset by which its spans move
abbrev pub Unresolved : Type 0
Unresolved = UnresolvedPackage × ℕ

-- each package has a place for each package that it depends on
abbrev pub HaveSpans : List Unresolved → Type 0
HaveSpans unresolved =
    Each (λ (p : Unresolved). length p.0.foreign_dep_spans ≡ length p.0.foreign_deps) unresolved

-- ---- dependencies

-- the names of unresolved packages
abbrev pub names_of : List Unresolved → List PackageName
names_of unresolved = map (λ (p : Unresolved). p.0.name) unresolved

-- list i: the unresolved packages that unresolved package i names things of, in the order in which it does, itself where
-- it names things of itself; one that isn't handed in is passed over
abbrev pub group_uses : List Unresolved → List (List ℕ)
group_uses unresolved =
    map (λ (p : Unresolved).
    filter_map (λ (e : PackageName × List ForeignItem).
    position (same_package e.0) (names_of unresolved)) p.0.foreign_deps) unresolved

-- ---- the order

-- each package after those that it depends on, and else in the order of names
pub record IsGroupOrder (unresolved : List Unresolved) (order : List ℕ) : Type 0 where
  pub roots : List ℕ
  pub all : IsPermutation (range_with_len 0 (length unresolved)) roots
  pub by_name : IsSortedByKey (slice_get (names_of unresolved)) (option_cmp package_cmp) roots
  pub is : order ≡ first_of_each (flat_map (post_order (group_uses unresolved)) roots)

-- the unresolved packages in such an order
pub record AreSorted (unresolved : List Unresolved) (order : List ℕ)
    (sorted : List Unresolved) : Type 0 where
  pub is_order : IsGroupOrder unresolved order
  pub are : AllZip (λ i (p : Unresolved). slice_get unresolved i ≡ Some p) order sorted

-- ---- refusals

-- 5: two unresolved packages have this name, and their names stand there, the later one's first
pub record IsDefinedTwice (unresolved : List Unresolved) (name : PackageName)
    (span1 span2 : OptionalSpan) : Type 0 where
  pub earlier : ℕ
  pub later : ℕ
  pub before : earlier < later
  pub first : SomeAt unresolved earlier
      (λ (p : Unresolved). (p.0.name ≡ name) × (span2 ≡ moved_by p.1 p.0.package_name_span))
  pub second : SomeAt unresolved later
      (λ (p : Unresolved). (p.0.name ≡ name) × (span1 ≡ moved_by p.1 p.0.package_name_span))

-- unresolved package `user` names things of unresolved package `used`, there
pub record DependsAt (unresolved : List Unresolved) (user used : ℕ) (span : OptionalSpan) : Type 0
  where
    pub p : Unresolved
    pub place : ℕ
    pub name : PackageName
    pub items : List ForeignItem
    pub is : slice_get unresolved user ≡ Some p
    pub names : slice_get p.0.foreign_deps place ≡ Some (name, items)
    pub used_is : slice_get (names_of unresolved) used ≡ Some name
    pub span_is : SomeAt p.0.foreign_dep_spans place (λ (s : OptionalSpan). span ≡ moved_by p.1 s)

-- 6: the package of this name is on a cycle, and a dependency on the same cycle stands there
pub record IsOnPackageCycle (unresolved : List Unresolved) (span : OptionalSpan)
    (home : PackageName) : Type 0 where
  pub user : ℕ
  pub used : ℕ
  pub told : ℕ
  pub on_cycle : IsOnCycle (group_uses unresolved) user used
  pub depends : DependsAt unresolved user used span
  pub to_told : Reaches (group_uses unresolved) used told
  pub from_told : Reaches (group_uses unresolved) told user
  pub is : slice_get (names_of unresolved) told ≡ Some home

-- the place ends past 4294967295
abbrev pub PassesLastPosition : OptionalSpan → Type 0
PassesLastPosition place = (from : ℕ) × (to : ℕ) × (place ≡ Some (from, to)) × (2 ^ 32 ≤ to)

-- sorting unresolved packages has a reason to be refused with this error: 5, 6, or 27 where a place that one of these would
-- tell is too far
abbrev pub IsSortCause : List Unresolved → ResolveErrorKind → Type 0
IsSortCause unresolved (DuplicatePackage name span1 span2) =
    IsDefinedTwice unresolved name span1 span2
IsSortCause unresolved (PackageCycle span home) = IsOnPackageCycle unresolved span home
IsSortCause unresolved OffsetOverflow =
    ((name : PackageName) × (span1 : OptionalSpan) × (span2 : OptionalSpan)
    × IsDefinedTwice unresolved name span1 span2
    × (PassesLastPosition span1 ⊎ PassesLastPosition span2))
    ⊎ ((span : OptionalSpan) × (home : PackageName) × IsOnPackageCycle unresolved span home
    × PassesLastPosition span)
IsSortCause unresolved _ = ⊥
