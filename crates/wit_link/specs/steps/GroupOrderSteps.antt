-- What the steps of sorting answer, for the contracts of this crate's own functions.
use Rattle.std.specs.Prelude.{◌≡◌, ◌⊎◌, ℕ, ◌<◌, List, [], ◌∷◌, map, None, Some, slice_get, IsPermutation, IsSorted, filter_map}
use Rattle.std.specs.List.{enumerate_from}
use Rattle.std.specs.Map.{keys_of, lookup, values_of}
use Rattle.wit_digraph.specs.Relation.{IsAcyclic}
use Rattle.wit_data.specs.Foreign.{ForeignItem}
use Rattle.wit_names.specs.PackageName.{package_cmp, same_package}
use Rattle.wit_sources.specs.Span.{moved_by}
use Rattle.wit_names.specs.declared.package_name.PackageName.{PackageName}
use Rattle.wit_data.specs.declared.unresolved.UnresolvedPackage.{UnresolvedPackage}
use Rattle.wit_graph_data.specs.declared.error_kind.ResolveErrorKind.{ResolveErrorKind}
use Rattle.wit_graph_data.specs.declared.error_kind.ResolveErrorKind.TheVariants.{DuplicatePackage, PackageCycle, OffsetOverflow}
use Rattle.wit_link.specs.GroupOrder.{IsGroupOrder, OptionalSpan, PassesLastPosition, Unresolved, group_uses, names_of}

-- each name with its place
abbrev pub indices_of_names : List PackageName → List (PackageName × ℕ)
indices_of_names names = map (λ (p : ℕ × PackageName). (p.1, p.0)) (enumerate_from 0 names)

-- the places that are found of what a package depends on
abbrev pub found_deps : List (PackageName × ℕ) → UnresolvedPackage → List ℕ
found_deps places u =
    filter_map (λ (e : PackageName × List ForeignItem). lookup (same_package e.0) places)
    u.foreign_deps

-- the places of names, in the order of the names
pub record AreByName (places : List (PackageName × ℕ)) (roots : List ℕ) : Type 0 where
  pub entries : List (PackageName × ℕ)
  pub all : IsPermutation places entries
  pub sorted : IsSorted package_cmp (keys_of entries)
  pub are : roots ≡ values_of entries

-- what is told of two packages of one name
abbrev pub IsDefinedTwiceError : Unresolved → Unresolved → ResolveErrorKind → Type 0
IsDefinedTwiceError later earlier (DuplicatePackage name span1 span2) =
    (name ≡ later.0.name) × (span1 ≡ moved_by later.1 later.0.package_name_span)
    × (span2 ≡ moved_by earlier.1 earlier.0.package_name_span)
IsDefinedTwiceError later earlier OffsetOverflow =
    PassesLastPosition (moved_by later.1 later.0.package_name_span)
    ⊎ PassesLastPosition (moved_by earlier.1 earlier.0.package_name_span)
IsDefinedTwiceError later earlier _ = ⊥

-- what is told of a dependency on this package, at this place before it moves by an offset, that is on a cycle
abbrev pub IsCycleError : OptionalSpan → ℕ → PackageName → ResolveErrorKind → Type 0
IsCycleError place offset home (PackageCycle span name) =
    (span ≡ moved_by offset place) × (name ≡ home)
IsCycleError place offset home OffsetOverflow = PassesLastPosition (moved_by offset place)
IsCycleError place offset home _ = ⊥

-- a package names things of this package, there
pub record NamesAt (u : UnresolvedPackage) (name : PackageName) (place : OptionalSpan) : Type 0
  where
    pub at : ℕ
    pub items : List ForeignItem
    pub names : slice_get u.foreign_deps at ≡ Some (name, items)
    pub span_is : slice_get u.foreign_dep_spans at ≡ Some place

-- an order of the packages, of which no two have one name
pub record IsOrdered (unresolved : List Unresolved) (order : List ℕ) : Type 0 where
  pub is : IsGroupOrder unresolved order
  pub acyclic : IsAcyclic (group_uses unresolved)
  pub differ : (i j : ℕ) (name : PackageName) → i < j
      → slice_get (names_of unresolved) i ≡ Some name
      → slice_get (names_of unresolved) j ≡ Some name → ⊥

-- one package, which doesn't name things of itself
abbrev pub IsAlone : List Unresolved → Type 0
IsAlone unresolved =
    (p : Unresolved) × (unresolved ≡ p ∷ [])
    × (lookup (same_package p.0.name) p.0.foreign_deps ≡ None)
