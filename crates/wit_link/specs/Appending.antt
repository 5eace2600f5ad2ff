-- What adding has to make of a graph: of one package, of several one after another, all or none, and of groups: their
-- order, and why none of them is added.
-- Source: `append`, `sort_unresolved_packages` and `visit` of wit-parser 0.263.0.
use Rattle.std.specs.Prelude.{◌≡◌, ℕ, length, List, [], ◌∷◌, ◌++◌, ◌⊎◌, ◌≤◌, ◌^◌, ◌+◌, map}
use Rattle.wit_data.specs.Shape.{IsShaped}
use Rattle.wit_data.specs.declared.unresolved.UnresolvedPackage.{UnresolvedPackage}
use Rattle.wit_data.specs.declared.unresolved.UnresolvedPackageGroup.{UnresolvedPackageGroup}
use Rattle.wit_graph_data.specs.Error.{NoCause}
use Rattle.wit_graph_data.specs.declared.features.Features.{Features}
use Rattle.wit_graph_data.specs.declared.graph.Graph.{Graph}
use Rattle.wit_graph_data.specs.declared.error_kind.ResolveErrorKind.{ResolveErrorKind}
use Rattle.wit_graph_data.specs.declared.error_kind.ResolveErrorKind.TheVariants.{OffsetOverflow}
use Rattle.wit_link.specs.GroupOrder.{AreSorted, IsSortCause, Unresolved}
pub use Rattle.wit_link.specs.Caches.{AreCachesOf, HaveGrown}
use Rattle.wit_link_spec.specs.Addition.{Addition}
use Rattle.wit_link_spec.specs.Cause.{IsAdditionCause}
use Rattle.wit_link_spec.specs.Added.{added}

-- the addition of a package to a graph, under features, its spans moved by an offset
abbrev pub addition : Features → Graph → UnresolvedPackage → ℕ → Addition
addition features g u offset =
    record { features = features; graph = g; unresolved = u; offset = offset }

-- the package is added: no cause holds against it, the graph is what comes of it, and its id is the next one
pub record IsAdded (a : Addition) (new : Graph) (id : ℕ) : Type 0 where
  pub accepted : NoCause (IsAdditionCause a)
  pub graph_is : new ≡ added a
  pub id_is : id ≡ length a.graph.packages

-- a package, with the offset of its spans, that has its shape
abbrev pub CanAppend : Unresolved → Type 0
CanAppend unresolved = IsShaped unresolved.0

-- packages accepted one after another take the graph g to new and get these ids
abbrev pub AreAdded : Features → Graph → List Unresolved → Graph → List ℕ → Type 0
AreAdded features g [] new [] = new ≡ g
AreAdded features g (p ∷ ps) new (id ∷ ids) =
    (mid : Graph) × IsAdded (addition features g p.0 p.1) mid id × AreAdded features mid ps new ids
AreAdded features g [] new (id ∷ ids) = ⊥
AreAdded features g (p ∷ ps) new [] = ⊥

-- one of several packages has a reason to be refused with this error, in what those before it make of the graph
pub record IsOneRefused (features : Features) (g : Graph) (packages : List Unresolved)
    (error : ResolveErrorKind) : Type 0 where
  pub before : List Unresolved
  pub p : Unresolved
  pub after : List Unresolved
  pub packages_are : packages ≡ before ++ p ∷ after
  pub mid : Graph
  pub ids : List ℕ
  pub pushed : AreAdded features g before mid ids
  pub cause : IsAdditionCause (addition features mid p.0 p.1) error

-- the packages of groups, the nested ones of a group before its main one, where the files of the first
-- group begin at this position and those of the others follow
abbrev pub packages_of : ℕ → List UnresolvedPackageGroup → List Unresolved
packages_of at [] = []
packages_of at (group ∷ groups) =
    map (λ (u : UnresolvedPackage). (u, at)) (group.nested ++ group.main ∷ [])
    ++ packages_of (at + group.source_map.end) groups

-- ---- refusals

-- adding unresolved packages has a reason to be refused with this error: they can be sorted, and one of them
-- can't be added to what those before it make of the graph
pub record IsAdditionsCause (features : Features) (g : Graph) (unresolved : List Unresolved)
    (error : ResolveErrorKind) : Type 0 where
  pub sortable : NoCause (IsSortCause unresolved)
  pub order : List ℕ
  pub sorted : List Unresolved
  pub are_sorted : AreSorted unresolved order sorted
  pub refused : IsOneRefused features g sorted error

-- where the files of groups end that begin at this position
abbrev pub files_end : ℕ → List UnresolvedPackageGroup → ℕ
files_end at [] = at
files_end at (group ∷ groups) = files_end (at + group.source_map.end) groups

-- 27: they end past 4294967295
abbrev pub FilesPassTheEnd : ℕ → List UnresolvedPackageGroup → ResolveErrorKind → Type 0
FilesPassTheEnd at groups OffsetOverflow = 2 ^ 32 ≤ files_end at groups
FilesPassTheEnd at groups _ = ⊥

-- the addition of groups, whose files begin at this position, has a reason to be refused with this
-- error: in sorting them, in one package, or in the end of their files
abbrev pub IsGroupsCause : Features → Graph → ℕ → List UnresolvedPackageGroup → ResolveErrorKind
    → Type 0
IsGroupsCause features g at groups error =
    IsSortCause (packages_of at groups) error
    ⊎ (IsAdditionsCause features g (packages_of at groups) error
    ⊎ FilesPassTheEnd at groups error)
