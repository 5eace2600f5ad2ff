-- Laws of merging where the one graph is empty, or both are the same: nothing gets a new name, and ids stay.
use Rattle.std.specs.Prelude.{◌≡◌, ℕ, [], ◌∷◌, Contains, Some, slice_get}
use Rattle.wit_data.specs.Each.{EachAt}
use Rattle.wit_data.specs.declared.interface.Interface.{Interface}
use Rattle.wit_data.specs.declared.types.TypeDef.{TypeDef}
use Rattle.wit_data.specs.declared.types.TypeOwner.{TypeOwner}
use Rattle.wit_data.specs.declared.types.TypeOwner.TheVariants as owner
use Rattle.wit_data.specs.declared.world.World.{World}
use Rattle.wit_elaboration.specs.examples.Examples.{empty_graph}
use Rattle.wit_elaboration.specs.Valid.{IsValid}
use Rattle.wit_graph_data.specs.Error.{error_number}
use Rattle.wit_graph_data.specs.declared.error_kind.ResolveErrorKind.{ResolveErrorKind}
use Rattle.wit_graph_data.specs.declared.graph.Graph.{Graph}
use Rattle.wit_graph_data.specs.declared.graph.Package.{Package}
use Rattle.wit_merge_spec.specs.Cause.{IsMergeCause, MergeIsAccepted}
use Rattle.wit_merge_spec.specs.Matches.{GraphMerge}
use Rattle.wit_merge_spec.specs.Merged.{joined_graph, merged_interface, merged_package, merged_type, merged_world, merged}
use Rattle.wit_merge_laws.specs.laws.MergingLaws.{merge_of_graphs}
use Rattle.wit_merge_laws.specs.laws.Names.{HaveSameNames, InterfaceName, IsNamedSo}
use Rattle.wit_merge_laws.specs.laws.OrderLaws.{AreAlike}

-- ---- into an empty graph

-- an empty graph into which a valid one goes has its names, labels and keys
abbrev pub EmptyBecomesAlike : Type 0
EmptyBecomesAlike =
    (g : Graph) (offset : ℕ) → IsValid g
    → AreAlike g (merged (merge_of_graphs empty_graph g offset))

-- its packages and what stands in their tables are those of the other, and each thing keeps its id
pub record KeepsIds (m : GraphMerge) : Type 0 where
  pub packages : (merged m).packages ≡ m.other.packages
  pub package_names : (merged m).package_names ≡ m.other.package_names
  pub types : (t : ℕ) → merged_type m t ≡ t
  pub interfaces : (i : ℕ) → merged_interface m i ≡ i
  pub worlds : (w : ℕ) → merged_world m w ≡ w
  pub package_ids : (p : ℕ) → merged_package m p ≡ p

abbrev pub EmptyKeepsIds : Type 0
EmptyKeepsIds = (g : Graph) (offset : ℕ) → KeepsIds (merge_of_graphs empty_graph g offset)

-- ---- with a copy of itself

-- an interface has a name, or stands under a label of a world
abbrev pub IsPlaced : Graph → ℕ → Type 0
IsPlaced g i = (name : InterfaceName) × IsNamedSo g name i

-- a type has a name in a world, or in an interface that is placed
abbrev pub IsPlacedType : Graph → TypeOwner → Type 0
IsPlacedType g (owner.Interface i) = IsPlaced g i
IsPlacedType g (owner.World w) = Unit {0}
IsPlacedType g owner.None = ⊥

-- a graph with which a copy of it is merged: what it has stays as it is, until worlds are elaborated, and what has a name
-- is where its copy goes
pub record StaysItself (g : Graph) (m : GraphMerge) : Type 0 where
  pub packages : (merged m).packages ≡ g.packages
  pub package_names : (merged m).package_names ≡ g.package_names
  pub worlds : (joined_graph m).worlds ≡ g.worlds
  pub interfaces : EachAt
      (λ i (interface : Interface). slice_get (merged m).interfaces i ≡ Some interface)
      g.interfaces
  pub types : EachAt (λ t (def : TypeDef). slice_get (merged m).types t ≡ Some def) g.types
  pub package_ids : EachAt (λ p (home : Package). merged_package m p ≡ p) g.packages
  pub world_ids : EachAt (λ w (world : World). merged_world m w ≡ w) g.worlds
  pub interface_ids : (i : ℕ) → IsPlaced g i → merged_interface m i ≡ i
  pub type_ids : EachAt (λ t (def : TypeDef). IsPlacedType g def.owner → merged_type m t ≡ t)
      g.types

-- a copy of a valid graph goes into it thing by thing: packages, worlds, interfaces that are placed and their types, each
-- to itself
abbrev pub CopiesGoToThemselves : Type 0
CopiesGoToThemselves =
    (g : Graph) (offset : ℕ) → IsValid g → StaysItself g (merge_of_graphs g g offset)

-- where no cause holds against it, the graph keeps its names and its worlds, elaborated again
abbrev pub AcceptedCopiesChangeNothing : Type 0
AcceptedCopiesChangeNothing =
    (g : Graph) (offset : ℕ) → IsValid g → MergeIsAccepted (merge_of_graphs g g offset)
    → HaveSameNames g (merged (merge_of_graphs g g offset))
    × ((merged (merge_of_graphs g g offset)).worlds ≡ g.worlds)

-- it is refused for a borrow in a result (15) or for a position that is too large (27) alone
abbrev pub CopiesAreRefusedFor : Type 0
CopiesAreRefusedFor =
    (g : Graph) (offset : ℕ) (error : ResolveErrorKind) → IsValid g
    → IsMergeCause (merge_of_graphs g g offset) error → Contains (15 ∷ 27 ∷ []) (error_number error)
