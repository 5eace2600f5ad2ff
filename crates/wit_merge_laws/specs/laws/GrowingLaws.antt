-- Laws of a merge that leaves the graph as it is: what was there needs no look, since neither its uses nor its worlds
-- change, what comes can make no cycle, and only a world that comes can be in conflict.
use Rattle.std.specs.Prelude.{◌≡◌, ◌↔◌, ℕ, List, ◌++◌, Contains, length, map, take}
use Rattle.wit_digraph.specs.Relation.{IsAcyclic}
use Rattle.wit_data.specs.Kind.{named_option, type_references}
use Rattle.wit_data.specs.Uses.{interface_uses, uses_of}
use Rattle.wit_data.specs.declared.function.Function.{Function}
use Rattle.wit_data.specs.declared.stability.Stability.{Stability}
use Rattle.wit_data.specs.declared.world.World.{World}
use Rattle.wit_names.specs.declared.package_name.PackageName.{PackageName}
use Rattle.wit_elaboration.specs.AllElaborated.{DependsOnItself, HasWorldInConflict, UsesItself}
use Rattle.wit_elaboration.specs.Elaboration.{elaborated_world, graph_uses}
use Rattle.wit_elaboration.specs.steps.Elaboration.{IsRefusedWorld}
use Rattle.wit_elaboration.specs.Imported.{HasTransitiveConflict}
use Rattle.wit_elaboration.specs.Sound.{HasSoundEntries}
use Rattle.wit_elaboration.specs.Valid.{IsValid}
use Rattle.wit_graph_data.specs.declared.error_kind.ResolveErrorKind.{ResolveErrorKind}
use Rattle.wit_graph_data.specs.declared.error_kind.ResolveErrorKind.TheVariants.{InvalidTransitiveDependency}
use Rattle.wit_remap_spec.specs.Image.{function_image, interface_image}
use Rattle.wit_remap_spec.specs.Borrows.{borrow_text, HoldsBorrow}
use Rattle.wit_merge_spec.specs.Cause.{HasNoMismatch, IsMergeCause, MergeIsAccepted, MergeReturnsBorrow}
use Rattle.wit_merge_spec.specs.Matches.{GraphMerge, Pair, counterpart_interface, counterpart_package, counterpart_type, counterpart_world}
use Rattle.wit_merge_spec.specs.Merged.{joined_graph, merge_maps, moved_functions, merged, with_interface, with_package, with_world}
use Rattle.wit_merge_spec.specs.steps.Leaving.{LeavesGraph, grown_graph, new_functions, new_worlds, with_new_worlds}
use Rattle.wit_elaboration.specs.steps.Parts.{graph_package_uses}
use Rattle.wit_merge_spec.specs.steps.Parts.{moved_interfaces, with_type, MergeOverflows, StabilitiesMismatch}

-- what is matched leaves its counterpart as it is: it has no stability that this lacks, and nothing of it moves
pub record BringsNothing (m : GraphMerge) : Type 0 where
  pub types : (p : Pair (counterpart_type m) m.other.types m.graph.types)
      → with_type p.from p.into ≡ p.into
  pub interfaces : (p : Pair (counterpart_interface m) m.other.interfaces m.graph.interfaces)
      → with_interface m p.from p.into ≡ p.into
  pub worlds : (p : Pair (counterpart_world m) m.other.worlds m.graph.worlds)
      → with_world m (p.x, p.from) p.into ≡ p.into
  pub packages : (p : Pair (counterpart_package m) m.other.packages m.graph.packages)
      → with_package m p.from p.into ≡ p.into

abbrev pub LeftByMatches : Type 0
LeftByMatches = (m : GraphMerge) → BringsNothing m → LeavesGraph m

-- what comes stands behind what was there
abbrev pub JoinedIsGrown : Type 0
JoinedIsGrown = (m : GraphMerge) → LeavesGraph m → joined_graph m ≡ grown_graph m

-- ---- uses

-- the interfaces that were there use what they used: over the types of both, as the first rows of all uses, and with those
-- of what comes behind them
pub record OldUsesStay (m : GraphMerge) : Type 0 where
  pub are : graph_uses m.graph
      ≡ uses_of (joined_graph m).types
      (take (length (graph_uses m.graph)) (joined_graph m).interfaces)
  pub begin : take (length m.graph.interfaces) (graph_uses (joined_graph m)) ≡ graph_uses m.graph
  pub grown : graph_uses (joined_graph m)
      ≡ graph_uses m.graph
      ++ map (interface_uses (joined_graph m).types)
      (map (interface_image (merge_maps m)) (moved_interfaces m))

abbrev pub UsesGrow : Type 0
UsesGrow = (m : GraphMerge) → IsValid m.graph → LeavesGraph m → OldUsesStay m

-- ---- cycles

-- no type refers to itself, no interface uses itself and no package depends on itself
pub record HasNoNewCycles (m : GraphMerge) : Type 0 where
  pub types : IsAcyclic (type_references (joined_graph m).types)
  pub uses : IsAcyclic (graph_uses (joined_graph m))
  pub packages : IsAcyclic (graph_package_uses (joined_graph m))

abbrev pub NothingNewIsCyclic : Type 0
NothingNewIsCyclic =
    (m : GraphMerge) → IsValid m.graph → IsValid m.other → HasNoMismatch m → LeavesGraph m
    → HasNoNewCycles m

-- ---- worlds

-- a world that was there is its own elaboration, and in no conflict
pub record WorldStays (m : GraphMerge) (world : World) : Type 0 where
  pub is : elaborated_world (joined_graph m) world ≡ world
  pub clear : HasTransitiveConflict (graph_uses (joined_graph m)) world.exports → ⊥

abbrev pub OldWorldsStay : Type 0
OldWorldsStay =
    (m : GraphMerge) (world : World) → IsValid m.graph → IsValid m.other → HasNoMismatch m
    → LeavesGraph m → Contains m.graph.worlds world → WorldStays m world

-- a world that comes can be elaborated
abbrev pub NewWorldsAreSound : Type 0
NewWorldsAreSound =
    (m : GraphMerge) (world : World) → IsValid m.graph → IsValid m.other → HasNoMismatch m
    → Contains (new_worlds m) world
    → HasSoundEntries (joined_graph m).types (length (joined_graph m).interfaces) world.imports
    world.exports

-- ---- functions

-- the functions that move are those of the interfaces and of the worlds that come
abbrev pub FunctionsCome : Type 0
FunctionsCome =
    (m : GraphMerge) → IsValid m.graph → IsValid m.other → LeavesGraph m
    → map (function_image (merge_maps m)) (moved_functions m) ≡ new_functions m

-- the result of one of these holds a borrow
pub record ReturnsNewBorrow (m : GraphMerge) (message : List ℕ) : Type 0 where
  pub f : Function
  pub t : ℕ
  pub comes : Contains (new_functions m) f
  pub result_is : Contains (named_option f.result_) t
  pub holds : HoldsBorrow (joined_graph m).types t
  pub message_is : message ≡ borrow_text f.name

abbrev pub BorrowsCome : Type 0
BorrowsCome =
    (m : GraphMerge) (message : List ℕ) → IsValid m.graph → IsValid m.other → LeavesGraph m
    → MergeReturnsBorrow m message ↔ ReturnsNewBorrow m message

-- ---- the whole

-- only the worlds that come are elaborated; of the causes that read the two graphs as one none is a cycle, and a conflict is
-- one of these worlds
pub record GrowsAlone (m : GraphMerge) : Type 0 where
  pub merged_is : merged m
      ≡ record (grown_graph m)
      { worlds = m.graph.worlds ++ map (elaborated_world (joined_graph m)) (new_worlds m) }
  pub no_use : (message : List ℕ) → UsesItself (joined_graph m) message → ⊥
  pub no_dependency : (home : PackageName) → DependsOnItself (joined_graph m) home → ⊥
  pub conflict : (span : _) (name : List ℕ) → HasWorldInConflict (joined_graph m) span name
      → IsRefusedWorld (with_new_worlds m) (InvalidTransitiveDependency span name)
  pub refused : (error : ResolveErrorKind) → IsRefusedWorld (with_new_worlds m) error
      → IsMergeCause m error

abbrev pub MergesGrow : Type 0
MergesGrow =
    (m : GraphMerge) → IsValid m.graph → IsValid m.other → HasNoMismatch m → LeavesGraph m
    → GrowsAlone m

-- of what is asked beside that nothing differs, all holds of what comes: stabilities can be joined, spans can be moved, no
-- result holds a borrow, and no world that comes is in conflict
pub record CanCome (m : GraphMerge) : Type 0 where
  pub stabilities : (from into : Stability) → StabilitiesMismatch m from into → ⊥
  pub spans : MergeOverflows m → ⊥
  pub results : (message : List ℕ) → MergeReturnsBorrow m message → ⊥
  pub worlds : (world : World) → Contains (new_worlds m) world
      → HasTransitiveConflict (graph_uses (joined_graph m)) world.exports → ⊥

-- then no cause holds
abbrev pub GrowthIsAccepted : Type 0
GrowthIsAccepted =
    (m : GraphMerge) → IsValid m.graph → IsValid m.other → HasNoMismatch m → LeavesGraph m
    → CanCome m → MergeIsAccepted m
