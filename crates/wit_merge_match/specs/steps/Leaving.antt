-- What a merge leaves as it is, at one place of the lists of two graphs: the words of the steps that ask whether it changes
-- nothing of the graph.
use Rattle.std.specs.Prelude.{◌≡◌, ℕ, List, [], Option, None, Some, Contains, filter, option_and_then, slice_get}
use Rattle.std.specs.List.{IsDistinct}
use Rattle.std.specs.Map.{keys_of}
use Rattle.wit_data.specs.Entries.{Entry}
use Rattle.wit_data.specs.declared.interface.Interface.{Interface}
use Rattle.wit_data.specs.declared.stability.Stability.{Stability}
use Rattle.wit_data.specs.declared.types.TypeDef.{TypeDef}
use Rattle.wit_data.specs.declared.world.World.{World}
use Rattle.wit_data.specs.declared.world.WorldItem.{WorldItem}
use Rattle.wit_data.specs.declared.world.WorldKey.{WorldKey}
use Rattle.wit_data.specs.declared.world.WorldItem.TheVariants as item
use Rattle.wit_data.specs.declared.world.WorldKey.TheVariants as key
use Rattle.wit_elaboration.specs.Entries.{same_key}
use Rattle.wit_graph_data.specs.declared.graph.Package.{Package}
use Rattle.wit_remap_spec.specs.Joined.{joined_stability}
use Rattle.wit_merge_spec.specs.Matches.{GraphMerge, counterpart_item}
use Rattle.wit_merge_spec.specs.Merged.{brought_functions}
use Rattle.wit_merge_spec.specs.steps.Parts.{brought_types, moves_interface, moves_world}

-- a stability is as it was, where another is joined to it
abbrev pub Stays : Stability → Stability → Type 0
Stays from into = joined_stability from into ≡ into

-- thing i of a list leaves what it is matched with in another list as it is
abbrev pub LeavesAt : {X : Type 0} → (ℕ → Option ℕ) → List X → List X → (X → X → Type 0) → ℕ
    → Type 0
LeavesAt {X} found others ours Leaves i =
    (from into : X) → slice_get others i ≡ Some from
    → option_and_then (slice_get ours) (found i) ≡ Some into → Leaves from into

-- ---- types and interfaces

abbrev pub TypeLeaves : TypeDef → TypeDef → Type 0
TypeLeaves from into = Stays from.stability into.stability

-- an interface brings nothing to another one
pub record InterfaceLeaves (m : GraphMerge) (from into : Interface) : Type 0 where
  pub types : brought_types m from ≡ []
  pub functions : brought_functions from into ≡ []
  pub stability : Stays from.stability into.stability

-- ---- worlds

-- the stability of an interface that stands under the key of one
abbrev pub stability_under_id : WorldKey → WorldItem → Option Stability
stability_under_id (key.Interface i) (item.Interface id stability docs span external_id) =
    Some stability
stability_under_id k held = None

-- the stability of an interface
abbrev pub interface_stability : WorldItem → Option Stability
interface_stability (item.Interface id stability docs span external_id) = Some stability
interface_stability held = None

-- an entry leaves the one under its key as it is
abbrev pub EntryLeaves : GraphMerge → List Entry → WorldKey → WorldItem → Type 0
EntryLeaves m into k held =
    (from there : Stability) → stability_under_id k held ≡ Some from
    → option_and_then interface_stability (counterpart_item m into k) ≡ Some there
    → Stays from there

-- so do all of some entries; the keys of the others differ
pub record EntriesLeave (m : GraphMerge) (from into : List Entry) : Type 0 where
  pub distinct : IsDistinct same_key (keys_of into)
  pub each : (e : Entry) → Contains from e → EntryLeaves m into e.0 e.1

pub record WorldLeaves (m : GraphMerge) (from into : World) : Type 0 where
  pub imports : EntriesLeave m from.imports into.imports
  pub exports : EntriesLeave m from.exports into.exports
  pub stability : Stays from.stability into.stability

-- ---- packages

-- no interface and no world of a package moves
pub record PackageLeaves (m : GraphMerge) (from into : Package) : Type 0 where
  pub interfaces : filter (λ (e : List ℕ × ℕ). moves_interface m e.1) from.interfaces ≡ []
  pub worlds : filter (λ (e : List ℕ × ℕ). moves_world m e.1) from.worlds ≡ []
