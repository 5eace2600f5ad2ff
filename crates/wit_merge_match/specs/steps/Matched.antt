-- What is found of another graph in a graph, as lists of ids: of each thing of the other graph the one with which it is
-- matched; and where its things go in a merge.
use Rattle.std.specs.Prelude.{◌≡◌, ℕ, Bool, List, get_or, length, nat_eq, slice_get, Option, None, option_and_then, if◌then◌else◌, ◌+◌, not, is_some, unwrap_or, bytes_eq}
use Rattle.std.specs.Map.{lookup}
use Rattle.wit_data.specs.Entries.{is_unnamed, entries_of}
use Rattle.wit_data.specs.Ownership.{world_types}
use Rattle.wit_data.specs.declared.interface.Interface.{Interface}
use Rattle.wit_data.specs.declared.types.TypeDef.{TypeDef}
use Rattle.wit_data.specs.declared.types.TypeOwner.{TypeOwner}
use Rattle.wit_data.specs.declared.world.World.{World}
use Rattle.wit_data.specs.declared.world.WorldKey.{WorldKey}
use Rattle.wit_data.specs.declared.types.TypeOwner.TheVariants as owner
use Rattle.wit_elaboration.specs.Entries.{same_key}
use Rattle.wit_graph_data.specs.declared.graph.Graph.{Graph}
use Rattle.wit_graph_data.specs.declared.graph.Package.{Package}
use Rattle.wit_graph_data.specs.Named.{interface_type}
use Rattle.wit_remap_spec.specs.Selected.{rank}
use Rattle.wit_merge_spec.specs.Matches.{GraphMerge, WorldLabel, counterpart_at_label, counterpart_interface, counterpart_package, counterpart_type, counterpart_world, unnamed_item}
use Rattle.wit_merge_match.specs.Remapped.{merge_remap}
use Rattle.wit_merge_match.specs.declared.matches.Matches.{Matches}
use Rattle.wit_merge_match.specs.declared.merge_ids.MergeIds.{MergeIds}
use Rattle.wit_merge_match.specs.declared.world_labels.LabelNotes.{LabelNotes}

-- the other graph goes into the graph (what is matched doesn't hang on where spans go)
abbrev pub merge_of_graphs : Graph → Graph → GraphMerge
merge_of_graphs g other = record { graph = g; other = other; offset = 0 }

-- a list has at each place what is found of it, and at no other place anything
pub record AreFound (found : ℕ → Option ℕ) (count : ℕ) (list : List (Option ℕ)) : Type 0 where
  pub long : length list ≡ count
  pub each : (i : ℕ) → get_or list i None ≡ found i

-- so of all packages, worlds, interfaces and types of the other graph
pub record AreMatches (g other : Graph) (found : Matches) : Type 0 where
  pub packages : AreFound (counterpart_package (merge_of_graphs g other)) (length other.packages)
      found.packages
  pub worlds : AreFound (counterpart_world (merge_of_graphs g other)) (length other.worlds)
      found.worlds
  pub interfaces : AreFound (counterpart_interface (merge_of_graphs g other))
      (length other.interfaces) found.interfaces
  pub types : AreFound (counterpart_type (merge_of_graphs g other)) (length other.types) found.types

-- ---- what the steps hand on

-- what stands under a name in a table of the package that is matched with this one
abbrev pub under : (Package → List (List ℕ × ℕ)) → Graph → List (Option ℕ) → Option ℕ → List ℕ
    → Option ℕ
under table g packages home name =
    option_and_then (λ p'.
    option_and_then (λ (there : Package). lookup (bytes_eq name) (table there))
    (slice_get g.packages p')) (option_and_then (λ p. get_or packages p None) home)

-- the world of that name there
abbrev pub world_under : Graph → List (Option ℕ) → World → Option ℕ
world_under g packages world =
    under (λ (there : Package). there.worlds) g packages world.package world.name

-- the interface of that name there; none of one without a name
abbrev pub interface_under : Graph → List (Option ℕ) → Interface → Option ℕ
interface_under g packages interface =
    option_and_then (under (λ (there : Package). there.interfaces) g packages interface.package)
    interface.name

-- the interface without a name under a key of a side of a world
abbrev pub unnamed_at : Graph → Option ℕ → Bool → WorldKey → Option ℕ
unnamed_at g w exported k =
    option_and_then (λ (there : World).
    option_and_then (unnamed_item g.interfaces)
    (lookup (same_key k) (entries_of exported there)))
    (option_and_then (slice_get g.worlds) w)

-- what is found of the worlds is known
abbrev pub KnowsWorlds : LabelNotes → Type 0
KnowsWorlds s =
    AreFound (counterpart_world (merge_of_graphs s.graph.now s.other.now))
    (length s.other.now.worlds) s.worlds.now

-- interfaces are found by name, those without by the first of some labels of worlds
pub record AreLabelled (g other : Graph) (named : List (Option ℕ)) (spots : List (ℕ × WorldLabel))
    (found : List (Option ℕ)) : Type 0 where
  pub long : length found ≡ length other.interfaces
  pub each : (i : ℕ)
      → get_or found i None
      ≡ (if is_unnamed other.interfaces i
      then option_and_then (counterpart_at_label (merge_of_graphs g other))
      (lookup (nat_eq i) spots)
      else get_or named i None)

-- the type of the name of another in what is matched with its owner
abbrev pub owned_under : Graph → List (Option ℕ) → List (Option ℕ) → List ℕ → TypeOwner → Option ℕ
owned_under g worlds interfaces name (owner.Interface i) =
    option_and_then (interface_type g name) (get_or interfaces i None)
owned_under g worlds interfaces name (owner.World w) =
    option_and_then (λ (there : World). lookup (bytes_eq name) (world_types there))
    (option_and_then (slice_get g.worlds) (get_or worlds w None))
owned_under g worlds interfaces name owner.None = None

abbrev pub type_under : Graph → List (Option ℕ) → List (Option ℕ) → TypeDef → Option ℕ
type_under g worlds interfaces def =
    option_and_then (λ name. owned_under g worlds interfaces name def.owner) def.name

-- a thing that isn't found moves
abbrev pub moves : List (Option ℕ) → ℕ → Bool
moves found i = not (is_some (get_or found i None))

-- what a thing is remapped to by what is found of all: to that, or to the next id from the first one on
abbrev pub new_id_from : List (Option ℕ) → ℕ → ℕ → ℕ
new_id_from found first i = unwrap_or (get_or found i None) (first + rank (moves found) i)

-- where all things go in a merge, as it finds them: the remap in two parts
abbrev pub merge_ids_of : GraphMerge → MergeIds
merge_ids_of m = record {
  new_ids =
      record {
        types = (merge_remap m).types;
        interfaces = (merge_remap m).interfaces;
        worlds = (merge_remap m).worlds;
      };
  packages = (merge_remap m).packages;
}
