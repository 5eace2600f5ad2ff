-- Which things of two graphs a merge makes one: those of the same names, and interfaces without a name that stand
-- under one label of worlds of the same name. Each look-up takes a thing of the incoming graph to that of the
-- graph into which it goes, if that is there. The types among them come in the order in which they are compared (24),
-- each with what a message says of where they are; of those that differ the first is told.
-- Source: `MergeMap`, `build_interface` and `match_world_item` of wit-parser 0.263.0; that worlds come after all
-- interfaces is a rule of this project.
use Rattle.std.specs.Prelude.{◌≡◌, ℕ, Bool, true, false, List, [], ◌∷◌, ◌++◌, nat_eq, find, slice_get, Option, None, Some, option_and_then, if◌then◌else◌, codes, Contains, flat_map, option_map, bytes_eq}
use Rattle.std.specs.List.{enumerate_from}
use Rattle.std.specs.Map.{lookup}
use Rattle.std.specs.Option.{option_eq, option_map_or}
use Rattle.wit_data.specs.Entries.{Entry, is_unnamed, entries_of}
use Rattle.wit_data.specs.Ownership.{world_types}
use Rattle.wit_names.specs.PackageName.{same_package}
use Rattle.wit_data.specs.declared.interface.Interface.{Interface}
use Rattle.wit_data.specs.declared.types.TypeDef.{TypeDef}
use Rattle.wit_data.specs.declared.types.TypeOwner.{TypeOwner}
use Rattle.wit_data.specs.declared.world.World.{World}
use Rattle.wit_data.specs.declared.world.WorldItem.{WorldItem}
use Rattle.wit_data.specs.declared.world.WorldKey.{WorldKey}
use Rattle.wit_data.specs.declared.types.TypeOwner.TheVariants as owner
use Rattle.wit_data.specs.declared.world.WorldItem.TheVariants as item
use Rattle.wit_data.specs.declared.world.WorldKey.TheVariants as key
use Rattle.wit_elaboration.specs.Entries.{same_key}
use Rattle.wit_graph_data.specs.Queries.{topological_packages}
use Rattle.wit_graph_data.specs.declared.graph.Graph.{Graph}
use Rattle.wit_graph_data.specs.declared.graph.Package.{Package}
use Rattle.wit_graph_data.specs.Named.{interface_type}
use Rattle.wit_data.specs.Each.{First}
use Rattle.wit_merge_spec.specs.MismatchText.{entry_link, linked, part_links}

-- a graph, another one that goes into it, and an offset by which the spans of that move
pub record GraphMerge : Type 0 where
  pub graph : Graph
  pub other : Graph
  pub offset : ℕ

-- ---- packages, and what stands in their tables

-- the counterpart of package p of the incoming graph: the package of that name
abbrev pub counterpart_package : GraphMerge → ℕ → Option ℕ
counterpart_package m p =
    option_and_then (λ (home : Package). lookup (same_package home.name) m.graph.package_names)
    (slice_get m.other.packages p)

-- what stands under a name in a table of the package that is matched with this one
abbrev pub named_in_counterpart : (Package → List (List ℕ × ℕ)) → GraphMerge → Option ℕ → List ℕ
    → Option ℕ
named_in_counterpart table m home name =
    option_and_then (λ p'.
    option_and_then (λ (there : Package). lookup (bytes_eq name) (table there))
    (slice_get m.graph.packages p')) (option_and_then (counterpart_package m) home)

-- the counterpart of world w of the incoming graph: the world of that name in the counterpart of its package
abbrev pub counterpart_world : GraphMerge → ℕ → Option ℕ
counterpart_world m w =
    option_and_then (λ (world : World).
    named_in_counterpart (λ (there : Package). there.worlds) m world.package world.name)
    (slice_get m.other.worlds w)

-- the counterpart of world w as the graph has it
abbrev pub matched_world : GraphMerge → ℕ → Option World
matched_world m w = option_and_then (slice_get m.graph.worlds) (counterpart_world m w)

-- ---- interfaces

-- a label of a world, on the side of its imports or of its exports
pub record WorldLabel : Type 0 where
  pub world : ℕ
  pub exported : Bool
  pub label : List ℕ

-- the interface that stands under a label, if one does, with that label of the world
abbrev pub interface_at_label : ℕ → Bool → WorldKey → WorldItem → List (ℕ × WorldLabel)
interface_at_label w exported (key.Name label) (item.Interface i stability docs span external_id) =
    (i, record { world = w; exported = exported; label = label }) ∷ []
interface_at_label w exported k held = []

-- the interfaces under labels of all worlds, each with its label; in each world those of imports first
abbrev pub world_labels : List World → List (ℕ × WorldLabel)
world_labels worlds =
    flat_map (λ (e : ℕ × World).
    flat_map (λ (i : Entry). interface_at_label e.0 false i.0 i.1) e.1.imports
    ++ flat_map (λ (i : Entry). interface_at_label e.0 true i.0 i.1) e.1.exports)
    (enumerate_from 0 worlds)

-- the interface without a name that an item is
abbrev pub unnamed_item : List Interface → WorldItem → Option ℕ
unnamed_item interfaces (item.Interface i stability docs span external_id) =
    if is_unnamed interfaces i then Some i else None
unnamed_item interfaces (item.Function f) = None
unnamed_item interfaces (item.Type_ t span) = None

-- the unnamed interface under the same label of the counterpart of the world
abbrev pub counterpart_at_label : GraphMerge → WorldLabel → Option ℕ
counterpart_at_label m world_label =
    option_and_then (λ (there : World).
    option_and_then (unnamed_item m.graph.interfaces)
    (lookup (same_key (key.Name world_label.label)) (entries_of world_label.exported there)))
    (matched_world m world_label.world)

-- the counterpart of an interface: by its name in the counterpart of its package, or, unnamed, under the same label
-- of the counterpart of the world where it stands
abbrev pub counterpart_interface_by : GraphMerge → ℕ → Option ℕ → Option (List ℕ) → Option ℕ
counterpart_interface_by m i home (Some name) =
    named_in_counterpart (λ (there : Package). there.interfaces) m home name
counterpart_interface_by m i home None =
    option_and_then (counterpart_at_label m) (lookup (nat_eq i) (world_labels m.other.worlds))

-- the counterpart of interface i of the incoming graph
abbrev pub counterpart_interface : GraphMerge → ℕ → Option ℕ
counterpart_interface m i =
    option_and_then
    (λ (interface : Interface). counterpart_interface_by m i interface.package interface.name)
    (slice_get m.other.interfaces i)

-- the counterpart of interface i as the graph has it
abbrev pub matched_interface : GraphMerge → ℕ → Option Interface
matched_interface m i = option_and_then (slice_get m.graph.interfaces) (counterpart_interface m i)

-- ---- types

-- a type by its name, in the interface or the world that is matched with its owner; one without a name nowhere
abbrev pub counterpart_type_by : GraphMerge → Option (List ℕ) → TypeOwner → Option ℕ
counterpart_type_by m (Some name) (owner.Interface i) =
    option_and_then (interface_type m.graph name) (counterpart_interface m i)
counterpart_type_by m (Some name) (owner.World w) =
    option_and_then (λ (there : World). lookup (bytes_eq name) (world_types there))
    (matched_world m w)
counterpart_type_by m (Some name) owner.None = None
counterpart_type_by m None by = None

-- the counterpart of type t of the incoming graph
abbrev pub counterpart_type : GraphMerge → ℕ → Option ℕ
counterpart_type m t =
    option_and_then (λ (def : TypeDef). counterpart_type_by m def.name def.owner)
    (slice_get m.other.types t)

-- ---- entries

-- the key under which a key of the other graph is looked for: a label is itself, an interface that which it is
-- matched with
abbrev pub counterpart_key : GraphMerge → WorldKey → Option WorldKey
counterpart_key m (key.Name label) = Some (key.Name label)
counterpart_key m (key.Interface i) =
    option_map (λ i'. key.Interface i') (counterpart_interface m i)

-- what stands under it among some entries
abbrev pub counterpart_item : GraphMerge → List Entry → WorldKey → Option WorldItem
counterpart_item m entries k =
    option_and_then (λ k'. lookup (same_key k') entries) (counterpart_key m k)

-- ---- pairs

-- a thing of a list and the thing of another with which it is matched
pub record Pair {X : Type 0} (found : ℕ → Option ℕ) (others ours : List X) : Type 0 where
  pub x : ℕ
  pub from : X
  pub x' : ℕ
  pub into : X
  pub from_is : slice_get others x ≡ Some from
  pub matched : found x ≡ Some x'
  pub into_is : slice_get ours x' ≡ Some into

-- the first thing of a list whose counterpart is thing x', with its index
abbrev pub counterpart_of : {X : Type 0} → (ℕ → Option ℕ) → List X → ℕ → Option (ℕ × X)
counterpart_of {X} found others x' =
    find (λ (e : ℕ × X). option_eq nat_eq (found e.0) (Some x')) (enumerate_from 0 others)

-- two types that are matched, that of the incoming graph first, and the links of a message that lead to them
pub record TypePair : Type 0 where
  pub from : ℕ
  pub into : ℕ
  pub links : List (List ℕ)

-- two types of this name, behind these links
abbrev pub paired : List (List ℕ) → List ℕ → ℕ → ℕ → TypePair
paired links name t t' =
    record {
      from = t;
      into = t';
      links = links ++ ((codes "mismatch in type `" ++ (name ++ codes "`")) ∷ []);
    }

-- ---- of interfaces

-- the types of one name of two interfaces, in the order of the incoming one
abbrev pub common_types : List (List ℕ) → Interface → Interface → List TypePair
common_types links from into =
    flat_map (λ (e : List ℕ × ℕ).
    option_map_or (λ t'. paired links e.0 e.1 t' ∷ []) (lookup (bytes_eq e.0) into.types) [])
    from.types

-- those of interface i and of the one that is matched with it
abbrev pub interface_pairs : GraphMerge → List (List ℕ) → ℕ → List TypePair
interface_pairs m links i =
    option_map_or
    (λ (from : Interface). option_map_or (common_types links from) (matched_interface m i) [])
    (slice_get m.other.interfaces i) []

-- ---- of worlds

-- those of two items under one label: the types that they are or, where the first is an interface without a name, those
-- of it and of the one that is matched with it
abbrev pub item_pairs : GraphMerge → List (List ℕ) → List ℕ → WorldItem → WorldItem → List TypePair
item_pairs m links label (item.Type_ t span) (item.Type_ t' span') = paired links label t t' ∷ []
item_pairs m links label (item.Interface i stability docs span external_id) into =
    if is_unnamed m.other.interfaces i then interface_pairs m links i else []
item_pairs m links label from into = []

-- those of an entry and of the one under its label; word is `import` or `export`
abbrev pub entry_pairs : GraphMerge → List (List ℕ) → List ℕ → List Entry → Entry → List TypePair
entry_pairs m links word into (key.Name label, held) =
    option_map_or (item_pairs m (links ++ (entry_link word label ∷ [])) label held)
    (counterpart_item m into (key.Name label)) []
entry_pairs m links word into (key.Interface i, held) = []

-- those of two worlds, imports before exports
abbrev pub common_entries : GraphMerge → List (List ℕ) → World → World → List TypePair
common_entries m links from into =
    flat_map (entry_pairs m links (codes "import") into.imports) from.imports
    ++ flat_map (entry_pairs m links (codes "export") into.exports) from.exports

-- those of world w and of the one that is matched with it
abbrev pub world_pairs : GraphMerge → List (List ℕ) → ℕ → List TypePair
world_pairs m links w =
    option_map_or
    (λ (from : World). option_map_or (common_entries m links from) (matched_world m w) [])
    (slice_get m.other.worlds w) []

-- ---- of graphs

-- the packages of a graph, each after those that it depends on
abbrev pub in_package_order : Graph → List Package
in_package_order g =
    flat_map (λ p. option_map_or (λ (home : Package). home ∷ []) (slice_get g.packages p) [])
    (topological_packages g.types g.interfaces g.worlds g.packages)

-- all of them: those of interfaces, package by package and by their tables, and after these those of worlds likewise
abbrev pub type_pairs : GraphMerge → List TypePair
type_pairs m =
    flat_map (λ (home : Package).
    flat_map (λ (e : List ℕ × ℕ). interface_pairs m (part_links home.name (codes "interface") e.0)
    e.1) home.interfaces) (in_package_order m.other)
    ++ flat_map (λ (home : Package).
    flat_map (λ (e : List ℕ × ℕ). world_pairs m (part_links home.name (codes "world") e.0) e.1)
    home.worlds) (in_package_order m.other)

-- ---- the first that differ

-- of some pairs the first that differ are told, with how they do
pub record FirstDiffers (differ : ℕ → ℕ → List ℕ → Type 0) (pairs : List TypePair)
    (message : List ℕ) : Type 0 where
  pub pair : TypePair
  pub first : First (λ (p : TypePair). (ending : List ℕ) × differ p.from p.into ending) pairs pair
  pub message_is : message ≡ linked pair.links first.is.0
