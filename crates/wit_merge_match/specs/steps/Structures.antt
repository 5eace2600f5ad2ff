-- What differs in the structure of types that are matched: the words of the steps that look for the first that do.
use Rattle.std.specs.Prelude.{◌≡◌, ℕ, ◌<◌, List, [], ◌∷◌, ◌++◌, codes, length, slice_get, Contains, if◌then◌else◌, flat_map, bytes_eq}
use Rattle.std.specs.Map.{lookup}
use Rattle.std.specs.Option.{option_map_or}
use Rattle.wit_data.specs.Entries.{Entry, is_unnamed}
use Rattle.wit_names.specs.declared.package_name.PackageName.{PackageName}
use Rattle.wit_data.specs.declared.types.TypeDef.{TypeDef}
use Rattle.wit_data.specs.declared.world.WorldItem.{WorldItem}
use Rattle.wit_data.specs.declared.world.WorldItem.TheVariants as item
use Rattle.wit_elaboration.specs.Valid.{IsValid}
use Rattle.wit_graph_data.specs.declared.graph.Package.{Package}
use Rattle.wit_merge_spec.specs.Matches.{FirstDiffers, GraphMerge, TypePair, entry_pairs, interface_pairs, paired, world_pairs}
use Rattle.wit_merge_spec.specs.MismatchText.{part_links}
use Rattle.wit_merge_match.specs.steps.Differing.{AreKnown}
use Rattle.wit_merge_match.specs.declared.matched_graphs.MatchedGraphs.{MatchedGraphs}
use Rattle.wit_merge_match.specs.steps.ComparisonSteps.{IsSound}
use Rattle.wit_merge_match.specs.declared.comparison.Comparison.{Comparison}
use Rattle.wit_merge_spec.specs.steps.Parts.{StructuresDiffer}

-- ---- what is compared

-- two valid graphs, of which is known what is matched
pub record AreComparable (c : MatchedGraphs) : Type 0 where
  pub known : AreKnown c
  pub graph : IsValid c.graph.now
  pub other : IsValid c.other.now

-- a comparison is of the types of these two graphs, by what is matched of them
pub record IsOf (c : MatchedGraphs) (comparison : Comparison) : Type 0 where
  pub from : comparison.sides.from.now ≡ c.other.now.types
  pub into : comparison.sides.into.now ≡ c.graph.now.types
  pub matches : comparison.sides.matches.now ≡ c.matches.now.types
  pub sound : IsSound comparison

-- the type that an item is, if it is one, is there
abbrev pub IsThere : List TypeDef → WorldItem → Type 0
IsThere types (item.Type_ t span) = t < length types
IsThere types _ = Unit {0}

-- so of each of some entries
abbrev pub TypesThere : List TypeDef → List Entry → Type 0
TypesThere types entries = (e : Entry) → Contains entries e → IsThere types e.1

-- so of the types that are listed under names
abbrev pub ListsThere : List TypeDef → List (List ℕ × ℕ) → Type 0
ListsThere types listed = (e : List ℕ × ℕ) → Contains listed e → e.1 < length types

-- ---- what differs

-- none of some pairs differ
abbrev pub NoneDiffer : GraphMerge → List TypePair → Type 0
NoneDiffer m pairs =
    (p : TypePair) (ending : List ℕ) → Contains pairs p → StructuresDiffer m p.from p.into ending
    → ⊥

-- of some pairs the first that differ are told
abbrev pub FirstMismatch : GraphMerge → List TypePair → List ℕ → Type 0
FirstMismatch m = FirstDiffers (StructuresDiffer m)

-- ---- the pairs of a package, of an interface and of the imports or the exports of a world

-- those of an entry of the table of interfaces of a package, and of that of worlds
abbrev pub interface_part : GraphMerge → PackageName → List ℕ × ℕ → List TypePair
interface_part m home e = interface_pairs m (part_links home (codes "interface") e.0) e.1

abbrev pub world_part : GraphMerge → PackageName → List ℕ × ℕ → List TypePair
world_part m home e = world_pairs m (part_links home (codes "world") e.0) e.1

-- those of a package, if it is there
abbrev pub of_package : GraphMerge → (Package → List TypePair) → ℕ → List TypePair
of_package m pairs p = option_map_or pairs (slice_get m.other.packages p) []

abbrev pub package_interface_pairs : GraphMerge → ℕ → List TypePair
package_interface_pairs m =
    of_package m (λ home. flat_map (interface_part m home.name) home.interfaces)

abbrev pub package_world_pairs : GraphMerge → ℕ → List TypePair
package_world_pairs m = of_package m (λ home. flat_map (world_part m home.name) home.worlds)

-- those of interfaces of some packages, and then those of worlds
abbrev pub pairs_in_order : GraphMerge → List ℕ → List TypePair
pairs_in_order m order =
    flat_map (package_interface_pairs m) order ++ flat_map (package_world_pairs m) order

-- that of a type under its name and of the one under it among others
abbrev pub common_pair : List (List ℕ × ℕ) → List ℕ × ℕ → List TypePair
common_pair others e =
    option_map_or (λ t'. paired [] e.0 e.1 t' ∷ []) (lookup (bytes_eq e.0) others) []

-- those of an interface, if it has no name
abbrev pub unnamed_pairs : GraphMerge → ℕ → List TypePair
unnamed_pairs m i = if is_unnamed m.other.interfaces i then interface_pairs m [] i else []

abbrev pub side_pairs : GraphMerge → List ℕ → List Entry → List Entry → List TypePair
side_pairs m word from into = flat_map (entry_pairs m [] word into) from
