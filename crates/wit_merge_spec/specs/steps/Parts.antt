-- Parts of the definitions under names of their own, for contracts of inner functions and for proofs. Each is what stands
-- in a definition in its place, so none has to be believed.
use Rattle.std.specs.Prelude.{ℕ, true, false, List, [], ◌∷◌, ◌++◌, codes, flat_map, bytes_eq, map, filter, ◌+◌, Option, Bool, not, is_some, ◌≤◌, ◌^◌, Some, Contains}
use Rattle.std.specs.Map.{lookup}
use Rattle.std.specs.Option.{option_map_or}
use Rattle.wit_data.specs.Entries.{Entry}
use Rattle.wit_data.specs.declared.interface.Interface.{Interface}
use Rattle.wit_data.specs.declared.world.World.{World}
use Rattle.wit_merge_spec.specs.Matches.{interface_at_label, WorldLabel, GraphMerge, matched_interface, counterpart_type, counterpart_interface, counterpart_of, counterpart_package, counterpart_world}
use Rattle.wit_data.specs.declared.function.Function.{Function}
use Rattle.wit_data.specs.declared.types.TypeDef.{TypeDef}
use Rattle.wit_remap_spec.specs.Joined.{joined_stability, Disagree}
use Rattle.wit_remap_spec.specs.Selected.{selected}
use Rattle.wit_merge_spec.specs.Merged.{brought_functions, with_interface, with_package, with_world}
use Rattle.wit_graph_data.specs.declared.graph.Graph.{Graph}
use Rattle.wit_remap_spec.specs.Spans.{interface_spans, type_spans, world_spans}
use Rattle.wit_sources.specs.Span.{OptionalSpan}
use Rattle.wit_merge_spec.specs.Structure.{DifferInStructure, Feature, within, held_features}
use Rattle.wit_data.specs.Kind.{KindPart}
use Rattle.wit_graph_data.specs.declared.graph.Package.{Package}
use Rattle.wit_data.specs.declared.stability.Stability.{Stability}
use Rattle.wit_merge_spec.specs.Cause.{AreJoined}

-- the interfaces under labels of world w, each with its label
abbrev pub labels_of_world : ℕ → World → List (ℕ × WorldLabel)
labels_of_world w world =
    flat_map (λ (e : Entry). interface_at_label w false e.0 e.1) world.imports
    ++ flat_map (λ (e : Entry). interface_at_label w true e.0 e.1) world.exports

-- what isn't matched moves
abbrev pub moves_type : GraphMerge → ℕ → Bool
moves_type m t = not (is_some (counterpart_type m t))

abbrev pub moves_interface : GraphMerge → ℕ → Bool
moves_interface m i = not (is_some (counterpart_interface m i))

abbrev pub moves_world : GraphMerge → ℕ → Bool
moves_world m w = not (is_some (counterpart_world m w))

abbrev pub moves_package : GraphMerge → ℕ → Bool
moves_package m p = not (is_some (counterpart_package m p))

abbrev pub moved_types : GraphMerge → List TypeDef
moved_types m = selected (moves_type m) m.other.types

abbrev pub moved_interfaces : GraphMerge → List Interface
moved_interfaces m = selected (moves_interface m) m.other.interfaces

abbrev pub brought_types : GraphMerge → Interface → List (List ℕ × ℕ)
brought_types m from = filter (λ (e : List ℕ × ℕ). moves_type m e.1) from.types

-- those that an interface brings: all of one that moves, of a matched one those that its counterpart doesn't have
abbrev pub interface_functions : GraphMerge → ℕ → Interface → List Function
interface_functions m i from =
    map (λ (e : List ℕ × Function). e.1)
    (option_map_or (brought_functions from) (matched_interface m i) from.functions)

-- a type, with the stability of another joined to it
abbrev pub with_type : TypeDef → TypeDef → TypeDef
with_type from into = record into { stability = joined_stability from.stability into.stability }

-- how type t of the incoming graph and type t' of the graph, which are matched, differ in structure, the end of a message
abbrev pub StructuresDiffer : GraphMerge → ℕ → ℕ → List ℕ → Type 0
StructuresDiffer m = DifferInStructure m.other.types m.graph.types (counterpart_type m)

-- all the spans of a graph
abbrev pub graph_spans : Graph → List OptionalSpan
graph_spans g =
    flat_map type_spans g.types
    ++ (flat_map interface_spans g.interfaces ++ flat_map world_spans g.worlds)

-- in a type
abbrev pub type_link : List ℕ → List ℕ
type_link name = codes "mismatch in type `" ++ (name ++ codes "`")

-- not as many entries; word is `import` or `export`
abbrev pub entry_count_text : List ℕ → List ℕ
entry_count_text word =
    codes "world contains different number of " ++ (word ++ codes "s than expected")

-- no such entry, by what names its key in the incoming graph; word is `import` or `export`
abbrev pub absent_text : List ℕ → List ℕ → List ℕ
absent_text word k = word ++ (codes " `" ++ (k ++ codes "` not found in target world"))

-- interfaces that aren't matched
abbrev pub other_interface_text : List ℕ
other_interface_text = codes "interfaces are not the same"

-- items of two sorts
abbrev pub other_sort_text : List ℕ
other_sort_text = codes "world items do not have the same type"

-- the features of a part
abbrev pub part_features : List TypeDef → (ℕ → Option ℕ) → (ℕ → List Feature) → KindPart
    → List Feature
part_features types matched inner p = map (within p.step) (held_features types matched inner p.ty)

-- a type of the graph, by its place and what it is: with the stability of what is matched with it joined to its own, if
-- something is
abbrev pub joined_type : GraphMerge → ℕ × TypeDef → TypeDef
joined_type m e =
    option_map_or
    (λ (p : ℕ × TypeDef). record e.1 { stability = joined_stability p.1.stability e.1.stability })
    (counterpart_of (counterpart_type m) m.other.types e.0) e.1

-- an interface of the graph, by its id and what it is: with what its counterpart brings, if it has one
abbrev pub joined_interface : GraphMerge → ℕ × Interface → Interface
joined_interface m e =
    option_map_or (λ (p : ℕ × Interface). with_interface m p.1 e.1)
    (counterpart_of (counterpart_interface m) m.other.interfaces e.0) e.1

-- a world of the graph, by its id and what it is: with the stabilities of its counterpart joined to its own, if it
-- has one
abbrev pub joined_world : GraphMerge → ℕ × World → World
joined_world m e =
    option_map_or (λ (p : ℕ × World). with_world m p e.1)
    (counterpart_of (counterpart_world m) m.other.worlds e.0) e.1

-- a package of the graph, by its id and what it is: with the interfaces and worlds that its counterpart brings, if it
-- has one
abbrev pub joined_package : GraphMerge → ℕ × Package → Package
joined_package m e =
    option_map_or (λ (p : ℕ × Package). with_package m p.1 e.1)
    (counterpart_of (counterpart_package m) m.other.packages e.0) e.1

-- 27: a span of the incoming graph would end past 4294967295, whether it moves or not
pub record MergeOverflows (m : GraphMerge) : Type 0 where
  pub from : ℕ
  pub to : ℕ
  pub known : Contains (flat_map type_spans m.other.types
      ++ (flat_map interface_spans m.other.interfaces ++ flat_map world_spans m.other.worlds))
      (Some (from, to))
  pub past : 2 ^ 32 ≤ to + m.offset

-- 8: two that are joined are known and differ
pub record StabilitiesMismatch (m : GraphMerge) (from into : Stability) : Type 0 where
  pub joined : AreJoined m from into
  pub apart : Disagree from into
