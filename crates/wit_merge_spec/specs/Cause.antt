-- Why a merge is refused: a record for each cause that reads the two graphs, with what the error tells, and the table of
-- causes, in the order of their numbers. Causes that read worlds and uses as one are those of any graph that is to be
-- elaborated (`wit_elaboration/AllElaborated`). A merge with a cause is refused, and one that is refused, but for want
-- of memory, has the cause that it tells. Where several hold any may be told.
--
-- A mismatch (24) spoils the two graphs as one, so 4, 6, 15 and 22 don't hold beside it; a stability that can't be
-- joined (8) and a position that is too large (27) stand beside all others. A cycle of interfaces (22) spoils what
-- elaboration reads (4), a cycle of packages (6) doesn't.
-- Source: `merge` of wit-parser 0.263.0.
use Rattle.std.specs.Prelude.{ℕ, List, None, ◌≡◌, ◌≤◌, ◌+◌, ◌^◌, Bool, ◌++◌, Some, Contains, flat_map, ◌≢◌, true, false, [], ◌∷◌, length, slice_get, codes}
use Rattle.wit_data.specs.Kind.{named_option}
use Rattle.wit_data.specs.declared.function.Function.{Function}
use Rattle.wit_names.specs.declared.package_name.PackageName.{PackageName}
use Rattle.wit_data.specs.declared.stability.Stability.{Stability}
use Rattle.wit_graph_data.specs.Error.{NoCause}
use Rattle.wit_graph_data.specs.declared.cause.Cause.TheVariants as cause
use Rattle.wit_graph_data.specs.declared.error_kind.ResolveErrorKind.{ResolveErrorKind}
use Rattle.wit_graph_data.specs.declared.error_kind.ResolveErrorKind.TheVariants.{InvalidTransitiveDependency, PackageCycle, StabilityMismatch, Semantic, OffsetOverflow}
use Rattle.wit_elaboration.specs.AllElaborated.{DependsOnItself, HasWorldInConflict, UsesItself}
use Rattle.wit_remap_spec.specs.Image.{function_image}
use Rattle.wit_data.specs.Entries.{entries_of, Entry, item_interface}
use Rattle.wit_remap_spec.specs.Borrows.{borrow_text, HoldsBorrow}
use Rattle.wit_remap_spec.specs.Spans.{interface_spans, type_spans, world_spans}
use Rattle.wit_sources.specs.Span.{OptionalSpan}
use Rattle.wit_remap_spec.specs.Joined.{Disagree, HasStability}
use Rattle.wit_merge_spec.specs.Matches.{GraphMerge, Pair, counterpart_interface, counterpart_type, counterpart_world, FirstDiffers, counterpart_item, type_pairs}
use Rattle.wit_merge_spec.specs.Merged.{merge_maps, moved_functions, joined_graph}
use Rattle.wit_data.specs.declared.world.WorldItem.{WorldItem}
use Rattle.wit_data.specs.declared.world.WorldItem.TheVariants as item
use Rattle.wit_graph_data.specs.IdText.{key_text}
use Rattle.wit_graph_data.specs.declared.graph.Package.{Package}
use Rattle.wit_remap_spec.specs.FunctionMismatch.{HaveFunctionMismatch}
use Rattle.wit_merge_spec.specs.MismatchText.{entry_link, linked, part_links, side_word}
use Rattle.wit_merge_spec.specs.Structure.{DifferInStructure}

-- What has to agree of the things that a merge makes one (24), and what a mismatch says: of functions of one name
-- in matched interfaces, of the entries of matched worlds, and of matched types. Of several mismatches any may be told,
-- but of types the first alone.
-- Source: `build_function`, `build_world` and `match_world_item` of wit-parser 0.263.0.

-- ---- worlds

-- two items are both interfaces, both functions or both types
abbrev pub same_sort : WorldItem → WorldItem → Bool
same_sort (item.Interface i stability docs span external_id)
    (item.Interface i' stability' docs' span' external_id') = true
same_sort (item.Function f) (item.Function f') = true
same_sort (item.Type_ t span) (item.Type_ t' span') = true
same_sort from into = false

-- an item that comes in and the one under its key differ
pub data ItemsDiffer (m : GraphMerge) (from into : WorldItem) : List ℕ → Type 0 where
  -- they aren't of one sort
  sorts : same_sort from into ≡ false
      → ItemsDiffer m from into (codes "world items do not have the same type")
  -- interfaces, of which the first isn't matched with the second
  interfaces : (i i' : ℕ) → item_interface from ≡ i ∷ [] → item_interface into ≡ i' ∷ []
      → counterpart_interface m i ≢ Some i'
      → ItemsDiffer m from into (codes "interfaces are not the same")
  -- matched interfaces without a name that disagree in a function; of those with a name that is told once, of the graphs
  unnamed : (text : List ℕ)
      (p : Pair (counterpart_interface m) m.other.interfaces m.graph.interfaces)
      → item_interface from ≡ p.x ∷ [] → item_interface into ≡ p.x' ∷ [] → p.from.name ≡ None
      → HaveFunctionMismatch p.from p.into text → ItemsDiffer m from into text

-- the imports or the exports of matched worlds differ; word is `import` or `export`
pub data EntriesDiffer (m : GraphMerge) (word : List ℕ) (from into : List Entry) : List ℕ
    → Type 0 where
  -- they aren't as many
  count : length from ≢ length into
      → EntriesDiffer m word from into
      (codes "world contains different number of " ++ (word ++ codes "s than expected"))
  -- there is none under the key of an entry
  absent : (e : Entry) → Contains from e → counterpart_item m into e.0 ≡ None
      → EntriesDiffer m word from into (word
      ++ (codes " `"
      ++ (key_text m.other.packages m.other.interfaces e.0
      ++ codes "` not found in target world")))
  -- there is one, and it differs
  apart : (e : Entry) (there : WorldItem) (text : List ℕ) → Contains from e
      → counterpart_item m into e.0 ≡ Some there → ItemsDiffer m e.1 there text
      → EntriesDiffer m word from into
      (linked (entry_link word (key_text m.other.packages m.other.interfaces e.0) ∷ []) text)

-- ---- graphs

-- matched interfaces of a name disagree in a function, matched worlds differ, or matched types do; the message says where
pub data GraphsDiffer (m : GraphMerge) : List ℕ → Type 0 where
  interfaces : (p : Pair (counterpart_interface m) m.other.interfaces m.graph.interfaces) (home : ℕ)
      (there : Package) (name text : List ℕ)
      → p.from.name ≡ Some name → p.from.package ≡ Some home
      → slice_get m.other.packages home ≡ Some there
      → HaveFunctionMismatch p.from p.into text
      → GraphsDiffer m (linked (part_links there.name (codes "interface") name) text)
  worlds : (p : Pair (counterpart_world m) m.other.worlds m.graph.worlds) (home : ℕ)
      (there : Package) (exported : Bool) (text : List ℕ)
      → p.from.package ≡ Some home → slice_get m.other.packages home ≡ Some there
      → EntriesDiffer m (side_word exported) (entries_of exported p.from)
      (entries_of exported p.into) text
      → GraphsDiffer m (linked (part_links there.name (codes "world") p.from.name) text)
  types : (message : List ℕ)
      → FirstDiffers (DifferInStructure m.other.types m.graph.types (counterpart_type m))
      (type_pairs m) message → GraphsDiffer m message

-- nothing differs that has to agree, so no mismatch (24) is told, and there is a merged graph
abbrev pub HasNoMismatch : GraphMerge → Type 0
HasNoMismatch m = (message : List ℕ) → GraphsDiffer m message → ⊥

-- a stability of a matched thing, and the one to which it is joined: of types, interfaces, worlds, and of entries of
-- matched worlds under the keys of matched interfaces
pub data AreJoined (m : GraphMerge) : Stability → Stability → Type 0 where
  types : (p : Pair (counterpart_type m) m.other.types m.graph.types)
      → AreJoined m p.from.stability p.into.stability
  interfaces : (p : Pair (counterpart_interface m) m.other.interfaces m.graph.interfaces)
      → AreJoined m p.from.stability p.into.stability
  worlds : (p : Pair (counterpart_world m) m.other.worlds m.graph.worlds)
      → AreJoined m p.from.stability p.into.stability
  entries : (p : Pair (counterpart_world m) m.other.worlds m.graph.worlds) (exported : Bool)
      (i i' : ℕ) (from into : Stability)
      → counterpart_interface m i ≡ Some i' → HasStability (entries_of exported p.from) i from
      → HasStability (entries_of exported p.into) i' into → AreJoined m from into

-- ---- 15: a borrow in a result

-- 15: the result of a function that moves holds a borrow
pub record MergeReturnsBorrow (m : GraphMerge) (message : List ℕ) : Type 0 where
  pub f : Function
  pub t' : ℕ
  pub moved : Contains (moved_functions m) f
  pub result_is : Contains (named_option (function_image (merge_maps m) f).result_) t'
  pub holds : HoldsBorrow (joined_graph m).types t'
  pub message_is : message ≡ borrow_text f.name

-- why the two graphs of a merge can't be made one
pub data IsMergeCause (m : GraphMerge) : ResolveErrorKind → Type 0 where
  conflict_4 : (span : OptionalSpan) (name : List ℕ) → HasNoMismatch m
      → HasWorldInConflict (joined_graph m) span name
      → IsMergeCause m (InvalidTransitiveDependency span name)
  package_cycle_6 : (home : PackageName) → HasNoMismatch m → DependsOnItself (joined_graph m) home
      → IsMergeCause m (PackageCycle None home)
  -- two stabilities that are joined are known and differ
  mismatch_8 : (from into : Stability) → AreJoined m from into → Disagree from into
      → IsMergeCause m (StabilityMismatch None from into)
  borrow_in_result_15 : (message : List ℕ) → HasNoMismatch m → MergeReturnsBorrow m message
      → IsMergeCause m (Semantic None message cause.BorrowInResult)
  interface_cycle_22 : (message : List ℕ) → HasNoMismatch m → UsesItself (joined_graph m) message
      → IsMergeCause m (Semantic None message cause.InterfaceCycle)
  merge_mismatch_24 : (message : List ℕ) → GraphsDiffer m message
      → IsMergeCause m (Semantic None message cause.MergeMismatch)
  -- a span of the incoming graph would end past 4294967295, whether it moves or not
  offset_overflow_27 : (from to : ℕ)
      → Contains (flat_map type_spans m.other.types
      ++ (flat_map interface_spans m.other.interfaces ++ flat_map world_spans m.other.worlds))
      (Some (from, to))
      → 2 ^ 32 ≤ to + m.offset → IsMergeCause m OffsetOverflow

-- no cause holds against the merge
abbrev pub MergeIsAccepted : GraphMerge → Type 0
MergeIsAccepted m = NoCause (IsMergeCause m)
