-- Words of inner contracts and proofs, beside `Differing`.
use Rattle.std.specs.Prelude.{◌≡◌, ◌≢◌, ℕ, Bool, List, [], ◌∷◌, Option, None, Some, codes, option_and_then, slice_get}
use Rattle.wit_data.specs.Entries.{Entry, entries_of}
use Rattle.wit_data.specs.declared.interface.Interface.{Interface}
use Rattle.wit_data.specs.declared.world.World.{World}
use Rattle.wit_data.specs.declared.world.WorldItem.{WorldItem}
use Rattle.wit_data.specs.declared.world.WorldKey.{WorldKey}
use Rattle.wit_graph_data.specs.IdText.{key_text}
use Rattle.wit_graph_data.specs.declared.graph.Package.{Package}
use Rattle.wit_remap_spec.specs.FunctionMismatch.{HaveFunctionMismatch}
use Rattle.wit_merge_spec.specs.Cause.{EntriesDiffer, ItemsDiffer}
use Rattle.wit_merge_spec.specs.Matches.{GraphMerge, counterpart_interface, counterpart_item, counterpart_world}
use Rattle.wit_merge_spec.specs.MismatchText.{entry_link, linked, part_links, side_word}
use Rattle.wit_merge_match.specs.steps.Matched.{AreMatches, merge_of_graphs}
use Rattle.wit_merge_match.specs.declared.matched_graphs.MatchedGraphs.{MatchedGraphs}
use Rattle.wit_merge_spec.specs.steps.Parts.{absent_text, other_interface_text}

-- the merge of the two graphs that are compared
abbrev pub merging_of : MatchedGraphs → GraphMerge
merging_of c = merge_of_graphs c.graph.now c.other.now

-- what is matched of them is known
abbrev pub AreKnown : MatchedGraphs → Type 0
AreKnown c = AreMatches c.graph.now c.other.now c.matches.now

-- thing i of a list and the one of another list with which it is matched differ, which y tells
pub record DifferAt {X Y : Type 0} (found : ℕ → Option ℕ) (others ours : List X)
    (Differ : X → X → Y → Type 0) (i : ℕ) (y : Y) : Type 0 where
  pub from : X
  pub into : X
  pub from_is : slice_get others i ≡ Some from
  pub into_is : option_and_then (slice_get ours) (found i) ≡ Some into
  pub differ : Differ from into y

-- interface i of the other graph isn't matched with interface i', or it is, has no name and disagrees in a function
pub data HeldDiffer (m : GraphMerge) (i i' : ℕ) (text : List ℕ) : Type 0 where
  apart : counterpart_interface m i ≢ Some i' → text ≡ other_interface_text → HeldDiffer m i i' text
  unnamed : (from into : Interface) → slice_get m.other.interfaces i ≡ Some from
      → slice_get m.graph.interfaces i' ≡ Some into → counterpart_interface m i ≡ Some i'
      → from.name ≡ None → HaveFunctionMismatch from into text → HeldDiffer m i i' text

-- there is no entry under a key among those of the matched world, or there is one that differs
pub data EntryDiffers (m : GraphMerge) (word : List ℕ) (into : List Entry) (k : WorldKey)
    (held : WorldItem) (text : List ℕ) : Type 0 where
  absent : counterpart_item m into k ≡ None
      → text ≡ absent_text word (key_text m.other.packages m.other.interfaces k)
      → EntryDiffers m word into k held text
  apart : (there : WorldItem) (ending : List ℕ) → counterpart_item m into k ≡ Some there
      → ItemsDiffer m held there ending
      → text ≡ linked (entry_link word (key_text m.other.packages m.other.interfaces k) ∷ []) ending
      → EntryDiffers m word into k held text

-- the imports or the exports of two worlds differ
pub record SidesDiffer (m : GraphMerge) (from into : World) (text : List ℕ) : Type 0 where
  pub exported : Bool
  pub differ : EntriesDiffer m (side_word exported) (entries_of exported from)
      (entries_of exported into) text

-- a thing of a name and of a package differs, which a message tells with the two; sort is `interface` or `world`
pub record PartDiffers (packages : List Package) (sort : List ℕ) (home : Option ℕ)
    (name : Option (List ℕ)) (Differ : List ℕ → Type 0) (message : List ℕ) : Type 0 where
  pub there : Package
  pub there_is : option_and_then (slice_get packages) home ≡ Some there
  pub called : List ℕ
  pub called_is : name ≡ Some called
  pub text : List ℕ
  pub differ : Differ text
  pub message_is : message ≡ linked (part_links there.name sort called) text

-- two interfaces, the first of which has a name, disagree in a function
abbrev pub InterfacesDiffer : GraphMerge → Interface → Interface → List ℕ → Type 0
InterfacesDiffer m from into =
    PartDiffers m.other.packages (codes "interface") from.package from.name
    (HaveFunctionMismatch from into)

-- two worlds differ in their entries
abbrev pub WorldsDiffer : GraphMerge → World → World → List ℕ → Type 0
WorldsDiffer m from into =
    PartDiffers m.other.packages (codes "world") from.package (Some from.name)
    (SidesDiffer m from into)

-- interface i of the other graph differs from the one with which it is matched
abbrev pub InterfaceDiffersAt : GraphMerge → ℕ → List ℕ → Type 0
InterfaceDiffersAt m =
    DifferAt (counterpart_interface m) m.other.interfaces m.graph.interfaces (InterfacesDiffer m)

-- and so world w
abbrev pub WorldDiffersAt : GraphMerge → ℕ → List ℕ → Type 0
WorldDiffersAt m = DifferAt (counterpart_world m) m.other.worlds m.graph.worlds (WorldsDiffer m)
