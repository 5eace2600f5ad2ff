-- Stabilities that a merge joins: which it refuses (8), which it doesn't, and what is made of them.
use Rattle.std.specs.Prelude.{◌≡◌, ℕ, List, [], ◌∷◌, Some, None, codes}
use Rattle.wit_data.specs.Entries.{Entry}
use Rattle.wit_data.specs.declared.stability.Stability.{Stability}
use Rattle.wit_data.specs.declared.stability.Stability.TheVariants.{Unknown}
use Rattle.wit_data.specs.declared.world.WorldKey.TheVariants as key
use Rattle.wit_data.specs.declared.world.WorldItem.TheVariants as item
use Rattle.wit_graph_data.specs.examples.Samples.{function_of, interface_of, no_docs, world_of}
use Rattle.wit_graph_data.specs.declared.error_kind.ResolveErrorKind.TheVariants.{StabilityMismatch}
use Rattle.wit_graph_data.specs.declared.graph.Graph.{Graph}
use Rattle.wit_link_spec.specs.Gates.{OptionalSpan}
use Rattle.wit_merge_spec.specs.Cause.{IsMergeCause, MergeIsAccepted}
use Rattle.wit_merge_spec.specs.Merged.{merged}
use Rattle.examples_resolve.specs.merge.Graphs.{foo_bar_alone, gate_f, gate_g, merge_of_graphs, with_functions}

-- ---- graphs

-- an interface of this name, under this gate
abbrev pub gated_interface : List ℕ → Stability → Graph
gated_interface name note =
    foo_bar_alone [] (record (interface_of (Some name) []) { stability = note } ∷ []) []
    ((name, 0) ∷ []) []

-- a world of this name, under this gate
abbrev pub gated_world : List ℕ → Stability → Graph
gated_world name note =
    foo_bar_alone [] [] (record (world_of name [] []) { stability = note } ∷ []) [] ((name, 0) ∷ [])

-- interface i without a gate, and world w with these imports and exports
abbrev pub listing : List Entry → List Entry → Graph
listing imports exports =
    foo_bar_alone [] (interface_of (Some (codes "i")) [] ∷ [])
    (world_of (codes "w") imports exports ∷ []) ((codes "i", 0) ∷ []) ((codes "w", 0) ∷ [])

-- i under its own key, or under label x, with this gate
abbrev pub keyed : Stability → Entry
keyed note = (key.Interface 0, item.Interface 0 note no_docs None None)

abbrev pub labelled : Stability → Entry
labelled note = (key.Name (codes "x"), item.Interface 0 note no_docs None None)

-- interface i with a function f under this gate
abbrev pub gated_function : Stability → Graph
gated_function note =
    foo_bar_alone []
    (with_functions (record (function_of (codes "f") [] None) { stability = note } ∷ [])
    (interface_of (Some (codes "i")) []) ∷ []) [] ((codes "i", 0) ∷ []) []

-- ---- examples

-- the gate g comes to the gate f, and 8 is told of both
abbrev pub Disagrees : Graph → Graph → Type 0
Disagrees g other = IsMergeCause (merge_of_graphs g other) (StabilityMismatch None gate_g gate_f)

-- no 8 is told, of whatever
abbrev pub DisagreesNowhere : Graph → Graph → Type 0
DisagreesNowhere g other =
    (span : OptionalSpan) (from into : Stability)
    → IsMergeCause (merge_of_graphs g other) (StabilityMismatch span from into) → ⊥

pub record ExamplesOfStabilities : Type 0 where
  -- of interfaces; the same gate, an interface of another name, and none in one of the two are no reason
  pub interfaces : Disagrees (gated_interface (codes "i") gate_f)
      (gated_interface (codes "i") gate_g)
  pub same_interface : DisagreesNowhere (gated_interface (codes "i") gate_f)
      (gated_interface (codes "i") gate_f)
  pub other_interface : DisagreesNowhere (gated_interface (codes "i") gate_f)
      (gated_interface (codes "j") gate_g)
  pub interface_without : DisagreesNowhere (gated_interface (codes "i") Unknown)
      (gated_interface (codes "i") gate_g)
  pub interface_with : DisagreesNowhere (gated_interface (codes "i") gate_f)
      (gated_interface (codes "i") Unknown)
  -- of worlds
  pub worlds : Disagrees (gated_world (codes "w") gate_f) (gated_world (codes "w") gate_g)
  pub same_world : DisagreesNowhere (gated_world (codes "w") gate_f)
      (gated_world (codes "w") gate_f)
  pub other_world : DisagreesNowhere (gated_world (codes "w") gate_f)
      (gated_world (codes "v") gate_g)
  -- of imports and of exports of a matched world, under the key of an interface; not under a label
  pub imports : Disagrees (listing (keyed gate_f ∷ []) []) (listing (keyed gate_g ∷ []) [])
  pub exports : Disagrees (listing [] (keyed gate_f ∷ [])) (listing [] (keyed gate_g ∷ []))
  pub same_import : DisagreesNowhere (listing (keyed gate_f ∷ []) [])
      (listing (keyed gate_f ∷ []) [])
  pub under_a_label : DisagreesNowhere (listing (labelled gate_f ∷ []) [])
      (listing (labelled gate_g ∷ []) [])
  -- nor of functions
  pub functions : DisagreesNowhere (gated_function gate_f) (gated_function gate_g)
  -- what is made: a gate replaces none, of an interface, of a world, of an import
  pub interface_part_is_active : merged (merge_of_graphs (gated_interface (codes "i") Unknown)
      (gated_interface (codes "i") gate_g)) ≡ gated_interface (codes "i") gate_g
  pub interface_keeps : merged (merge_of_graphs (gated_interface (codes "i") gate_f)
      (gated_interface (codes "i") Unknown)) ≡ gated_interface (codes "i") gate_f
  pub world_part_is_active : merged
      (merge_of_graphs (gated_world (codes "w") Unknown) (gated_world (codes "w") gate_g))
      ≡ gated_world (codes "w") gate_g
  pub import_is_active : merged
      (merge_of_graphs (listing (keyed Unknown ∷ []) []) (listing (keyed gate_g ∷ []) []))
      ≡ listing (keyed gate_g ∷ []) []
  -- under a label it takes none, and a function keeps its own
  pub label_keeps : merged
      (merge_of_graphs (listing (labelled Unknown ∷ []) []) (listing (labelled gate_g ∷ []) []))
      ≡ listing (labelled Unknown ∷ []) []
  pub function_keeps : merged (merge_of_graphs (gated_function gate_f) (gated_function gate_g))
      ≡ gated_function gate_f
  -- and no cause holds against it
  pub interface_taken : MergeIsAccepted
      (merge_of_graphs (gated_interface (codes "i") Unknown) (gated_interface (codes "i") gate_g))
  pub interface_kept : MergeIsAccepted
      (merge_of_graphs (gated_interface (codes "i") gate_f) (gated_interface (codes "i") Unknown))
  pub world_taken : MergeIsAccepted
      (merge_of_graphs (gated_world (codes "w") Unknown) (gated_world (codes "w") gate_g))
  pub import_taken : MergeIsAccepted
      (merge_of_graphs (listing (keyed Unknown ∷ []) []) (listing (keyed gate_g ∷ []) []))
  pub label_kept : MergeIsAccepted
      (merge_of_graphs (listing (labelled Unknown ∷ []) []) (listing (labelled gate_g ∷ []) []))
  pub function_kept : MergeIsAccepted
      (merge_of_graphs (gated_function gate_f) (gated_function gate_g))
