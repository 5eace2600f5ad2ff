-- A world whose exports become its imports keeps of its imports the types, and none of the others.
use Rattle.std.specs.Prelude.{◌≡◌, ◌≢◌, ℕ, List, [], ◌∷◌, Some, None, codes}
use Rattle.wit_data.specs.declared.types.TypeDefKind.TheVariants as kind
use Rattle.wit_data.specs.declared.types.TypeOwner.TheVariants as owner
use Rattle.wit_data.specs.declared.types.Type_.{Type_}
use Rattle.wit_data.specs.declared.types.Type_.TheVariants as type
use Rattle.wit_data.specs.declared.world.WorldItem.TheVariants as item
use Rattle.wit_data.specs.declared.world.WorldKey.TheVariants as key
use Rattle.wit_elaboration.specs.Entries.{Entry}
use Rattle.wit_graph_data.specs.examples.Samples.{function_of, labelled_entry, sample, type_in, type_of}
use Rattle.wit_graph_data.specs.declared.graph.Graph.{Graph}
use Rattle.wit_transform.specs.examples.TransformExamples.{a, b, named}
use Rattle.wit_transform.specs.Transformed.{importized, transformed}

-- the sample, in which interface b uses a, and a world that defines a type k and has another name u of the type of a
abbrev pub with_types : List ℕ → List Entry → List Entry → Graph
with_types name imports exports = record (named name imports exports) {
  types =
      type_in 0 (codes "t") (kind.Type_ type.U32) ∷ type_in 1 (codes "t") (kind.Type_ (type.Id 0))
      ∷ type_of (Some (codes "k")) (kind.Type_ type.U32) (owner.World 0)
      ∷ type_of (Some (codes "u")) (kind.Type_ (type.Id 0)) (owner.World 0) ∷ [];
}

-- the two types
abbrev pub k : Entry
k = (key.Name (codes "k"), item.Type_ 2 None)

abbrev pub u : Entry
u = (key.Name (codes "u"), item.Type_ 3 None)

-- the world with these lists whose exports became imports
abbrev pub typed_transformed : List Entry → List Entry → Graph
typed_transformed imports exports =
    transformed (with_types (codes "w") imports exports) 0 (importized None)

-- and the graph in which it imports these
abbrev pub typed_result : List Entry → Graph
typed_result imports = with_types (codes "w-importized") imports []

pub record ExamplesOfKeptImports : Type 0 where
  -- both types stay, whether they are the world's own or another's, and stand by class behind the interfaces
  pub types_stay : typed_transformed (a ∷ u ∷ k ∷ []) (b ∷ []) ≡ typed_result (a ∷ b ∷ u ∷ k ∷ [])
  pub not_exports_alone : typed_transformed (a ∷ u ∷ k ∷ []) (b ∷ []) ≢ typed_result (a ∷ b ∷ [])
  pub own_not_dropped : typed_transformed (a ∷ u ∷ k ∷ []) (b ∷ []) ≢ typed_result (a ∷ b ∷ u ∷ [])
  pub use_not_dropped : typed_transformed (a ∷ u ∷ k ∷ []) (b ∷ []) ≢ typed_result (a ∷ b ∷ k ∷ [])
  -- where nothing is exported they stay too, and the interface that one of them needs is imported again
  pub needed_again : typed_transformed (a ∷ u ∷ k ∷ []) [] ≡ typed_result (a ∷ u ∷ k ∷ [])
  pub not_types_alone : typed_transformed (a ∷ u ∷ k ∷ []) [] ≢ typed_result (u ∷ k ∷ [])
  -- but no other one
  pub not_needed : typed_transformed (a ∷ b ∷ u ∷ k ∷ []) [] ≡ typed_result (a ∷ u ∷ k ∷ [])
  pub not_kept : typed_transformed (a ∷ b ∷ u ∷ k ∷ []) [] ≢ typed_result (a ∷ b ∷ u ∷ k ∷ [])

-- a function f, with parameters of these types, and interface a under a label
abbrev pub function_f : List Type_ → Entry
function_f params = (key.Name (codes "f"), item.Function (function_of (codes "f") params None))

abbrev pub labelled_a : Entry
labelled_a = labelled_entry (codes "l") 0

-- a world without types whose exports became imports, and the graph in which it imports these
abbrev pub plain_transformed : List Entry → List Entry → Graph
plain_transformed imports exports = transformed (sample imports exports) 0 (importized None)

abbrev pub plain_result : List Entry → Graph
plain_result imports = named (codes "w-importized") imports []

pub record ExamplesOfDroppedImports : Type 0 where
  -- an interface goes, under its own key
  pub interface : plain_transformed (a ∷ b ∷ []) (a ∷ []) ≡ plain_result (a ∷ [])
  pub interface_not_kept : plain_transformed (a ∷ b ∷ []) (a ∷ []) ≢ plain_result (a ∷ b ∷ [])
  -- and under a label
  pub labelled : plain_transformed (labelled_a ∷ []) (a ∷ []) ≡ plain_result (a ∷ [])
  pub labelled_not_kept : plain_transformed (labelled_a ∷ []) (a ∷ [])
      ≢ plain_result (labelled_a ∷ a ∷ [])
  -- a function goes
  pub function : plain_transformed (function_f [] ∷ []) (a ∷ []) ≡ plain_result (a ∷ [])
  pub function_not_kept : plain_transformed (function_f [] ∷ []) (a ∷ [])
      ≢ plain_result (a ∷ function_f [] ∷ [])
  -- so where a function stands under one label on both sides, that of the exports is the one that is imported then
  pub same_label : plain_transformed (function_f [] ∷ []) (function_f (type.U32 ∷ []) ∷ [])
      ≡ plain_result (function_f (type.U32 ∷ []) ∷ [])
  pub not_that_of_the_imports : plain_transformed (function_f [] ∷ [])
      (function_f (type.U32 ∷ []) ∷ []) ≢ plain_result (function_f [] ∷ [])
  -- where nothing is exported nothing stays
  pub all : plain_transformed (a ∷ b ∷ function_f [] ∷ []) [] ≡ plain_result []
  pub not_as_it_was : plain_transformed (a ∷ b ∷ function_f [] ∷ []) []
      ≢ plain_result (a ∷ b ∷ function_f [] ∷ [])
