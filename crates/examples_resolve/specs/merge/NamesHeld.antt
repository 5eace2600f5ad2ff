-- The names of small graphs, the keys of their worlds, and which of their interfaces are placed.
use Rattle.std.specs.Prelude.{◌≡◌, [], ◌∷◌, false, true, None, codes}
use Rattle.wit_data.specs.declared.types.Type_.TheVariants as type
use Rattle.wit_data.specs.declared.world.WorldItem.TheVariants as item
use Rattle.wit_data.specs.declared.world.WorldKey.TheVariants as key
use Rattle.wit_graph_data.specs.examples.Samples.{foo_bar, function_of, world_of}
use Rattle.wit_graph_data.specs.IdText.{key_text}
use Rattle.wit_graph_data.specs.declared.graph.Graph.{Graph}
use Rattle.wit_merge_spec.specs.Merged.{merged_interface, merged_type}
use Rattle.wit_merge_laws.specs.laws.CopyLaws.{IsPlaced}
use Rattle.wit_merge_laws.specs.laws.OrderLaws.{AreAlike, HasKey, under_interface, under_label}
use Rattle.wit_merge_laws.specs.laws.Names.{HasImport, HasName, Label, at_label, in_package, of_export, of_function, of_interface, of_label, of_package, of_type, of_world}
use Rattle.examples_resolve.specs.merge.Graphs.{b_uses_a, foo_named, inner, merge_of_graphs, number_in, three, world_of_i}

-- label x of the imports of world w of foo:bar
abbrev pub at_x : Label
at_x = record { home = foo_bar; world = codes "w"; exported = false; label = codes "x" }

-- there an interface without a name, with a number t and a function f that takes it
abbrev pub inner_t : Graph
inner_t =
    inner ((codes "t", 0) ∷ []) (number_in 0 (codes "t") ∷ [])
    (function_of (codes "f") (type.Id 0 ∷ []) None ∷ [])

pub record ExamplesOfNames : Type 0 where
  pub package_name : HasName three (of_package foo_bar)
  pub no_package : HasName three (of_package (foo_named (codes "c"))) → ⊥
  pub interface_name : HasName three (of_interface (in_package foo_bar (codes "b")))
  -- an interface isn't named in another package than its own
  pub own_home : HasName b_uses_a (of_interface (in_package (foo_named (codes "b")) (codes "j")))
  pub other_home : HasName b_uses_a (of_interface (in_package (foo_named (codes "a")) (codes "j")))
      → ⊥
  pub world_name : HasName three (of_world foo_bar (codes "w"))
  pub no_world : HasName three (of_world foo_bar (codes "v")) → ⊥
  pub type_name : HasName three (of_type (in_package foo_bar (codes "c")) (codes "t2"))
  -- nor a type in another interface
  pub other_interface : HasName three (of_type (in_package foo_bar (codes "b")) (codes "t2")) → ⊥
  -- an interface without a name is named by the label under which it stands
  pub inner_interface : HasName inner_t (of_interface (at_label at_x))
  pub inner_type : HasName inner_t (of_type (at_label at_x) (codes "t"))
  pub inner_function : HasName inner_t (of_function (at_label at_x) (codes "f"))
  -- and not among the exports
  pub other_side : HasName inner_t (of_interface (at_label (record at_x { exported = true }))) → ⊥
  pub label_name : HasName inner_t (of_label at_x)
  -- a key that is an interface is no label
  pub no_label : HasName world_of_i (of_label (record at_x { label = codes "i" })) → ⊥
  -- an interface that is imported isn't exported
  pub imported : HasImport three foo_bar (codes "w") foo_bar (codes "c")
  pub no_export : HasName three (of_export foo_bar (codes "w") foo_bar (codes "c")) → ⊥

-- ---- keys

-- a world w that imports a function under a label with the text of the key of interface i
abbrev pub same_text : Graph
same_text =
    record world_of_i {
      worlds = world_of (codes "w") ((
        key.Name (codes "foo:bar/i"),
        item.Function (function_of (codes "foo:bar/i") [] None),
      ) ∷ []) [] ∷ [];
    }

pub record ExamplesOfKeys : Type 0 where
  pub text : key_text world_of_i.packages world_of_i.interfaces (key.Interface 0)
      ≡ codes "foo:bar/i"
  pub imported : HasKey world_of_i foo_bar (codes "w") false (under_interface foo_bar (codes "i"))
  pub labelled : HasKey same_text foo_bar (codes "w") false (under_label (codes "foo:bar/i"))
  -- the key of an interface isn't the label of its text, nor is the label that key
  pub no_label : HasKey world_of_i foo_bar (codes "w") false (under_label (codes "foo:bar/i")) → ⊥
  pub no_interface : HasKey same_text foo_bar (codes "w") false
      (under_interface foo_bar (codes "i")) → ⊥
  -- what is imported isn't exported
  pub other_side : HasKey world_of_i foo_bar (codes "w") true (under_interface foo_bar (codes "i"))
      → ⊥
  -- so two graphs aren't alike whose worlds have keys of one text
  pub not_alike : AreAlike world_of_i same_text → ⊥

-- ---- places of interfaces

-- the interface without a name, which stands in no world
abbrev pub lost : Graph
lost = record inner_t { worlds = world_of (codes "w") [] [] ∷ [] }

pub record ExamplesOfPlaces : Type 0 where
  pub named : IsPlaced three 1
  pub unnamed : IsPlaced inner_t 0
  pub nowhere : IsPlaced lost 0 → ⊥
  -- where a copy of its graph goes into it, one that is placed is where its copy goes, and another comes again
  pub goes_to_itself : merged_interface (merge_of_graphs inner_t inner_t) 0 ≡ 0
  pub type_goes_to_itself : merged_type (merge_of_graphs inner_t inner_t) 0 ≡ 0
  pub comes_again : merged_interface (merge_of_graphs lost lost) 0 ≡ 1
  pub type_comes_again : merged_type (merge_of_graphs lost lost) 0 ≡ 1
