-- Worked merges: which things are matched, what things are remapped to, and the whole graph that is made.
use Rattle.std.specs.Prelude.{◌≡◌, ℕ, suc, List, [], ◌∷◌, Some, None, codes}
use Rattle.wit_data.specs.Entries.{Entry}
use Rattle.wit_data.specs.declared.stability.Stability.{Stability}
use Rattle.wit_data.specs.declared.types.TypeDef.{TypeDef}
use Rattle.wit_data.specs.declared.types.Type_.{Type_}
use Rattle.wit_data.specs.declared.world.World.{World}
use Rattle.wit_data.specs.declared.types.Handle.TheVariants as handle
use Rattle.wit_data.specs.declared.types.TypeDefKind.TheVariants as kind
use Rattle.wit_data.specs.declared.types.TypeOwner.TheVariants as owner
use Rattle.wit_data.specs.declared.types.Type_.TheVariants as type
use Rattle.wit_data.specs.declared.world.WorldItem.TheVariants as item
use Rattle.wit_data.specs.declared.world.WorldKey.TheVariants as key
use Rattle.wit_elaboration.specs.examples.Examples.{empty_graph}
use Rattle.wit_graph_data.specs.examples.Samples.{entry_of, foo_bar, foo_bar_of, function_of, interface_of, labelled_entry, no_docs, type_in, type_of, unnamed, world_of}
use Rattle.wit_graph_data.specs.declared.graph.Graph.{Graph}
use Rattle.wit_graph_data.specs.declared.graph.Package.{Package}
use Rattle.wit_merge_spec.specs.Matches.{counterpart_interface, counterpart_package, counterpart_type, counterpart_world}
use Rattle.wit_merge_match.specs.Remapped.{merge_remap}
use Rattle.wit_merge_spec.specs.Merged.{merged}
use Rattle.examples_resolve.specs.merge.Graphs.{a_beside_b, a_uses_b, alias_in, b_uses_a, field_a, foo_bar_alone, foo_named, gate_f, i_uses_j, inner, interface_in, merge_of_graphs, more, number_in, one_number, only_c, package_named, record_x, resource_record, resource_t, three, two_numbers, world_of_i}

-- an interface without a name beside world w, which imports and exports these
abbrev pub nameless : List Entry → List Entry → Graph
nameless imports exports =
    foo_bar_alone [] (interface_of None [] ∷ []) (world_of (codes "w") imports exports ∷ []) []
    ((codes "w", 0) ∷ [])

-- under label x of world w the interface a
abbrev pub named_x : Graph
named_x =
    foo_bar_alone [] (interface_of (Some (codes "a")) [] ∷ [])
    (world_of (codes "w") (labelled_entry (codes "x") 0 ∷ []) [] ∷ []) ((codes "a", 0) ∷ [])
    ((codes "w", 0) ∷ [])

-- an interface without a name, with a number t, under label y of world w
abbrev pub inner_y : Graph
inner_y =
    record (inner ((codes "t", 0) ∷ []) (number_in 0 (codes "t") ∷ []) [])
    { worlds = world_of (codes "w") (labelled_entry (codes "y") 0 ∷ []) [] ∷ [] }

-- an interface without a name under label x of world v
abbrev pub x_of_v : Graph
x_of_v =
    foo_bar_alone [] (interface_of None [] ∷ [])
    (world_of (codes "v") (labelled_entry (codes "x") 0 ∷ []) [] ∷ []) [] ((codes "v", 0) ∷ [])

-- what is matched, and what things are remapped to
pub record ExamplesOfMatches : Type 0 where
  -- by names, whatever the order
  pub home : counterpart_package (merge_of_graphs b_uses_a a_uses_b) 0 ≡ Some 1
  pub no_home : counterpart_package (merge_of_graphs b_uses_a only_c) 0 ≡ None
  pub interface : counterpart_interface (merge_of_graphs one_number more) 0 ≡ Some 0
  pub no_interface : counterpart_interface (merge_of_graphs one_number more) 1 ≡ None
  -- an interface of that name in a package of another name isn't matched
  pub other_home : counterpart_interface (merge_of_graphs a_uses_b only_c) 0 ≡ None
  pub type : counterpart_type (merge_of_graphs one_number more) 0 ≡ Some 0
  pub no_type : counterpart_type (merge_of_graphs one_number more) 1 ≡ None
  -- nor is a type of that name in an interface of another name
  pub other_interface : counterpart_type (merge_of_graphs b_uses_a a_uses_b) 0 ≡ None
  pub world : counterpart_world (merge_of_graphs three (two_numbers (codes "u"))) 0 ≡ Some 0
  -- interfaces without a name by the label under which they stand, their types by name
  pub inner_interface : counterpart_interface (merge_of_graphs (inner [] [] [])
      (inner ((codes "t", 0) ∷ []) (number_in 0 (codes "t") ∷ []) [])) 0 ≡ Some 0
  pub inner_type : counterpart_type
      (merge_of_graphs (inner ((codes "t", 0) ∷ []) (number_in 0 (codes "t") ∷ []) [])
      (inner ((codes "t", 0) ∷ []) (number_in 0 (codes "t") ∷ []) [])) 0 ≡ Some 0
  -- among the exports as well
  pub inner_export : counterpart_interface
      (merge_of_graphs (nameless [] (labelled_entry (codes "x") 0 ∷ []))
      (nameless [] (labelled_entry (codes "x") 0 ∷ []))) 0 ≡ Some 0
  -- not under another label, nor their types; not on the other side, not under the label of another world, and not where
  -- an interface with a name stands under the label
  pub other_label : counterpart_interface (merge_of_graphs (inner [] [] []) inner_y) 0 ≡ None
  pub other_label_type : counterpart_type
      (merge_of_graphs (inner ((codes "t", 0) ∷ []) (number_in 0 (codes "t") ∷ []) []) inner_y)
      0 ≡ None
  pub other_side : counterpart_interface
      (merge_of_graphs (inner [] [] []) (nameless [] (labelled_entry (codes "x") 0 ∷ []))) 0
      ≡ None
  pub other_side_too : counterpart_interface
      (merge_of_graphs (nameless [] (labelled_entry (codes "x") 0 ∷ [])) (inner [] [] [])) 0
      ≡ None
  pub other_world : counterpart_interface (merge_of_graphs (inner [] [] []) x_of_v) 0 ≡ None
  pub named_there : counterpart_interface (merge_of_graphs named_x (inner [] [] [])) 0 ≡ None
  -- what things are remapped to: i and its t to those that are there, u, j and v to the next ids
  pub goes : merge_remap (merge_of_graphs one_number more)
      ≡ record {
        types = Some 0 ∷ Some 1 ∷ Some 2 ∷ [];
        interfaces = Some 0 ∷ Some 1 ∷ [];
        worlds = [];
        packages = 0 ∷ [];
      }
  -- what is matched doesn't go to the next ids, and what isn't does go somewhere
  pub not_anew : merge_remap (merge_of_graphs one_number more)
      ≡ record {
        types = Some 1 ∷ Some 2 ∷ Some 3 ∷ [];
        interfaces = Some 1 ∷ Some 2 ∷ [];
        worlds = [];
        packages = 1 ∷ [];
      } → ⊥
  pub not_nowhere : merge_remap (merge_of_graphs one_number more)
      ≡ record {
        types = Some 0 ∷ None ∷ None ∷ [];
        interfaces = Some 0 ∷ None ∷ [];
        worlds = [];
        packages = 0 ∷ [];
      } → ⊥
  -- packages that are there in another order
  pub goes_across : merge_remap (merge_of_graphs b_uses_a a_beside_b)
      ≡ record {
        types = Some 2 ∷ Some 3 ∷ [];
        interfaces = Some 2 ∷ Some 3 ∷ [];
        worlds = [];
        packages = 1 ∷ 0 ∷ [];
      }
  -- they don't go to the ids that they have; and what moves goes there in its order
  pub not_straight : merge_remap (merge_of_graphs b_uses_a a_beside_b)
      ≡ record {
        types = Some 2 ∷ Some 3 ∷ [];
        interfaces = Some 2 ∷ Some 3 ∷ [];
        worlds = [];
        packages = 0 ∷ 1 ∷ [];
      } → ⊥
  pub not_transformed : merge_remap (merge_of_graphs b_uses_a a_beside_b)
      ≡ record {
        types = Some 3 ∷ Some 2 ∷ [];
        interfaces = Some 3 ∷ Some 2 ∷ [];
        worlds = [];
        packages = 1 ∷ 0 ∷ [];
      } → ⊥

-- interface i of numbers of these names, in this order
abbrev pub three_numbers : List ℕ → List ℕ → Graph
three_numbers second third =
    foo_bar_alone (number_in 0 (codes "t") ∷ number_in 0 second ∷ number_in 0 third ∷ [])
    (interface_of (Some (codes "i")) ((codes "t", 0) ∷ (second, 1) ∷ (third, 2) ∷ []) ∷ [])
    (world_of (codes "w") (entry_of 0 ∷ []) [] ∷ []) ((codes "i", 0) ∷ [])
    ((codes "w", 0) ∷ [])

-- interface i with a number t under this gate
abbrev pub gated : Stability → Graph
gated note =
    record one_number { types = record (number_in 0 (codes "t")) { stability = note } ∷ [] }

-- a record x of interface i with a field of this type
abbrev pub x_of : Type_ → TypeDef
x_of ty = type_in 0 (codes "x") (kind.Record (field_a ty ∷ []))

-- package foo:bar of the graph `three`
abbrev pub home_of_three : Package
home_of_three =
    foo_bar_of ((codes "a", 0) ∷ (codes "b", 1) ∷ (codes "c", 2) ∷ []) ((codes "w", 0) ∷ [])

-- a function f under label f of world w
abbrev pub world_function : Graph
world_function =
    foo_bar_alone [] [] (world_of (codes "w")
    ((key.Name (codes "f"), item.Function (function_of (codes "f") [] None)) ∷ []) [] ∷ [])
    [] ((codes "w", 0) ∷ [])

-- world v with a number k of its own, another name s of it and a function f of s; it is world w, its types from t on
abbrev pub types_of_v : ℕ → ℕ → List TypeDef
types_of_v w t =
    type_of (Some (codes "k")) (kind.Type_ type.U32) (owner.World w)
    ∷ type_of (Some (codes "s")) (kind.Type_ (type.Id t)) (owner.World w) ∷ []

abbrev pub v_of : ℕ → World
v_of t =
    world_of (codes "v")
    ((key.Name (codes "k"), item.Type_ t None) ∷ (key.Name (codes "s"), item.Type_ (suc t) None)
    ∷ (key.Name (codes "f"), item.Function (function_of (codes "f") (type.Id (suc t) ∷ []) None))
    ∷ []) []

abbrev pub v_alone : Graph
v_alone = foo_bar_alone (types_of_v 0 0) [] (v_of 0 ∷ []) [] ((codes "v", 0) ∷ [])

-- whole graphs
pub record ExamplesOfMergedGraphs : Type 0 where
  -- nothing into a graph, a graph into nothing, a graph into itself
  pub nothing_comes : merged (merge_of_graphs three empty_graph) ≡ three
  pub into_nothing : merged (merge_of_graphs empty_graph three) ≡ three
  pub itself : merged (merge_of_graphs three three) ≡ three
  -- with nothing nothing goes, be it the list of a package's name alone or one import; and a package that holds nothing is
  -- not nothing
  pub name_not_lost : merged (merge_of_graphs three empty_graph)
      ≡ record three { package_names = [] } → ⊥
  pub import_not_lost : merged (merge_of_graphs three empty_graph)
      ≡ record three { worlds = world_of (codes "w") (entry_of 0 ∷ entry_of 1 ∷ []) [] ∷ [] } → ⊥
  pub not_empty : merged (merge_of_graphs empty_graph three) ≡ empty_graph → ⊥
  pub empty_package : merged
      (merge_of_graphs three (record empty_graph {
        packages = package_named (codes "c") []
            ∷ [];
        package_names = (foo_named (codes "c"), 0) ∷ [];
      })) ≡ three → ⊥
  -- of a graph into itself nothing comes a second time: not a type, not the package, not its name
  pub type_not_twice : merged (merge_of_graphs three three)
      ≡ record three {
        types = number_in 0 (codes "t") ∷ alias_in 1 (codes "t") 0 ∷ alias_in 2 (codes "t") 0
            ∷ alias_in 2 (codes "t2") 1 ∷ alias_in 2 (codes "t2") 1 ∷ [];
      } → ⊥
  pub package_not_twice : merged (merge_of_graphs three three)
      ≡ record three { packages = home_of_three ∷ home_of_three ∷ [] } → ⊥
  pub name_not_twice : merged (merge_of_graphs three three)
      ≡ record three { package_names = (foo_bar, 0) ∷ (foo_bar, 0) ∷ [] } → ⊥
  -- what isn't there comes: u to i, j to the package; and it isn't left out
  pub grown : merged (merge_of_graphs one_number more) ≡ more
  pub stays : merged (merge_of_graphs one_number more) ≡ one_number → ⊥
  -- and the other way round nothing comes
  pub less : merged (merge_of_graphs more one_number) ≡ more
  -- in both orders the same names, though not the same order
  pub first_order : merged (merge_of_graphs (two_numbers (codes "u")) (two_numbers (codes "v")))
      ≡ three_numbers (codes "u") (codes "v")
  pub second_order : merged (merge_of_graphs (two_numbers (codes "v")) (two_numbers (codes "u")))
      ≡ three_numbers (codes "v") (codes "u")
  -- what is there stays before what comes, in each order; nothing is left out, and the world imports i still
  pub first_not_transformed : merged
      (merge_of_graphs (two_numbers (codes "u")) (two_numbers (codes "v")))
      ≡ three_numbers (codes "v") (codes "u") → ⊥
  pub second_not_transformed : merged
      (merge_of_graphs (two_numbers (codes "v")) (two_numbers (codes "u")))
      ≡ three_numbers (codes "u") (codes "v") → ⊥
  pub first_not_less : merged (merge_of_graphs (two_numbers (codes "u")) (two_numbers (codes "v")))
      ≡ two_numbers (codes "u") → ⊥
  pub second_not_less : merged (merge_of_graphs (two_numbers (codes "v")) (two_numbers (codes "u")))
      ≡ two_numbers (codes "v") → ⊥
  pub first_import : merged (merge_of_graphs (two_numbers (codes "u")) (two_numbers (codes "v")))
      ≡ record (three_numbers (codes "u") (codes "v"))
      { worlds = world_of (codes "w") [] [] ∷ [] } → ⊥
  pub second_import : merged (merge_of_graphs (two_numbers (codes "v")) (two_numbers (codes "u")))
      ≡ record (three_numbers (codes "v") (codes "u"))
      { worlds = world_of (codes "w") [] [] ∷ [] } → ⊥
  -- so the two graphs that are made aren't equal
  pub orders_differ : merged (merge_of_graphs (two_numbers (codes "u")) (two_numbers (codes "v")))
      ≡ merged (merge_of_graphs (two_numbers (codes "v")) (two_numbers (codes "u"))) → ⊥
  -- t is a resource, so a value of it that comes is an `own`, which stands behind what moves; the record itself isn't kept out
  pub owned : (merged (merge_of_graphs resource_t resource_record)).types
      ≡ type_in 0 (codes "t") kind.Resource
      ∷ type_in 0 (codes "x") (kind.Record
      (record { name = codes "a"; ty = type.Id 2; docs = no_docs; span = None } ∷ []))
      ∷ unnamed (kind.Handle (handle.Own 0)) ∷ []
  -- not a plain value of it, not a `borrow`, not an `own` before the record, and t becomes no number
  pub not_plain : (merged (merge_of_graphs resource_t resource_record)).types
      ≡ type_in 0 (codes "t") kind.Resource ∷ x_of (type.Id 0) ∷ [] → ⊥
  pub not_borrowed : (merged (merge_of_graphs resource_t resource_record)).types
      ≡ type_in 0 (codes "t") kind.Resource ∷ x_of (type.Id 2)
      ∷ unnamed (kind.Handle (handle.Borrow 0)) ∷ [] → ⊥
  pub not_before : (merged (merge_of_graphs resource_t resource_record)).types
      ≡ type_in 0 (codes "t") kind.Resource ∷ unnamed (kind.Handle (handle.Own 0))
      ∷ x_of (type.Id 1) ∷ [] → ⊥
  pub no_number : (merged (merge_of_graphs resource_t resource_record)).types
      ≡ number_in 0 (codes "t") ∷ x_of (type.Id 2) ∷ unnamed (kind.Handle (handle.Own 0)) ∷ [] → ⊥
  -- where t is a number no `own` comes
  pub no_own : merged (merge_of_graphs one_number record_x) ≡ record_x
  -- and a value that is there stays as it is
  pub not_owned : merged (merge_of_graphs resource_record resource_t) ≡ resource_record
  -- i uses j now, so a world that imports i imports j, before it
  pub elaborated : (merged (merge_of_graphs world_of_i i_uses_j)).worlds
      ≡ world_of (codes "w") (entry_of 1 ∷ entry_of 0 ∷ []) [] ∷ []
  pub not_as_listed : (merged (merge_of_graphs world_of_i i_uses_j)).worlds ≡ world_of_i.worlds → ⊥
  -- the interface without a name takes what the other one has
  pub inner_joined : merged
      (merge_of_graphs (inner ((codes "t", 0) ∷ []) (number_in 0 (codes "t") ∷ []) [])
      (inner ((codes "u", 0) ∷ []) (number_in 0 (codes "u") ∷ [])
      (function_of (codes "f") (type.Id 0 ∷ []) None ∷ [])))
      ≡ inner ((codes "t", 0) ∷ (codes "u", 1) ∷ [])
      (number_in 0 (codes "t") ∷ number_in 0 (codes "u") ∷ [])
      (function_of (codes "f") (type.Id 1 ∷ []) None ∷ [])
  -- a function of a matched world doesn't come again
  pub function_once : merged (merge_of_graphs world_function world_function) ≡ world_function
  -- a world comes with its own types, at the next ids, and they are of it, not of the world that had its id
  pub world_comes : merged (merge_of_graphs world_of_i v_alone) ≡ record world_of_i {
    types = number_in 0 (codes "t") ∷ types_of_v 1 1;
    worlds = world_of (codes "w") (entry_of 0 ∷ []) [] ∷ v_of 1 ∷ [];
    packages = foo_bar_of ((codes "i", 0) ∷ []) ((codes "w", 0) ∷ (codes "v", 1) ∷ []) ∷ [];
  }
  pub not_of_another : (merged (merge_of_graphs world_of_i v_alone)).types
      ≡ number_in 0 (codes "t") ∷ types_of_v 0 1 → ⊥
  -- a matched world takes none
  pub types_once : merged (merge_of_graphs v_alone v_alone) ≡ v_alone
  -- packages: what each has joins under its name, and one that isn't there comes last
  pub packages : (merged (merge_of_graphs b_uses_a a_beside_b)).packages
      ≡ package_named (codes "a") ((codes "i", 0) ∷ (codes "h", 3) ∷ [])
      ∷ package_named (codes "b") ((codes "j", 1) ∷ (codes "k", 2) ∷ []) ∷ []
  pub package_comes : (merged (merge_of_graphs b_uses_a only_c)).packages
      ≡ package_named (codes "a") ((codes "i", 0) ∷ [])
      ∷ package_named (codes "b") ((codes "j", 1) ∷ [])
      ∷ package_named (codes "c") ((codes "k", 2) ∷ []) ∷ []
  pub named_once : (merged (merge_of_graphs b_uses_a only_c)).package_names
      ≡ (foo_named (codes "a"), 0) ∷ (foo_named (codes "b"), 1) ∷ (foo_named (codes "c"), 2) ∷ []
  pub of_its_package : (merged (merge_of_graphs b_uses_a only_c)).interfaces
      ≡ interface_in 0 (codes "i") ((codes "t", 0) ∷ [])
      ∷ interface_in 1 (codes "j") ((codes "t", 1) ∷ [])
      ∷ interface_in 2 (codes "k") ((codes "v", 2) ∷ []) ∷ []
  -- a gate replaces none, and stays where none comes
  pub gate_comes : merged (merge_of_graphs one_number (gated gate_f)) ≡ gated gate_f
  pub gate_stays : merged (merge_of_graphs (gated gate_f) one_number) ≡ gated gate_f
  -- spans of what moves move
  pub moved : (merged (record {
    graph = empty_graph;
    other = record one_number {
      interfaces = record (interface_of (Some (codes "i")) ((codes "t", 0) ∷ []))
          { span = Some (20, 25) } ∷ [];
    };
    offset = 16;
  })).interfaces
      ≡ record (interface_of (Some (codes "i")) ((codes "t", 0) ∷ [])) { span = Some (36, 41) } ∷ []
