-- Small graphs that are merged.
use Rattle.std.specs.Prelude.{ℕ, List, [], ◌∷◌, Some, None, codes}
use Rattle.wit_data.specs.declared.types.Field.{Field}
use Rattle.wit_data.specs.declared.function.Function.{Function}
use Rattle.wit_data.specs.declared.interface.Interface.{Interface}
use Rattle.wit_names.specs.declared.package_name.PackageName.{PackageName}
use Rattle.wit_data.specs.declared.stability.Stability.{Stability}
use Rattle.wit_data.specs.declared.types.TypeDef.{TypeDef}
use Rattle.wit_data.specs.declared.types.Type_.{Type_}
use Rattle.wit_data.specs.declared.world.World.{World}
use Rattle.wit_data.specs.declared.stability.Stability.TheVariants.{Unstable}
use Rattle.wit_data.specs.declared.types.TypeDefKind.TheVariants as kind
use Rattle.wit_data.specs.declared.types.Type_.TheVariants as type
use Rattle.wit_data.specs.declared.world.WorldKey.TheVariants as key
use Rattle.wit_graph_data.specs.examples.Samples.{entry_of, foo_bar, foo_bar_of, function_of, instance, interface_of, no_docs, type_in, world_of}
use Rattle.wit_graph_data.specs.declared.graph.Graph.{Graph}
use Rattle.wit_graph_data.specs.declared.graph.Package.{Package}
use Rattle.wit_merge_spec.specs.Matches.{GraphMerge}

-- one graph that goes into another
abbrev pub merge_of_graphs : Graph → Graph → GraphMerge
merge_of_graphs g other = record { graph = g; other = other; offset = 0 }

-- ---- parts

-- foo:bar alone, with these types, interfaces and worlds, and its two tables
abbrev pub foo_bar_alone : List TypeDef → List Interface → List World → List (List ℕ × ℕ)
    → List (List ℕ × ℕ) → Graph
foo_bar_alone types interfaces worlds table world_table =
    record {
      types = types;
      interfaces = interfaces;
      worlds = worlds;
      packages = foo_bar_of table world_table ∷ [];
      package_names = (foo_bar, 0) ∷ [];
    }

-- a number of this name in interface i, and another name of a type
abbrev pub number_in : ℕ → List ℕ → TypeDef
number_in i name = type_in i name (kind.Type_ type.U32)

abbrev pub alias_in : ℕ → List ℕ → ℕ → TypeDef
alias_in i name t = type_in i name (kind.Type_ (type.Id t))

-- a field a of this type
abbrev pub field_a : Type_ → Field
field_a ty = record { name = codes "a"; ty = ty; docs = no_docs; span = None }

-- an interface with functions
abbrev pub with_functions : List Function → Interface → Interface
with_functions functions interface = record interface { functions = under_names functions }
  where
    under_names : List Function → List (List ℕ × Function)
    under_names [] = []
    under_names (f ∷ fs) = (f.name, f) ∷ under_names fs

-- a function with one parameter
abbrev pub taking : List ℕ → List ℕ → Type_ → Function
taking name param ty =
    record (function_of name [] None)
    { params = record { name = param; ty = ty; span = None } ∷ [] }

-- the gates f and g
abbrev pub gate_f : Stability
gate_f = Unstable (codes "f") None

abbrev pub gate_g : Stability
gate_g = Unstable (codes "g") None

-- ---- whole graphs

-- interface a has a number t, b and c have other names of it, and c one of that of b; world w imports the three
abbrev pub three : Graph
three =
    foo_bar_alone (number_in 0 (codes "t") ∷ alias_in 1 (codes "t") 0 ∷ alias_in 2 (codes "t") 0
    ∷ alias_in 2 (codes "t2") 1 ∷ [])
    (interface_of (Some (codes "a")) ((codes "t", 0) ∷ [])
    ∷ interface_of (Some (codes "b")) ((codes "t", 1) ∷ [])
    ∷ interface_of (Some (codes "c")) ((codes "t", 2) ∷ (codes "t2", 3) ∷ []) ∷ [])
    (world_of (codes "w") (entry_of 0 ∷ entry_of 1 ∷ entry_of 2 ∷ []) [] ∷ [])
    ((codes "a", 0) ∷ (codes "b", 1) ∷ (codes "c", 2) ∷ []) ((codes "w", 0) ∷ [])

-- interface i with two numbers, the second of this name, and a world w that imports it
abbrev pub two_numbers : List ℕ → Graph
two_numbers second =
    foo_bar_alone (number_in 0 (codes "t") ∷ number_in 0 second ∷ [])
    (interface_of (Some (codes "i")) ((codes "t", 0) ∷ (second, 1) ∷ []) ∷ [])
    (world_of (codes "w") (entry_of 0 ∷ []) [] ∷ []) ((codes "i", 0) ∷ []) ((codes "w", 0) ∷ [])

-- interface i with a number t
abbrev pub one_number : Graph
one_number =
    foo_bar_alone (number_in 0 (codes "t") ∷ [])
    (interface_of (Some (codes "i")) ((codes "t", 0) ∷ []) ∷ []) [] ((codes "i", 0) ∷ []) []

-- interface i with numbers t and u, and j with another name v of u
abbrev pub more : Graph
more =
    foo_bar_alone
    (number_in 0 (codes "t") ∷ number_in 0 (codes "u") ∷ alias_in 1 (codes "v") 1 ∷ [])
    (interface_of (Some (codes "i")) ((codes "t", 0) ∷ (codes "u", 1) ∷ [])
    ∷ interface_of (Some (codes "j")) ((codes "v", 2) ∷ []) ∷ []) []
    ((codes "i", 0) ∷ (codes "j", 1) ∷ []) []

-- interface i with a resource t
abbrev pub resource_t : Graph
resource_t =
    foo_bar_alone (type_in 0 (codes "t") kind.Resource ∷ [])
    (interface_of (Some (codes "i")) ((codes "t", 0) ∷ []) ∷ []) [] ((codes "i", 0) ∷ []) []

-- interface i with a number t, and a record x with a field of it
abbrev pub record_x : Graph
record_x =
    foo_bar_alone (number_in 0 (codes "t")
    ∷ type_in 0 (codes "x") (kind.Record (field_a (type.Id 0) ∷ [])) ∷ [])
    (interface_of (Some (codes "i")) ((codes "t", 0) ∷ (codes "x", 1) ∷ []) ∷ []) []
    ((codes "i", 0) ∷ []) []

-- interface i with a resource t, and a record x with a field that names it itself
abbrev pub resource_record : Graph
resource_record =
    record record_x {
      types = type_in 0 (codes "t") kind.Resource
          ∷ type_in 0 (codes "x") (kind.Record (field_a (type.Id 0) ∷ [])) ∷ [];
    }

-- interface i, and a world w that imports it
abbrev pub world_of_i : Graph
world_of_i =
    record one_number {
      worlds = world_of (codes "w") (entry_of 0 ∷ []) [] ∷ [];
      packages = foo_bar_of ((codes "i", 0) ∷ []) ((codes "w", 0) ∷ []) ∷ [];
    }

-- interface j with a number v, and i with another name of it
abbrev pub i_uses_j : Graph
i_uses_j =
    foo_bar_alone (number_in 0 (codes "v") ∷ alias_in 1 (codes "v") 0 ∷ [])
    (interface_of (Some (codes "j")) ((codes "v", 0) ∷ [])
    ∷ interface_of (Some (codes "i")) ((codes "v", 1) ∷ []) ∷ [])
    [] ((codes "j", 0) ∷ (codes "i", 1) ∷ []) []

-- an interface without a name, with these types and functions, under label x of world w
abbrev pub inner : List (List ℕ × ℕ) → List TypeDef → List Function → Graph
inner listed types functions =
    foo_bar_alone types (with_functions functions (interface_of None listed) ∷ [])
    (world_of (codes "w") ((key.Name (codes "x"), instance 0) ∷ []) [] ∷ []) []
    ((codes "w", 0) ∷ [])

-- package foo:NAME with an interface, at this place among packages
abbrev pub foo_named : List ℕ → PackageName
foo_named name = record { namespace = codes "foo"; name = name; version = None }

abbrev pub package_named : List ℕ → List (List ℕ × ℕ) → Package
package_named name table =
    record { name = foo_named name; docs = no_docs; interfaces = table; worlds = [] }

abbrev pub interface_in : ℕ → List ℕ → List (List ℕ × ℕ) → Interface
interface_in p name types = record (interface_of (Some name) types) { «package» = Some p }

-- package foo:a with i, which has a number t, and foo:b with j, which has another name of it
abbrev pub b_uses_a : Graph
b_uses_a = record {
  types = number_in 0 (codes "t") ∷ alias_in 1 (codes "t") 0 ∷ [];
  interfaces =
      interface_in 0 (codes "i") ((codes "t", 0) ∷ [])
      ∷ interface_in 1 (codes "j") ((codes "t", 1) ∷ []) ∷ [];
  worlds = [];
  packages =
      package_named (codes "a") ((codes "i", 0) ∷ [])
      ∷ package_named (codes "b") ((codes "j", 1) ∷ []) ∷ [];
  package_names = (foo_named (codes "a"), 0) ∷ (foo_named (codes "b"), 1) ∷ [];
}

-- package foo:b with k, which has a number v, and foo:a with h, which has another name of it
abbrev pub a_uses_b : Graph
a_uses_b = record {
  types = number_in 0 (codes "v") ∷ alias_in 1 (codes "v") 0 ∷ [];
  interfaces =
      interface_in 0 (codes "k") ((codes "v", 0) ∷ [])
      ∷ interface_in 1 (codes "h") ((codes "v", 1) ∷ []) ∷ [];
  worlds = [];
  packages =
      package_named (codes "b") ((codes "k", 0) ∷ [])
      ∷ package_named (codes "a") ((codes "h", 1) ∷ []) ∷ [];
  package_names = (foo_named (codes "b"), 0) ∷ (foo_named (codes "a"), 1) ∷ [];
}

-- the same two packages where h has a number v of its own
abbrev pub a_beside_b : Graph
a_beside_b = record a_uses_b { types = number_in 0 (codes "v") ∷ number_in 1 (codes "v") ∷ [] }

-- package foo:c alone, with k
abbrev pub only_c : Graph
only_c = record {
  types = number_in 0 (codes "v") ∷ [];
  interfaces = interface_in 0 (codes "k") ((codes "v", 0) ∷ []) ∷ [];
  worlds = [];
  packages = package_named (codes "c") ((codes "k", 0) ∷ []) ∷ [];
  package_names = (foo_named (codes "c"), 0) ∷ [];
}
