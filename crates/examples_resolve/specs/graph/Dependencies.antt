-- Interfaces that use one another, and packages in the order of what they depend on.
use Rattle.std.specs.Prelude.{◌≡◌, ◌≢◌, ℕ, List, [], ◌∷◌, Some, None, codes}
use Rattle.wit_data.specs.declared.interface.Interface.{Interface}
use Rattle.wit_data.specs.declared.types.TypeDef.{TypeDef}
use Rattle.wit_data.specs.declared.world.World.{World}
use Rattle.wit_data.specs.declared.types.TypeDefKind.TheVariants as kind
use Rattle.wit_data.specs.declared.types.Type_.TheVariants as type
use Rattle.wit_graph_data.specs.Queries.{interface_direct_deps, topological_packages}
use Rattle.wit_graph_data.specs.examples.Samples.{entry_of, interface_of, no_docs, type_in, world_of}
use Rattle.wit_graph_data.specs.declared.graph.Package.{Package}

-- a number of interface i, and another name of a type
abbrev pub number_in : ℕ → List ℕ → TypeDef
number_in i name = type_in i name (kind.Type_ type.U32)

abbrev pub alias_in : ℕ → List ℕ → ℕ → TypeDef
alias_in i name t = type_in i name (kind.Type_ (type.Id t))

-- ---- interfaces

-- interface a has a number t; b has two other names of it, and u, another name of its own t; c has another name of that
-- t of b; d has another name of c's t, and then one of a's
abbrev pub four_types : List TypeDef
four_types =
    number_in 0 (codes "t") ∷ alias_in 1 (codes "t") 0 ∷ alias_in 1 (codes "t2") 0
    ∷ alias_in 1 (codes "u") 1 ∷ alias_in 2 (codes "t") 1
    ∷ alias_in 3 (codes "t") 4 ∷ alias_in 3 (codes "s") 0 ∷ []

abbrev pub four : List Interface
four =
    interface_of (Some (codes "a")) ((codes "t", 0) ∷ [])
    ∷ interface_of (Some (codes "b")) ((codes "t", 1) ∷ (codes "t2", 2) ∷ (codes "u", 3) ∷ [])
    ∷ interface_of (Some (codes "c")) ((codes "t", 4) ∷ [])
    ∷ interface_of (Some (codes "d")) ((codes "t", 5) ∷ (codes "s", 6) ∷ []) ∷ []

-- what an interface uses directly
abbrev pub deps_of : ℕ → List ℕ
deps_of i = interface_direct_deps four_types four i

pub record ExamplesOfDependencies : Type 0 where
  -- a uses nothing, and what uses it is none of its dependencies
  pub nothing : deps_of 0 ≡ []
  pub not_users : deps_of 0 ≢ 1 ∷ []
  -- b uses a by two types, and that is told twice; another name of its own type is no use
  pub with_repeats : deps_of 1 ≡ 0 ∷ 0 ∷ []
  pub not_once : deps_of 1 ≢ 0 ∷ []
  pub not_itself : deps_of 1 ≢ 0 ∷ 0 ∷ 1 ∷ []
  -- c uses b alone, not what b uses
  pub direct : deps_of 2 ≡ 1 ∷ []
  pub not_reached : deps_of 2 ≢ 0 ∷ 1 ∷ []
  -- d uses c and then a, in the order of its types
  pub in_order : deps_of 3 ≡ 2 ∷ 0 ∷ []
  pub not_by_id : deps_of 3 ≢ 0 ∷ 2 ∷ []
  -- there is no other
  pub no_interface : deps_of 4 ≡ []

-- ---- packages

-- package foo:NAME with an interface of this name
abbrev pub package_named : List ℕ → ℕ → List (List ℕ × ℕ) → Package
package_named name i worlds =
    record {
      name = record { namespace = codes "foo"; name = name; version = None };
      docs = no_docs;
      interfaces = (name, i) ∷ [];
      worlds = worlds;
    }

-- an interface of package p
abbrev pub interface_in : ℕ → List ℕ → List (List ℕ × ℕ) → Interface
interface_in p name types = record (interface_of (Some name) types) { «package» = Some p }

-- the order of foo:a, foo:b and foo:c, where interface a lists these types, b type 0 and c type 1, these are the worlds,
-- and foo:a has this table of them
abbrev pub order_of : List TypeDef → List (List ℕ × ℕ) → List World → List (List ℕ × ℕ) → List ℕ
order_of types of_a worlds table =
    topological_packages types
    (interface_in 0 (codes "a") of_a ∷ interface_in 1 (codes "b") ((codes "t", 0) ∷ [])
    ∷ interface_in 2 (codes "c") ((codes "t", 1) ∷ []) ∷ []) worlds
    (package_named (codes "a") 0 table ∷ package_named (codes "b") 1 []
    ∷ package_named (codes "c") 2 [] ∷ [])

-- no package depends on another
abbrev pub apart : List ℕ
apart = order_of (number_in 1 (codes "t") ∷ number_in 2 (codes "t") ∷ []) [] [] []

-- a uses c
abbrev pub a_uses_c : List ℕ
a_uses_c =
    order_of (number_in 1 (codes "t") ∷ number_in 2 (codes "t") ∷ alias_in 0 (codes "t") 1 ∷ [])
    ((codes "t", 2) ∷ []) [] []

-- a uses c and then b
abbrev pub a_uses_both : List ℕ
a_uses_both =
    order_of (number_in 1 (codes "t") ∷ number_in 2 (codes "t") ∷ alias_in 0 (codes "t") 1
    ∷ alias_in 0 (codes "s") 0 ∷ []) ((codes "t", 2) ∷ (codes "s", 3) ∷ []) [] []

-- a uses b, and b uses c
abbrev pub in_a_row : List ℕ
in_a_row =
    order_of (alias_in 1 (codes "t") 1 ∷ number_in 2 (codes "t") ∷ alias_in 0 (codes "t") 0 ∷ [])
    ((codes "t", 2) ∷ []) [] []

-- world w of foo:a imports c
abbrev pub imports_c : List ℕ
imports_c =
    order_of (number_in 1 (codes "t") ∷ number_in 2 (codes "t") ∷ []) []
    (world_of (codes "w") (entry_of 2 ∷ []) [] ∷ []) ((codes "w", 0) ∷ [])

pub record ExamplesOfPackageOrder : Type 0 where
  -- where nothing depends on anything they come by their ids
  pub by_id : apart ≡ 0 ∷ 1 ∷ 2 ∷ []
  pub not_reversed : apart ≢ 2 ∷ 1 ∷ 0 ∷ []
  -- what foo:a depends on comes before it, and foo:b after it, as by id; all are there, each once
  pub dependency_first : a_uses_c ≡ 2 ∷ 0 ∷ 1 ∷ []
  pub not_by_id : a_uses_c ≢ 0 ∷ 1 ∷ 2 ∷ []
  pub not_users_last : a_uses_c ≢ 1 ∷ 2 ∷ 0 ∷ []
  pub not_used_alone : a_uses_c ≢ 2 ∷ 0 ∷ []
  pub not_again : a_uses_c ≢ 2 ∷ 0 ∷ 1 ∷ 2 ∷ []
  -- several dependencies come in the order in which they are used
  pub in_order : a_uses_both ≡ 2 ∷ 1 ∷ 0 ∷ []
  pub not_in_order_of_ids : a_uses_both ≢ 1 ∷ 2 ∷ 0 ∷ []
  -- each after its own
  pub row : in_a_row ≡ 2 ∷ 1 ∷ 0 ∷ []
  pub not_direct_alone : in_a_row ≢ 1 ∷ 0 ∷ 2 ∷ []
  -- what a world imports counts
  pub of_a_world : imports_c ≡ 2 ∷ 0 ∷ 1 ∷ []
  pub not_interfaces_alone : imports_c ≢ 0 ∷ 1 ∷ 2 ∷ []
