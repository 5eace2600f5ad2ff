-- Why imports aren't merged by tracks: for each reason a graph that has it and one that just lacks it, and then has
-- no other.
use Rattle.std.specs.Prelude.{ℕ, List, [], ◌∷◌, ◌++◌, Some, None, codes}
use Rattle.wit_data.specs.declared.function.Function.{Function}
use Rattle.wit_data.specs.declared.function.FunctionKind.{FunctionKind}
use Rattle.wit_data.specs.declared.interface.Interface.{Interface}
use Rattle.wit_names.specs.declared.package_name.PackageName.{PackageName}
use Rattle.wit_data.specs.declared.types.TypeDef.{TypeDef}
use Rattle.wit_data.specs.declared.types.Type_.{Type_}
use Rattle.wit_data.specs.declared.function.FunctionKind.TheVariants as function
use Rattle.wit_names.specs.declared.track.TrackRule.TheVariants.{Published, WithPrereleases}
use Rattle.wit_data.specs.declared.types.Type_.TheVariants as type
use Rattle.wit_graph_data.specs.Error.{NoCause}
use Rattle.wit_graph_data.specs.examples.Samples.{function_of}
use Rattle.wit_graph_data.specs.declared.cause.Cause.TheVariants.{InterfaceCycle, TypeCycle, UpgradeMismatch}
use Rattle.wit_graph_data.specs.declared.graph.Graph.{Graph}
use Rattle.wit_graph_data.specs.declared.error_kind.ResolveErrorKind.{ResolveErrorKind}
use Rattle.wit_graph_data.specs.declared.error_kind.ResolveErrorKind.TheVariants.{InvalidTransitiveDependency, PackageCycle, Semantic}
use Rattle.wit_remap_spec.specs.FunctionMismatch.{FunctionMismatch}
use Rattle.wit_semver.specs.SemverMerged.{IsSemverMergeCause}
use Rattle.examples_resolve.specs.merge.Releases.{Names, alias_in, called, foo_main, foo_x, graph_of, interface_in, keyed, number_in, package_of, release, two, with_function, world_in}
use Rattle.examples_resolve.specs.merge.SemverMergeExamples.{first_release, of_three}

-- a reason to refuse the merge of the imports of world 0
abbrev pub IsCauseOf : Graph → ResolveErrorKind → Type 0
IsCauseOf g error = IsSemverMergeCause Published g 0 error

-- no cause holds against it
abbrev pub IsFine : Graph → Type 0
IsFine g = NoCause (IsCauseOf g)

-- ---- 4

-- z of foo:main has another name of x@0.2.0's type, y one of z's; world w imports z and both versions, and exports these
abbrev pub exporting : List ℕ → Graph
exporting exports =
    graph_of two
    (number_in 0 (codes "t") ∷ number_in 1 (codes "t") ∷ alias_in 2 (codes "t") 0
    ∷ alias_in 3 (codes "t") 2 ∷ [])
    (interface_in 0 (codes "x") (called (codes "t") 0 ∷ [])
    ∷ interface_in 1 (codes "x") (called (codes "t") 1 ∷ [])
    ∷ interface_in 2 (codes "z") (called (codes "t") 2 ∷ [])
    ∷ interface_in 2 (codes "y") (called (codes "t") 3 ∷ []) ∷ [])
    (world_in 2 (codes "w") (keyed (0 ∷ 2 ∷ 1 ∷ [])) (keyed exports) ∷ [])
    (called (codes "z") 2 ∷ called (codes "y") 3 ∷ []) (called (codes "w") 0 ∷ [])

-- ---- 6, 22, 23: versions whose newer one has more than the older

-- the newer version has a second interface z, of these types, and x of it these; world w of foo:main imports these
abbrev pub with_z : List TypeDef → Names → Names → List ℕ → Graph
with_z types x_types z_types imports = record (graph_of two types
    (interface_in 0 (codes "x") (called (codes "t") 0 ∷ []) ∷ interface_in 1 (codes "x") x_types
    ∷ interface_in 1 (codes "z") z_types ∷ [])
    (world_in 2 (codes "w") (keyed imports) [] ∷ []) [] (called (codes "w") 0 ∷ [])) {
      packages =
          package_of (foo_x (release 0 2 0)) (called (codes "x") 0 ∷ []) []
          ∷ package_of (foo_x (release 0 2 1)) (called (codes "x") 1 ∷ called (codes "z") 2 ∷ []) []
          ∷ package_of foo_main [] (called (codes "w") 0 ∷ []) ∷ [];
    }

-- z has another name t of the older version's type and a type u, and x of the newer version a type v
abbrev pub around_z : TypeDef → Graph
around_z v =
    with_z (number_in 0 (codes "t") ∷ number_in 1 (codes "t") ∷ alias_in 2 (codes "t") 0
    ∷ number_in 2 (codes "u") ∷ v ∷ [])
    (called (codes "t") 1 ∷ called (codes "v") 4 ∷ [])
    (called (codes "t") 2 ∷ called (codes "u") 3 ∷ []) (0 ∷ 2 ∷ 1 ∷ [])

-- the package of another world
abbrev pub foo_app : PackageName
foo_app = record { namespace = codes "foo"; name = codes "app"; version = None }

-- foo:main has y, which has another name of the older version's type, and a; z of the newer version has a type v;
-- world w of foo:app imports y and both versions
abbrev pub around_main : TypeDef → Graph
around_main v = record {
  types =
      number_in 0 (codes "t") ∷ number_in 1 (codes "t") ∷ alias_in 2 (codes "t") 0
      ∷ number_in 3 (codes "u") ∷ v ∷ [];
  interfaces =
      interface_in 0 (codes "x") (called (codes "t") 0 ∷ [])
      ∷ interface_in 1 (codes "x") (called (codes "t") 1 ∷ [])
      ∷ interface_in 2 (codes "y") (called (codes "t") 2 ∷ [])
      ∷ interface_in 2 (codes "a") (called (codes "u") 3 ∷ [])
      ∷ interface_in 1 (codes "z") (called (codes "v") 4 ∷ []) ∷ [];
  worlds = world_in 3 (codes "w") (keyed (0 ∷ 2 ∷ 1 ∷ [])) [] ∷ [];
  packages =
      package_of (foo_x (release 0 2 0)) (called (codes "x") 0 ∷ []) []
      ∷ package_of (foo_x (release 0 2 1)) (called (codes "x") 1 ∷ called (codes "z") 4 ∷ []) []
      ∷ package_of foo_main (called (codes "y") 2 ∷ called (codes "a") 3 ∷ []) []
      ∷ package_of foo_app [] (called (codes "w") 0 ∷ []) ∷ [];
  package_names =
      (foo_x (release 0 2 0), 0) ∷ (foo_x (release 0 2 1), 1) ∷ (foo_main, 2) ∷ (foo_app, 3) ∷ [];
}

-- two versions, the newer one with this type, and a world that imports both
abbrev pub with_newer : TypeDef → Graph
with_newer t =
    graph_of two (number_in 0 (codes "t") ∷ t ∷ [])
    (interface_in 0 (codes "x") (called (codes "t") 0 ∷ [])
    ∷ interface_in 1 (codes "x") (called (codes "t") 1 ∷ []) ∷ [])
    (world_in 2 (codes "w") (keyed (0 ∷ 1 ∷ [])) [] ∷ []) [] (called (codes "w") 0 ∷ [])

-- ---- 25

-- the newer version has no type; y uses the older one's, and world w imports it
abbrev pub without_type : Graph
without_type =
    graph_of two (number_in 0 (codes "t") ∷ alias_in 2 (codes "t") 0 ∷ [])
    (interface_in 0 (codes "x") (called (codes "t") 0 ∷ []) ∷ interface_in 1 (codes "x") []
    ∷ interface_in 2 (codes "y") (called (codes "t") 1 ∷ []) ∷ [])
    (world_in 2 (codes "w") (keyed (0 ∷ 2 ∷ 1 ∷ [])) [] ∷ []) (called (codes "y") 2 ∷ [])
    (called (codes "w") 0 ∷ [])

-- the newer version's t is another name of the older one's, and it has no type u; y uses both of the older ones
abbrev pub without_type_but_cycle : Graph
without_type_but_cycle =
    graph_of two (number_in 0 (codes "t") ∷ number_in 0 (codes "u") ∷ alias_in 1 (codes "t") 0
    ∷ alias_in 2 (codes "u") 1 ∷ [])
    (interface_in 0 (codes "x") (called (codes "t") 0 ∷ called (codes "u") 1 ∷ [])
    ∷ interface_in 1 (codes "x") (called (codes "t") 2 ∷ [])
    ∷ interface_in 2 (codes "y") (called (codes "u") 3 ∷ []) ∷ [])
    (world_in 2 (codes "w") (keyed (0 ∷ 2 ∷ 1 ∷ [])) [] ∷ []) (called (codes "y") 2 ∷ [])
    (called (codes "w") 0 ∷ [])

-- a function f of one number, under this name
abbrev pub f_of : List ℕ → Type_ → Function
f_of name ty =
    record (function_of (codes "f") [] None)
    { params = record { name = name; ty = ty; span = None } ∷ [] }

-- interfaces x of both versions with these lists of functions, and a type t of the newer one
abbrev pub with_functions : Interface → Interface → TypeDef → Graph
with_functions older newer t =
    graph_of two (number_in 0 (codes "t") ∷ t ∷ []) (older ∷ newer ∷ [])
    (world_in 2 (codes "w") (keyed (0 ∷ 1 ∷ [])) [] ∷ []) [] (called (codes "w") 0 ∷ [])

abbrev pub older_x : Interface
older_x = interface_in 0 (codes "x") (called (codes "t") 0 ∷ [])

abbrev pub newer_x : Interface
newer_x = interface_in 1 (codes "x") (called (codes "t") 1 ∷ [])

-- that upgrading x fails for some reason
abbrev pub failed : List ℕ → ResolveErrorKind
failed reason =
    Semantic None (codes "failed to upgrade `foo:x/x@0.2.0` to `foo:x/x@0.2.1`, "
    ++ codes "was this semver-compatible update not semver compatible?: " ++ reason)
    UpgradeMismatch

pub record ExamplesOfCauses : Type 0 where
  -- 4: y needs z from outside, which now uses x@0.2.1, which is exported
  pub conflict : IsCauseOf (exporting (1 ∷ 3 ∷ []))
      (InvalidTransitiveDependency None (codes "foo:main/y"))
  pub not_exported : IsFine (exporting (3 ∷ []))
  -- 6: z of foo:x@0.2.1 uses foo:main, which now uses foo:x@0.2.1; either may be told
  pub package_cycle : IsCauseOf (around_main (alias_in 4 (codes "v") 3))
      (PackageCycle None foo_main)
  pub package_cycle_too : IsCauseOf (around_main (alias_in 4 (codes "v") 3))
      (PackageCycle None (foo_x (release 0 2 1)))
  pub not_of_the_world : IsCauseOf (around_main (alias_in 4 (codes "v") 3))
      (PackageCycle None foo_app) → ⊥
  pub no_package_cycle : IsFine (around_main (number_in 4 (codes "v")))
  -- 22: x@0.2.1 uses z, which now uses x@0.2.1; either may be told
  pub interface_cycle : IsCauseOf (around_z (alias_in 1 (codes "v") 3))
      (Semantic None (codes "interface `foo:x/x@0.2.1` would depend on itself") InterfaceCycle)
  pub interface_cycle_too : IsCauseOf (around_z (alias_in 1 (codes "v") 3))
      (Semantic None (codes "interface `foo:x/z@0.2.1` would depend on itself") InterfaceCycle)
  pub no_interface_cycle : IsFine (around_z (number_in 1 (codes "v")))
  -- 23: x@0.2.1 has its type of x@0.2.0
  pub type_cycle : IsCauseOf (with_newer (alias_in 1 (codes "t") 0))
      (Semantic None (codes "type `t` would refer to itself") TypeCycle)
  pub no_type_cycle : IsFine (with_newer (number_in 1 (codes "t")))
  -- 25: x@0.2.1 lacks a type that y uses
  pub missing : IsCauseOf without_type (failed (codes "type `t` is missing"))
  pub not_missing : IsFine of_three
  -- a pre-release and its release are accepted by either rule
  pub accepted_apart : IsFine (first_release (0 ∷ 1 ∷ []))
  pub accepted_together : NoCause
      (IsSemverMergeCause WithPrereleases (first_release (0 ∷ 1 ∷ [])) 0)
  -- and then no cycle is a reason
  pub missing_beside_cycle : IsCauseOf without_type_but_cycle (failed (codes "type `u` is missing"))
  pub no_cycle_beside : (message : List ℕ)
      → IsCauseOf without_type_but_cycle (Semantic None message TypeCycle) → ⊥
  -- 25: both have a function f, and its parameters differ
  pub disagreement : IsCauseOf (with_functions (with_function older_x (f_of (codes "x") type.U32))
      (with_function newer_x (f_of (codes "y") type.U32)) (number_in 1 (codes "t")))
      (failed (codes "failed to merge interfaces: mismatch in function `f`: "
      ++ codes "different function parameter names: x != y"))
  pub agreement : IsFine (with_functions (with_function older_x (f_of (codes "x") type.U32))
      (with_function newer_x (f_of (codes "x") type.U32)) (number_in 1 (codes "t")))
  -- a function that one of them alone has is none
  pub not_common : IsFine (with_functions (with_function older_x (f_of (codes "x") type.U32))
      newer_x (number_in 1 (codes "t")))
  -- beside it a cycle is a reason too
  pub cycle_beside : IsCauseOf (with_functions (with_function older_x (f_of (codes "x") type.U32))
      (with_function newer_x (f_of (codes "y") type.U32)) (alias_in 1 (codes "t") 0))
      (Semantic None (codes "type `t` would refer to itself") TypeCycle)

-- ---- functions that disagree

-- a function of this kind
abbrev pub f_kind : FunctionKind → Function
f_kind kind = record (function_of (codes "f") [] None) { kind = kind }

pub record ExamplesOfMismatches : Type 0 where
  pub kinds : FunctionMismatch (f_kind function.Freestanding) (f_kind function.AsyncFreestanding)
      (codes "different function kind types")
  pub methods : FunctionMismatch (f_kind (function.Method 0)) (f_kind (function.Static 0))
      (codes "different function kind types")
  -- whose method it is makes no difference
  pub resources : (text : List ℕ)
      → FunctionMismatch (f_kind (function.Method 0)) (f_kind (function.Method 1)) text → ⊥
  pub number : FunctionMismatch (f_of (codes "x") type.U32) (f_kind function.Freestanding)
      (codes "different number of function parameters")
  pub names : FunctionMismatch (f_of (codes "x") type.U32) (f_of (codes "y") type.U32)
      (codes "different function parameter names: x != y")
  pub types : FunctionMismatch (f_of (codes "x") type.U32) (f_of (codes "x") type.U64)
      (codes "different function parameter types for `x`: different kinds of types")
  pub primitive : FunctionMismatch (f_of (codes "x") (type.Id 0)) (f_of (codes "x") type.U32)
      (codes "different function parameter types for `x`: different kinds of types")
  -- nor which types of the list are named
  pub ids : (text : List ℕ)
      → FunctionMismatch (f_of (codes "x") (type.Id 0)) (f_of (codes "x") (type.Id 1)) text → ⊥
  pub results : FunctionMismatch (function_of (codes "f") [] (Some type.U32))
      (function_of (codes "f") [] (Some type.Bool))
      (codes "different function result types: different kinds of types")
  pub result : FunctionMismatch (function_of (codes "f") [] (Some type.U32))
      (function_of (codes "f") [] None) (codes "different number of function results")
  -- the text is that of the disagreement, with the older name first
  pub not_transformed : FunctionMismatch (f_of (codes "x") type.U32) (f_of (codes "y") type.U32)
      (codes "different function parameter names: y != x") → ⊥
