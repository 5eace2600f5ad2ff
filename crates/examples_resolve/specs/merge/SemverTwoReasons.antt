-- Two reasons at once: which of them are told beside one another, and which one spoils the other.
use Rattle.std.specs.Prelude.{ℕ, List, [], ◌∷◌, Option, None, codes}
use Rattle.wit_names.specs.declared.package_name.PackageName.{PackageName}
use Rattle.wit_data.specs.declared.types.TypeDef.{TypeDef}
use Rattle.wit_names.specs.declared.track.TrackRule.TheVariants.{Published}
use Rattle.wit_elaboration.specs.Elaboration.{graph_uses}
use Rattle.wit_elaboration.specs.Imported.{HasTransitiveConflict}
use Rattle.wit_graph_data.specs.declared.cause.Cause.TheVariants.{InterfaceCycle, TypeCycle}
use Rattle.wit_graph_data.specs.declared.error_kind.ResolveErrorKind.TheVariants.{InvalidTransitiveDependency, PackageCycle, Semantic}
use Rattle.wit_graph_data.specs.declared.graph.Graph.{Graph}
use Rattle.wit_elaboration.specs.AllElaborated.{DependsOnItself, UsesItself}
use Rattle.wit_semver.specs.SemverMerged.{with_new_entries}
use Rattle.examples_resolve.specs.merge.CauseExamples.{IsCauseOf, around_main, around_z, exporting, failed, foo_app}
use Rattle.examples_resolve.specs.merge.Releases.{Names, alias_in, called, foo_main, foo_x, interface_in, keyed, number_in, package_of, release, world_in}

-- the graph as it is listed before its worlds are elaborated
abbrev pub listed : Graph → Graph
listed g = with_new_entries Published g 0

-- ---- graphs

-- x@0.2.0 has numbers t and u, y of foo:main other names of both and a number n, and x@0.2.1 a number t, another name of
-- that n, and these; world w of foo:app imports the three
abbrev pub meeting : List TypeDef → Names → Graph
meeting types names = record {
  types =
      number_in 0 (codes "t") ∷ number_in 0 (codes "u") ∷ number_in 1 (codes "t")
      ∷ alias_in 2 (codes "t") 0 ∷ alias_in 2 (codes "u") 1 ∷ number_in 2 (codes "n")
      ∷ alias_in 1 (codes "n") 5 ∷ types;
  interfaces =
      interface_in 0 (codes "x") (called (codes "t") 0 ∷ called (codes "u") 1 ∷ [])
      ∷ interface_in 1 (codes "x") (called (codes "t") 2 ∷ called (codes "n") 6 ∷ names)
      ∷ interface_in 2 (codes "y")
      (called (codes "t") 3 ∷ called (codes "u") 4 ∷ called (codes "n") 5 ∷ []) ∷ [];
  worlds = world_in 3 (codes "w") (keyed (0 ∷ 2 ∷ 1 ∷ [])) [] ∷ [];
  packages =
      package_of (foo_x (release 0 2 0)) (called (codes "x") 0 ∷ []) []
      ∷ package_of (foo_x (release 0 2 1)) (called (codes "x") 1 ∷ []) []
      ∷ package_of foo_main (called (codes "y") 2 ∷ []) []
      ∷ package_of foo_app [] (called (codes "w") 0 ∷ []) ∷ [];
  package_names =
      (foo_x (release 0 2 0), 0) ∷ (foo_x (release 0 2 1), 1) ∷ (foo_main, 2) ∷ (foo_app, 3) ∷ [];
}

-- with a number u in x@0.2.1, and without
abbrev pub with_u : Graph
with_u = meeting (number_in 1 (codes "u") ∷ []) (called (codes "u") 7 ∷ [])

abbrev pub without_u : Graph
without_u = meeting [] []

-- x@0.2.1 uses z, which comes to use x@0.2.1, and world w exports x@0.2.1
abbrev pub exporting_newer : Graph
exporting_newer =
    record (around_z (alias_in 1 (codes "v") 3))
    { worlds = world_in 2 (codes "w") (keyed (0 ∷ 2 ∷ 1 ∷ [])) (keyed (1 ∷ [])) ∷ [] }

-- y uses z, which comes to use x@0.2.1, and world w exports y and x@0.2.1; the t of that is one of x@0.2.0
abbrev pub exporting_own : Graph
exporting_own =
    record (exporting (1 ∷ 3 ∷ [])) {
      types = number_in 0 (codes "t") ∷ alias_in 1 (codes "t") 0
          ∷ alias_in 2 (codes "t") 0 ∷ alias_in 3 (codes "t") 2 ∷ [];
    }

-- y uses z, which comes to use x@0.2.1, and world w exports y and x@0.2.1; z uses a number u of x@0.2.0 as well
abbrev pub exporting_lacking : Graph
exporting_lacking = record (exporting (1 ∷ 3 ∷ [])) {
  types =
      number_in 0 (codes "t") ∷ number_in 1 (codes "t") ∷ alias_in 2 (codes "t") 0
      ∷ alias_in 3 (codes "t") 2 ∷ number_in 0 (codes "u") ∷ alias_in 2 (codes "u") 4 ∷ [];
  interfaces =
      interface_in 0 (codes "x") (called (codes "t") 0 ∷ called (codes "u") 4 ∷ [])
      ∷ interface_in 1 (codes "x") (called (codes "t") 1 ∷ [])
      ∷ interface_in 2 (codes "z") (called (codes "t") 2 ∷ called (codes "u") 5 ∷ [])
      ∷ interface_in 2 (codes "y") (called (codes "t") 3 ∷ []) ∷ [];
}

-- z of foo:x@0.2.1 uses a of foo:main, that uses y, which comes to use x@0.2.1, and world w exports z and x@0.2.1
abbrev pub exporting_z : Graph
exporting_z = record (around_main (alias_in 4 (codes "v") 3)) {
  types =
      number_in 0 (codes "t") ∷ number_in 1 (codes "t") ∷ alias_in 2 (codes "t") 0
      ∷ alias_in 3 (codes "u") 2 ∷ alias_in 4 (codes "v") 3 ∷ [];
  worlds = world_in 3 (codes "w") (keyed (0 ∷ 2 ∷ 3 ∷ 1 ∷ [])) (keyed (1 ∷ 4 ∷ [])) ∷ [];
}

-- ---- examples

abbrev pub x_text : List ℕ
x_text = codes "interface `foo:x/x@0.2.1` would depend on itself"

pub record ExamplesOfTwoReasons : Type 0 where
  -- x@0.2.1 and y would use one another (22), and so would their packages (6): both are told
  pub circle : IsCauseOf with_u (Semantic None x_text InterfaceCycle)
  pub package_cycle : IsCauseOf with_u (PackageCycle None foo_main)
  -- but neither where x@0.2.1 lacks a type (25), though both would be there
  pub missing : IsCauseOf without_u (failed (codes "type `u` is missing"))
  pub would_circle : UsesItself (listed without_u) x_text
  pub would_cycle : DependsOnItself (listed without_u) foo_main
  pub no_circle : (span : Option (ℕ × ℕ)) (message : List ℕ)
      → IsCauseOf without_u (Semantic span message InterfaceCycle) → ⊥
  pub no_package_cycle : (span : Option (ℕ × ℕ)) (home : PackageName)
      → IsCauseOf without_u (PackageCycle span home) → ⊥
  -- interfaces that use one another (22) spoil a conflict (4)
  pub circle_told : IsCauseOf exporting_newer (Semantic None x_text InterfaceCycle)
  pub would_conflict : HasTransitiveConflict (graph_uses (listed exporting_newer)) (keyed (1 ∷ []))
  pub no_conflict : (span : Option (ℕ × ℕ)) (name : List ℕ)
      → IsCauseOf exporting_newer (InvalidTransitiveDependency span name) → ⊥
  -- and so does a type that refers to itself (23)
  pub type_told : IsCauseOf exporting_own
      (Semantic None (codes "type `t` would refer to itself") TypeCycle)
  pub would_conflict_of_type : HasTransitiveConflict (graph_uses (listed exporting_own))
      (keyed (1 ∷ 3 ∷ []))
  pub no_conflict_of_type : (span : Option (ℕ × ℕ)) (name : List ℕ)
      → IsCauseOf exporting_own (InvalidTransitiveDependency span name) → ⊥
  -- and a type that is missing (25)
  pub lack_told : IsCauseOf exporting_lacking (failed (codes "type `u` is missing"))
  pub would_conflict_of_lack : HasTransitiveConflict (graph_uses (listed exporting_lacking))
      (keyed (1 ∷ 3 ∷ []))
  pub no_conflict_of_lack : (span : Option (ℕ × ℕ)) (name : List ℕ)
      → IsCauseOf exporting_lacking (InvalidTransitiveDependency span name) → ⊥
  -- packages that use one another (6) don't: both are told
  pub cycle_and_conflict : IsCauseOf exporting_z (PackageCycle None foo_main)
  pub conflict_and_cycle : IsCauseOf exporting_z
      (InvalidTransitiveDependency None (codes "foo:x/z@0.2.1"))
