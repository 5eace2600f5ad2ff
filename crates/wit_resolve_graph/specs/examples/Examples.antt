-- What the definitions say of small graphs and short runs.
use Rattle.std.specs.Prelude.{◌≡◌, ℕ, true, List, [], ◌∷◌, Some, None, Ok, Err, codes}
use Rattle.wit_names.specs.declared.package_name.PackageName.{PackageName}
use Rattle.wit_data.specs.declared.unresolved.UnresolvedPackage.{UnresolvedPackage}
use Rattle.wit_data.specs.declared.unresolved.UnresolvedPackageGroup.{UnresolvedPackageGroup}
use Rattle.wit_data.specs.declared.world.World.{World}
use Rattle.wit_names.specs.declared.track.TrackRule.TheVariants.{WithPrereleases}
use Rattle.wit_graph_data.specs.examples.Samples.{foo_bar, no_docs, world_of}
use Rattle.wit_graph_data.specs.declared.graph.Graph.{Graph}
use Rattle.wit_graph_data.specs.declared.graph.Package.{Package}
use Rattle.wit_queries.specs.Selection.{selected_world}
use Rattle.wit_resolve_graph.specs.State.{State, new_state}
use Rattle.wit_resolve_graph.specs.Step.{Run}
use Rattle.wit_resolve_graph.specs.declared.command.Command.TheVariants.{AddFeature, Exportize, Importize, PushGroups, SetAllFeatures, SetTrackRule, Semver}
use Rattle.wit_resolve_graph.specs.declared.command.Reply.TheVariants.{Done, NoWorld, Pushed}

-- ---- selection

-- foo:NAME@MAJOR.MINOR.0
abbrev pub versioned : List ℕ → ℕ → ℕ → PackageName
versioned name major minor =
    record { namespace = codes "foo"; name = name; version = Some (major, minor, 0, [], []) }

-- a package of this name with one world foo, at this id
abbrev pub package_with : PackageName → ℕ → Package
package_with name w =
    record { name = name; docs = no_docs; interfaces = []; worlds = (codes "foo", w) ∷ [] }

-- a world foo of package p
abbrev pub foo_in : ℕ → World
foo_in p = record (world_of (codes "foo") [] []) { «package» = Some p }

-- foo:dummy
abbrev pub foo_dummy : PackageName
foo_dummy = record { namespace = codes "foo"; name = codes "dummy"; version = None }

-- foo:bar@0.1.0, foo:baz@0.1.0, foo:baz@0.2.0 and foo:dummy, each with a world foo
abbrev pub four_packages : Graph
four_packages = record {
  types = [];
  interfaces = [];
  worlds = foo_in 0 ∷ foo_in 1 ∷ foo_in 2 ∷ foo_in 3 ∷ [];
  packages =
      package_with (versioned (codes "bar") 0 1) 0 ∷ package_with (versioned (codes "baz") 0 1) 1
      ∷ package_with (versioned (codes "baz") 0 2) 2 ∷ package_with foo_dummy 3 ∷ [];
  package_names =
      (versioned (codes "bar") 0 1, 0) ∷ (versioned (codes "baz") 0 1, 1)
      ∷ (versioned (codes "baz") 0 2, 2) ∷ (foo_dummy, 3) ∷ [];
}

-- worlds that are chosen, and what is said where none is
pub record ExamplesOfSelection : Type 0 where
  pub no_text : selected_world four_packages (3 ∷ []) None ≡ Ok 3
  pub only_version : selected_world four_packages (3 ∷ []) (Some (codes "foo:bar/foo")) ≡ Ok 0
  pub two_versions : selected_world four_packages (3 ∷ []) (Some (codes "foo:baz/foo"))
      ≡ Err (codes "package name `foo:baz` is available at both versions 0.1.0 and 0.2.0 but which is not specified")
  pub plain_name : selected_world four_packages (3 ∷ []) (Some (codes "xx"))
      ≡ Err (codes "World `xx` not found in package `foo:dummy`")
  pub empty_text : selected_world four_packages (3 ∷ []) (Some [])
      ≡ Err (codes "failed to parse world specifier ``: invalid use path")
  pub no_main : selected_world four_packages [] (Some (codes "foo:bar/foo"))
      ≡ Err (codes "No main packages defined")
  pub unknown : selected_world four_packages (3 ∷ []) (Some (codes "foo:nope/foo"))
      ≡ Err (codes "unknown package `foo:nope`")
  pub two_mains : selected_world four_packages (0 ∷ 3 ∷ []) (Some (codes "foo"))
      ≡ Err (codes "There are multiple main packages; a world must be explicitly chosen:\n  foo:bar/foo@0.1.0\n  foo:baz/foo@0.1.0\n  foo:baz/foo@0.2.0\n  foo:dummy/foo")

-- ---- runs

-- the state with feature f and with all features on
abbrev pub with_f : State
with_f = record new_state { features = record { names = codes "f" ∷ []; all = true } }

-- the state with the other rule of tracks
abbrev pub with_rule : State
with_rule = record new_state { track_rule = WithPrereleases }

-- a package of nothing
abbrev pub first_package : UnresolvedPackage
first_package = record {
  name = foo_bar;
  package_name_span = None;
  docs = no_docs;
  worlds = [];
  interfaces = [];
  types = [];
  foreign_deps = [];
  foreign_dep_spans = [];
  unknown_type_spans = [];
  required_resource_types = [];
}

-- a group of it, with one file
abbrev pub first_group : UnresolvedPackageGroup
first_group = record {
  main = first_package;
  nested = [];
  source_map =
      record {
        files = record { path = codes "f"; contents = codes "package x"; start = 0 } ∷ [];
        end = 10;
      };
}

-- a graph with the package alone
abbrev pub with_foo_bar : Graph
with_foo_bar = record {
  types = [];
  interfaces = [];
  worlds = [];
  packages = record { name = foo_bar; docs = no_docs; interfaces = []; worlds = [] } ∷ [];
  package_names = (foo_bar, 0) ∷ [];
}

-- the state after it
abbrev pub with_first : State
with_first = record new_state { graph = with_foo_bar; source_map = first_group.source_map }

-- runs, and what no run is
pub record ExamplesOfRuns : Type 0 where
  pub empty : Run new_state [] [] new_state
  pub features : Run new_state
      (AddFeature (codes "f") ∷ AddFeature (codes "f") ∷ SetAllFeatures true ∷ [])
      (Done ∷ Done ∷ Done ∷ []) with_f
  pub push_without_files : Run new_state (PushGroups first_group [] ∷ []) (Pushed 0 ∷ [])
      (record with_first { source_map = new_state.source_map }) → ⊥
  pub push_done : Run new_state (PushGroups first_group [] ∷ []) (Done ∷ []) with_first → ⊥
  pub no_world : Run new_state (Semver foo_bar (codes "w") ∷ []) (NoWorld ∷ []) new_state
  pub no_turn : Run new_state
      (Importize foo_bar (codes "w") None ∷ Exportize foo_bar (codes "w") None None ∷ [])
      (NoWorld ∷ NoWorld ∷ []) new_state
  pub not_merged : Run new_state (Semver foo_bar (codes "w") ∷ []) (Done ∷ []) new_state → ⊥
  pub rule : Run new_state (SetTrackRule WithPrereleases ∷ []) (Done ∷ []) with_rule
  pub rule_not_left : Run new_state (SetTrackRule WithPrereleases ∷ []) (Done ∷ []) new_state → ⊥
  pub rule_stays : Run with_f (SetAllFeatures true ∷ []) (Done ∷ [])
      (record with_f { track_rule = WithPrereleases }) → ⊥
  pub turn_not_done : Run new_state (Importize foo_bar (codes "w") None ∷ []) (Done ∷ []) new_state
      → ⊥
  pub reply_missing : Run new_state (SetAllFeatures true ∷ []) [] new_state → ⊥
  pub wrong_reply : Run new_state (SetAllFeatures true ∷ []) (NoWorld ∷ []) new_state → ⊥
  pub not_done : Run new_state (SetAllFeatures true ∷ []) (Done ∷ []) new_state → ⊥
