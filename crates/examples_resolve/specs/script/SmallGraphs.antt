-- Graphs that have hardly anything, and whole states of them, of which the examples of merges speak.
use Rattle.std.specs.Prelude.{ℕ, true, false, List, [], ◌∷◌, Some, None, codes}
use Rattle.wit_sources.specs.SourceMap.{Sources}
use Rattle.wit_sources.specs.declared.source_map.SourceFile.{SourceFile}
use Rattle.wit_names.specs.declared.package_name.PackageName.{PackageName}
use Rattle.wit_data.specs.declared.stability.Stability.{Stability}
use Rattle.wit_data.specs.declared.stability.Stability.TheVariants.{Unstable}
use Rattle.wit_names.specs.declared.track.TrackRule.TheVariants.{Published, WithPrereleases}
use Rattle.wit_graph_data.specs.examples.Samples.{foo_bar, foo_bar_of, interface_of, no_docs}
use Rattle.wit_graph_data.specs.declared.graph.Graph.{Graph}
use Rattle.wit_graph_data.specs.declared.graph.Package.{Package}
use Rattle.wit_resolve_graph.specs.State.{State}

-- ---- graphs

-- packages alone
abbrev pub bare : List Package → List (PackageName × ℕ) → Graph
bare packages names =
    record { types = []; interfaces = []; worlds = []; packages = packages; package_names = names }

-- a package that has nothing
abbrev pub empty_package : PackageName → Package
empty_package name = record { name = name; docs = no_docs; interfaces = []; worlds = [] }

-- no package, one, and two in this order
abbrev pub nothing : Graph
nothing = bare [] []

abbrev pub one : PackageName → Graph
one name = bare (empty_package name ∷ []) ((name, 0) ∷ [])

abbrev pub two : PackageName → PackageName → Graph
two first second =
    bare (empty_package first ∷ empty_package second ∷ []) ((first, 0) ∷ (second, 1) ∷ [])

-- the name foo:baz
abbrev pub foo_baz : PackageName
foo_baz = record foo_bar { name = codes "baz" }

-- the gate of a feature
abbrev pub gate : List ℕ → Stability
gate feature = Unstable feature None

-- foo:bar with an interface i under it, which has nothing
abbrev pub gated : List ℕ → Graph
gated feature = record {
  types = [];
  interfaces = record (interface_of (Some (codes "i")) []) { stability = gate feature } ∷ [];
  worlds = [];
  packages = foo_bar_of ((codes "i", 0) ∷ []) [] ∷ [];
  package_names = (foo_bar, 0) ∷ [];
}

-- ---- states

-- a file of this path, which begins at this position and takes ten
abbrev pub file_at : List ℕ → ℕ → SourceFile
file_at path start = record { path = path; contents = codes "package x"; start = start }

abbrev pub one_file : List ℕ → Sources
one_file path = record { files = file_at path 0 ∷ []; end = 10 }

-- two files, the second behind the first
abbrev pub two_files : List ℕ → List ℕ → Sources
two_files first second = record { files = file_at first 0 ∷ file_at second 10 ∷ []; end = 20 }

-- a graph with feature f and file f, by the published rule of tracks
abbrev pub first_of : Graph → State
first_of g =
    record {
      graph = g;
      features = record { names = codes "f" ∷ []; all = false };
      source_map = one_file (codes "f");
      track_rule = Published;
    }

-- a graph that goes into it, with feature g and all others on, and file g, by the other rule
abbrev pub second_of : Graph → State
second_of g =
    record {
      graph = g;
      features = record { names = codes "g" ∷ []; all = true };
      source_map = one_file (codes "g");
      track_rule = WithPrereleases;
    }

-- the first with this graph after that: the file of the second stands behind its own, and all else is its own
abbrev pub after : Graph → State
after g = record (first_of g) { source_map = two_files (codes "f") (codes "g") }
