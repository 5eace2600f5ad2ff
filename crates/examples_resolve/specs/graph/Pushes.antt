-- What adding small packages makes of a graph.
use Rattle.std.specs.Prelude.{◌≡◌, [], ◌∷◌, ◌++◌, Some, None, codes}
use Rattle.wit_data.specs.declared.stability.Stability.TheVariants.{Unknown}
use Rattle.wit_data.specs.declared.types.Handle.TheVariants as handle
use Rattle.wit_data.specs.declared.types.TypeDefKind.TheVariants as kind
use Rattle.wit_data.specs.declared.types.Type_.TheVariants as type
use Rattle.wit_data.specs.declared.unresolved.AstItem.TheVariants as named
use Rattle.wit_data.specs.declared.unresolved.UnresolvedPackage.{UnresolvedPackage}
use Rattle.wit_elaboration.specs.examples.Examples.{empty_graph}
use Rattle.wit_graph_data.specs.declared.graph.Graph.{Graph}
use Rattle.wit_graph_data.specs.examples.Samples.{entry_of, foo_bar, interface_of, no_docs, sample, type_in, unnamed, world_of}
use Rattle.wit_link_spec.specs.Addition.{Addition}
use Rattle.wit_link_spec.specs.Added.{added}
use Rattle.wit_link_spec.specs.Gates.{package_spans}
use Rattle.examples_resolve.specs.graph.Packages.{adding, bare, feature_f, first_package, gate_f, gated, including_package, loose_interface, loose_world, main_name, naming_type, no_features}
use Rattle.examples_resolve.specs.graph.Values.{field_of, with_resource}
use Rattle.wit_link_spec.specs.steps.Parts.{AdditionIsAccepted}

-- ---- a package that uses another

-- foo:main: interface i uses t of foo:bar/a under the name s and has a record p with a field of s; world v imports i
abbrev pub using_package : UnresolvedPackage
using_package = record (bare main_name) {
  types =
      type_in 0 (codes "t") kind.Unknown ∷ type_in 1 (codes "s") (kind.Type_ (type.Id 0))
      ∷ type_in 1 (codes "p") (kind.Record (field_of (type.Id 1) ∷ [])) ∷ [];
  interfaces =
      loose_interface (codes "a") ((codes "t", 0) ∷ []) Unknown
      ∷ loose_interface (codes "i") ((codes "s", 1) ∷ (codes "p", 2) ∷ []) Unknown ∷ [];
  worlds = loose_world (codes "v") (entry_of 1 ∷ []) [] [] ∷ [];
  foreign_deps = (foo_bar, (codes "a", (named.Interface 0, Unknown ∷ [])) ∷ []) ∷ [];
  foreign_dep_spans = None ∷ [];
  unknown_type_spans = Some (30, 31) ∷ [];
}

-- it is added to foo:bar, whose interface a has a resource t, and whose b has another name of it
abbrev pub add_using : Addition
add_using = adding no_features with_resource using_package

-- foo:bar and foo:main: the former as it was, each list of the latter behind it
abbrev pub with_user : Graph
with_user = record {
  types = with_resource.types
      ++ type_in 2 (codes "s") (kind.Type_ (type.Id 0))
      ∷ type_in 2 (codes "p") (kind.Record (field_of (type.Id 4) ∷ []))
      ∷ unnamed (kind.Handle (handle.Own 2)) ∷ [];
  interfaces =
      with_resource.interfaces
      ++ record (interface_of (Some (codes "i")) ((codes "s", 2) ∷ (codes "p", 3) ∷ []))
      { «package» = Some 1 } ∷ [];
  worlds =
      with_resource.worlds
      ++ record (world_of (codes "v") (entry_of 0 ∷ entry_of 2 ∷ []) []) { «package» = Some 1 }
      ∷ [];
  packages =
      with_resource.packages
      ++ record {
        name = main_name;
        docs = no_docs;
        interfaces = (codes "i", 2) ∷ [];
        worlds = (codes "v", 1) ∷ [];
      } ∷ [];
  package_names = (foo_bar, 0) ∷ (main_name, 1) ∷ [];
}

-- ---- the cases

-- additions, and what they aren't
pub record ExamplesOfPushes : Type 0 where
  -- the world imports a before b
  pub first : added (adding no_features empty_graph first_package)
      ≡ sample (entry_of 0 ∷ entry_of 1 ∷ []) []
  -- and no cause holds against it
  pub accepted : AdditionIsAccepted (adding no_features empty_graph first_package)
  -- behind what is there come the alias and the record, the `own` that the record's field holds, interface, world and
  -- package; the world imports a, which i uses
  pub whole : added add_using ≡ with_user
  pub whole_accepted : AdditionIsAccepted add_using
  -- the field doesn't hold the alias itself, and the world doesn't import i alone
  pub not_the_alias : added add_using
      ≡ record with_user {
        types = with_resource.types
            ++ type_in 2 (codes "s") (kind.Type_ (type.Id 0))
            ∷ type_in 2 (codes "p") (kind.Record (field_of (type.Id 2) ∷ [])) ∷ [];
      } → ⊥
  pub not_alone : added add_using
      ≡ record with_user {
        worlds = with_resource.worlds
            ++ record (world_of (codes "v") (entry_of 2 ∷ []) []) { «package» = Some 1 } ∷ [];
      }
      → ⊥
  -- not b alone, as it is written; not under another id; and not nothing
  pub not_elaborated : added (adding no_features empty_graph first_package)
      ≡ sample (entry_of 1 ∷ []) [] → ⊥
  pub other_id : (added (adding no_features empty_graph first_package)).package_names
      ≡ (foo_bar, 1) ∷ [] → ⊥
  pub nothing_added : added (adding no_features empty_graph first_package) ≡ empty_graph → ⊥
  -- an interface whose feature is off is left out, and one whose feature is on isn't
  pub off : (added (adding no_features empty_graph (gated None gate_f))).interfaces ≡ []
  pub on : (added (adding feature_f empty_graph (gated None gate_f))).interfaces
      ≡ record (interface_of (Some (codes "i")) []) { stability = gate_f } ∷ []
  pub left_out : (added (adding feature_f empty_graph (gated None gate_f))).interfaces ≡ [] → ⊥

-- all spans of packages
pub record ExamplesOfSpans : Type 0 where
  pub spans_of_world : package_spans (including_package [])
      ≡ Some (8, 13) ∷ None ∷ None ∷ None ∷ None ∷ None ∷ None ∷ Some (50, 60) ∷ []
  pub spans_of_names : package_spans (naming_type (codes "t"))
      ≡ Some (8, 13) ∷ None ∷ Some (30, 31) ∷ Some (40, 41) ∷ None ∷ None ∷ []
