-- Small packages that are refused for what they are or for what they name, and packages that just lack the
-- reason, whatever is told.
use Rattle.std.specs.Prelude.{◌≡◌, ℕ, List, [], ◌∷◌, ◌++◌, Some, None, codes}
use Rattle.wit_names.specs.declared.package_name.PackageName.{PackageName}
use Rattle.wit_data.specs.declared.stability.Stability.{Stability}
use Rattle.wit_data.specs.declared.unresolved.UnresolvedPackage.{UnresolvedPackage}
use Rattle.wit_data.specs.declared.stability.Stability.TheVariants.{Unknown, Stable}
use Rattle.wit_data.specs.declared.types.Handle.TheVariants as handle
use Rattle.wit_data.specs.declared.types.TypeDefKind.TheVariants as kind
use Rattle.wit_data.specs.declared.types.Type_.TheVariants as type
use Rattle.wit_elaboration.specs.examples.Examples.{empty_graph}
use Rattle.wit_graph_data.specs.examples.Samples.{foo_bar, function_of, interface_of, sample, type_in, unnamed}
use Rattle.wit_graph_data.specs.declared.cause.Cause.TheVariants as cause
use Rattle.wit_graph_data.specs.declared.graph.Graph.{Graph}
use Rattle.wit_graph_data.specs.declared.error_kind.ResolveErrorKind.{ResolveErrorKind}
use Rattle.wit_graph_data.specs.declared.error_kind.ResolveErrorKind.TheVariants.{PackageNotFound, WorldNotFound, InterfaceNotFound, DuplicatePackage, Semantic, OffsetOverflow, OutOfMemory}
use Rattle.wit_link_spec.specs.Addition.{Addition}
use Rattle.wit_link_spec.specs.Cause.{IsAdditionCause}
use Rattle.wit_link_spec.specs.Gates.{OptionalSpan}
use Rattle.wit_link_spec.specs.Lookup.{foreign_interface_id, foreign_type_id, foreign_world_id}
use Rattle.examples_resolve.specs.graph.Packages.{adding, adding_at, all_features, bare, dep_name, feature_f, gate_f, gate_g, gated, gated_import, gated_owner, include_with, including_package, loose_interface, loose_world, naming, naming_type, no_features, returning, since_one, since_package, three, with_world}
use Rattle.examples_resolve.specs.graph.Values.{field_of, with_resource}

-- a package of the name foo:bar that names interface a and world w of foo:bar
abbrev pub naming_itself : UnresolvedPackage
naming_itself = record (including_package []) { name = foo_bar }

-- a package that names what is there
abbrev pub finding : Addition
finding = adding all_features (with_world gate_g (codes "f")) (including_package [])

-- the error that a package has a `@since`, and no version
abbrev pub no_version_of : List ℕ → ResolveErrorKind
no_version_of message = Semantic None message cause.GateWithoutVersion

-- a package with a record whose field, at 60 to 63, is of a type under a gate
abbrev pub gated_field : UnresolvedPackage
gated_field = record (bare foo_bar) {
  interfaces = loose_interface (codes "i") ((codes "t", 0) ∷ (codes "x", 1) ∷ []) Unknown ∷ [];
  types =
      record (type_in 0 (codes "t") (kind.Type_ type.U32)) { stability = gate_f }
      ∷ type_in 0 (codes "x")
      (kind.Record (record (field_of (type.Id 0)) { span = Some (60, 63) } ∷ [])) ∷ [];
}

-- a package with a world that includes one under a gate
abbrev pub gated_include : UnresolvedPackage
gated_include =
    record (bare foo_bar) {
      worlds = record (loose_world (codes "v") [] [] [])
          { stability = gate_f } ∷ loose_world (codes "w") [] [] (include_with [] ∷ []) ∷ [];
    }

-- a package with a function under a gate that returns a borrow
abbrev pub returning_under : Stability → UnresolvedPackage
returning_under note = record (returning (type.Id 1)) {
  interfaces =
      record (loose_interface (codes "i") ((codes "r", 0) ∷ []) Unknown) {
        functions = (
          codes "f",
          record (function_of (codes "f") [] (Some (type.Id 1))) { stability = note },
        ) ∷ [];
      }
      ∷ [];
}

-- foo:bar, whose type t is a list of borrows
abbrev pub with_borrow : Graph
with_borrow = record (sample [] []) {
  types =
      type_in 0 (codes "t") (kind.List (type.Id 2)) ∷ type_in 1 (codes "t") (kind.Type_ (type.Id 0))
      ∷ unnamed (kind.Handle (handle.Borrow 3)) ∷ type_in 0 (codes "r") kind.Resource ∷ [];
  interfaces =
      interface_of (Some (codes "a")) ((codes "t", 0) ∷ (codes "r", 3) ∷ [])
      ∷ interface_of (Some (codes "b")) ((codes "t", 1) ∷ []) ∷ [];
}

-- a package with a function that returns t of foo:bar
abbrev pub returning_foreign : UnresolvedPackage
returning_foreign = record (naming_type (codes "t")) {
  interfaces =
      loose_interface (codes "a") ((codes "t", 0) ∷ []) Unknown
      ∷ record (loose_interface (codes "i") [] Unknown)
      { functions = (codes "f", function_of (codes "f") [] (Some (type.Id 0))) ∷ [] } ∷ [];
  required_resource_types = [];
}

-- 1, 2, 3, 5, 13, 14: what is there, and what isn't
pub record ExamplesOfNames : Type 0 where
  -- 5
  pub there : IsAdditionCause (adding_at 16 no_features (sample [] []) (bare foo_bar))
      (DuplicatePackage foo_bar (Some (24, 29)) None)
  pub not_there : (name : PackageName) (span1 span2 : OptionalSpan)
      → IsAdditionCause (adding_at 16 no_features empty_graph (bare foo_bar))
      (DuplicatePackage name span1 span2) → ⊥
  -- 1
  pub no_package : IsAdditionCause
      (adding no_features empty_graph (naming foo_bar dep_name Unknown))
      (PackageNotFound (Some (20, 25)) dep_name (foo_bar ∷ []))
  pub has_package : (span : OptionalSpan) (requested : PackageName) (known : List PackageName)
      → IsAdditionCause finding (PackageNotFound span requested known) → ⊥
  -- 2
  pub no_world : IsAdditionCause (adding no_features three (including_package []))
      (WorldNotFound None (codes "w") foo_bar)
  pub has_world : (span : OptionalSpan) (requested : List ℕ) (home : PackageName)
      → IsAdditionCause finding (WorldNotFound span requested home) → ⊥
  -- 3: a path to the package itself, and the same where no gate of it is active
  pub no_interface : IsAdditionCause
      (adding no_features empty_graph (naming foo_bar foo_bar Unknown))
      (InterfaceNotFound None (codes "i") foo_bar)
  pub not_asked : (span : OptionalSpan) (requested : List ℕ) (home : PackageName)
      → IsAdditionCause (adding no_features empty_graph (naming foo_bar foo_bar gate_f))
      (InterfaceNotFound span requested home) → ⊥
  pub has_interface : (span : OptionalSpan) (requested : List ℕ) (home : PackageName)
      → IsAdditionCause finding (InterfaceNotFound span requested home) → ⊥
  -- 2, 3: what is named of the package's own name is never found, not even where the graph has it
  pub own_world : IsAdditionCause (adding no_features (sample [] []) naming_itself)
      (WorldNotFound None (codes "w") foo_bar)
  pub own_interface : IsAdditionCause (adding no_features (sample [] []) naming_itself)
      (InterfaceNotFound None (codes "a") foo_bar)
  pub own_found : foreign_interface_id (sample [] []) naming_itself 0 ≡ None
  pub other_found : foreign_interface_id (sample [] []) (including_package []) 0 ≡ Some 0
  pub other_world : foreign_world_id (sample [] []) (including_package []) 0 ≡ Some 0
  -- 13: a has no type u, but a type t
  pub no_type : IsAdditionCause (adding no_features (sample [] []) (naming_type (codes "u")))
      (Semantic (Some (30, 31)) (codes "type `u` not defined in interface") cause.TypeNotDefined)
  pub has_type : (span : OptionalSpan) (message : List ℕ)
      → IsAdditionCause (adding no_features (sample [] []) (naming_type (codes "t")))
      (Semantic span message cause.TypeNotDefined) → ⊥
  pub type_found : foreign_type_id (sample [] []) (naming_type (codes "t")) 0 ≡ Some 0
  -- 14: which is no resource, and one that is
  pub no_resource : IsAdditionCause (adding no_features (sample [] []) (naming_type (codes "t")))
      (Semantic (Some (40, 41)) (codes "type used in a handle must be a resource")
      cause.NotAResource)
  pub is_resource : (span : OptionalSpan) (message : List ℕ)
      → IsAdditionCause (adding no_features with_resource (naming_type (codes "t")))
      (Semantic span message cause.NotAResource) → ⊥

-- 9 to 12, 15, 27: gates, results and places
pub record ExamplesOfCauses : Type 0 where
  -- 9
  pub no_version : IsAdditionCause (adding no_features empty_graph (gated None since_one))
      (no_version_of (codes "package [p:q] contains a feature gate with a "
      ++ codes "version specifier, so it must have a version"))
  pub lacks_version : IsAdditionCause
      (adding all_features (with_world gate_g (codes "f")) since_package)
      (no_version_of (codes "package [foo:main] contains a feature gate with "
      ++ codes "a version specifier, so it must have a version"))
  pub has_version : (span : OptionalSpan) (message : List ℕ)
      → IsAdditionCause (adding no_features empty_graph (gated (Some (1, 0, 0, [], [])) since_one))
      (Semantic span message cause.GateWithoutVersion) → ⊥
  -- 10
  pub unreleased : IsAdditionCause (adding no_features empty_graph
      (gated (Some (1, 0, 0, [], [])) (Stable (1, 1, 0, [], []) None)))
      (Semantic None (codes "feature gate cannot reference unreleased version "
      ++ codes "1.1.0 of package [p:q@1.0.0] (current version 1.0.0)") cause.GateUnreleased)
  pub released : (span : OptionalSpan) (message : List ℕ)
      → IsAdditionCause (adding no_features empty_graph (gated (Some (1, 1, 0, [], [])) since_one))
      (Semantic span message cause.GateUnreleased) → ⊥
  -- 11
  pub excluded : IsAdditionCause (adding no_features empty_graph (gated_import gate_f))
      (Semantic None (codes "found a reference to a interface which is "
      ++ codes "excluded due to its feature not being activated") cause.Excluded)
  pub excluded_field : IsAdditionCause (adding no_features empty_graph gated_field)
      (Semantic (Some (60, 63)) (codes "found a reference to a type which is excluded "
      ++ codes "due to its feature not being activated") cause.Excluded)
  pub excluded_world : IsAdditionCause (adding no_features empty_graph gated_include)
      (Semantic (Some (50, 60)) (codes "found a reference to a world which is "
      ++ codes "excluded due to its feature not being activated") cause.Excluded)
  pub no_reference : (span : OptionalSpan) (message : List ℕ)
      → IsAdditionCause (adding no_features empty_graph (gated None gate_f))
      (Semantic span message cause.Excluded) → ⊥
  -- 12
  pub excluded_owner : IsAdditionCause (adding no_features empty_graph (gated_owner gate_f))
      (Semantic None
      (codes "found a reference to a interface which is excluded due to its feature not "
      ++ codes "being activated; this type is not gated by a feature but its interface is")
      cause.ExcludedOwner)
  pub owner_active : (span : OptionalSpan) (message : List ℕ)
      → IsAdditionCause (adding feature_f empty_graph (gated_owner gate_f))
      (Semantic span message cause.ExcludedOwner) → ⊥
  -- 15
  pub borrow : IsAdditionCause (adding no_features empty_graph (returning (type.Id 1)))
      (Semantic None (codes
      "function `f` returns a type which contains a `borrow<T>` which is not supported")
      cause.BorrowInResult)
  pub borrow_in_list : IsAdditionCause (adding no_features empty_graph (returning (type.Id 3)))
      (Semantic None (codes
      "function `f` returns a type which contains a `borrow<T>` which is not supported")
      cause.BorrowInResult)
  pub borrow_behind : IsAdditionCause (adding no_features with_borrow returning_foreign)
      (Semantic None (codes
      "function `f` returns a type which contains a `borrow<T>` which is not supported")
      cause.BorrowInResult)
  pub function_off : (span : OptionalSpan) (message : List ℕ)
      → IsAdditionCause (adding no_features empty_graph (returning_under gate_f))
      (Semantic span message cause.BorrowInResult) → ⊥
  pub own_result : (span : OptionalSpan) (message : List ℕ)
      → IsAdditionCause (adding no_features empty_graph (returning (type.Id 2)))
      (Semantic span message cause.BorrowInResult) → ⊥
  -- 27: a name that ends at 13, moved to end past the last position, and just at it
  pub too_far : IsAdditionCause (adding_at 4294967283 no_features empty_graph (bare foo_bar))
      OffsetOverflow
  pub just_fits : IsAdditionCause (adding_at 4294967282 no_features empty_graph (bare foo_bar))
      OffsetOverflow → ⊥
  -- want of memory is no reason
  pub no_memory : (a : Addition) → IsAdditionCause a OutOfMemory → ⊥
