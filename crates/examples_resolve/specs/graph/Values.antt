-- Types at value positions: which become an `own`, and where the types of a package go.
use Rattle.std.specs.Prelude.{◌≡◌, true, false, List, [], ◌∷◌, Some, None, codes}
use Rattle.wit_data.specs.declared.stability.Stability.TheVariants.{Unknown}
use Rattle.wit_data.specs.declared.types.Field.{Field}
use Rattle.wit_data.specs.declared.types.TypeDef.{TypeDef}
use Rattle.wit_data.specs.declared.types.Type_.{Type_}
use Rattle.wit_data.specs.declared.unresolved.UnresolvedPackage.{UnresolvedPackage}
use Rattle.wit_data.specs.declared.types.Handle.TheVariants as handle
use Rattle.wit_data.specs.declared.types.TypeDefKind.TheVariants as kind
use Rattle.wit_data.specs.declared.types.Type_.TheVariants as type
use Rattle.wit_data.specs.declared.unresolved.AstItem.TheVariants as named
use Rattle.wit_graph_data.specs.examples.Samples.{foo_bar, function_of, interface_of, no_docs, sample, type_in, unnamed}
use Rattle.wit_graph_data.specs.declared.graph.Graph.{Graph}
use Rattle.wit_link_spec.specs.Addition.{Addition, addition_maps, remapped_type, remap_of_addition}
use Rattle.wit_link_spec.specs.Added.{added}
use Rattle.wit_remap_spec.specs.Resources.{leads_to_resource}
use Rattle.wit_remap_spec.specs.ValueRemap.{needs_own}
use Rattle.examples_resolve.specs.graph.Packages.{adding, bare, loose_interface, main_name, no_features}
use Rattle.wit_remap_spec.specs.steps.Parts.{value_image, kind_image, value_positions, value_id}

-- resource r, s another name of it, t a number, and an `own` of s
abbrev pub resource_types : List TypeDef
resource_types =
    type_in 0 (codes "r") kind.Resource ∷ type_in 0 (codes "s") (kind.Type_ (type.Id 0))
    ∷ type_in 0 (codes "t") (kind.Type_ type.U32)
    ∷ unnamed (kind.Handle (handle.Own 1)) ∷ []

-- foo:bar, whose interface a has a resource t, and whose b has another name of it
abbrev pub with_resource : Graph
with_resource =
    record (sample [] []) {
      types = type_in 0 (codes "t") kind.Resource
          ∷ type_in 1 (codes "t") (kind.Type_ (type.Id 0)) ∷ [];
    }

-- a field x of this type
abbrev pub field_of : Type_ → Field
field_of ty = record { name = codes "x"; ty = ty; docs = no_docs; span = None }

-- a package with interface i, which uses t of foo:bar/a under the name s, and has a record p with a field of s
-- and a function that takes an s and returns a p
abbrev pub holding : UnresolvedPackage
holding = record (bare main_name) {
  interfaces = loose_interface (codes "a") ((codes "t", 0) ∷ []) Unknown
      ∷ record (loose_interface (codes "i") ((codes "s", 1) ∷ (codes "p", 2) ∷ []) Unknown) {
        functions = (codes "f", function_of (codes "f") (type.Id 1 ∷ []) (Some (type.Id 2)))
            ∷ [];
      } ∷ [];
  types =
      type_in 0 (codes "t") kind.Unknown ∷ type_in 1 (codes "s") (kind.Type_ (type.Id 0))
      ∷ type_in 1 (codes "p") (kind.Record (field_of (type.Id 1) ∷ [])) ∷ [];
  foreign_deps = (foo_bar, (codes "a", (named.Interface 0, Unknown ∷ [])) ∷ []) ∷ [];
  foreign_dep_spans = None ∷ [];
  unknown_type_spans = Some (30, 31) ∷ [];
}

-- a package with a function that takes a t of foo:bar/a
abbrev pub taking_foreign : UnresolvedPackage
taking_foreign = record holding {
  interfaces =
      loose_interface (codes "a") ((codes "t", 0) ∷ []) Unknown
      ∷ record (loose_interface (codes "i") [] Unknown)
      { functions = (codes "f", function_of (codes "f") (type.Id 0 ∷ []) None) ∷ [] } ∷ [];
  types = type_in 0 (codes "t") kind.Unknown ∷ [];
}

-- the package that holds a p is added to that graph
abbrev pub add_holding : Addition
add_holding = adding no_features with_resource holding

-- what leads to a resource, what becomes an `own`, and what comes of the package
pub record ExamplesOfValues : Type 0 where
  pub resource : leads_to_resource resource_types 0 ≡ true
  pub alias : leads_to_resource resource_types 1 ≡ true
  pub number : leads_to_resource resource_types 2 ≡ false
  pub own_itself : leads_to_resource resource_types 3 ≡ false
  -- what an alias and a handle name isn't a value
  pub of_alias : value_positions (kind.Type_ (type.Id 1)) ≡ []
  pub of_handle : value_positions (kind.Handle (handle.Borrow 1)) ≡ []
  pub of_list : value_positions (kind.List (type.Id 1)) ≡ 1 ∷ []
  -- the foreign t goes to that of foo:bar; s and p to the next ids; a value of s to an `own` behind them
  pub foreign : remapped_type add_holding 0 ≡ 0
  pub stays : remapped_type add_holding 1 ≡ 2
  pub becomes_own : value_id (remap_of_addition add_holding) 1 ≡ 4
  pub other_stays : value_id (remap_of_addition add_holding) 2 ≡ 3
  -- t itself stands at no value position
  pub not_asked_for : needs_own (remap_of_addition add_holding) 0 ≡ false
  pub primitive : value_image (addition_maps add_holding) type.U8 ≡ type.U8
  pub alias_stays : kind_image (addition_maps add_holding) (kind.Type_ (type.Id 1))
      ≡ kind.Type_ (type.Id 2)
  pub handle_stays : kind_image (addition_maps add_holding) (kind.Handle (handle.Borrow 1))
      ≡ kind.Handle (handle.Borrow 2)
  pub part_becomes_own : kind_image (addition_maps add_holding) (kind.List (type.Id 1))
      ≡ kind.List (type.Id 4)
  -- all types and interfaces of the new graph
  pub types : (added add_holding).types
      ≡ type_in 0 (codes "t") kind.Resource ∷ type_in 1 (codes "t") (kind.Type_ (type.Id 0))
      ∷ type_in 2 (codes "s") (kind.Type_ (type.Id 0))
      ∷ type_in 2 (codes "p") (kind.Record (field_of (type.Id 4) ∷ []))
      ∷ unnamed (kind.Handle (handle.Own 2)) ∷ []
  pub interfaces : (added add_holding).interfaces
      ≡ interface_of (Some (codes "a")) ((codes "t", 0) ∷ [])
      ∷ interface_of (Some (codes "b")) ((codes "t", 1) ∷ [])
      ∷ record (interface_of (Some (codes "i")) ((codes "s", 2) ∷ (codes "p", 3) ∷ [])) {
        «package» = Some 1;
        functions = (codes "f", function_of (codes "f") (type.Id 4 ∷ []) (Some (type.Id 3)))
            ∷ [];
      } ∷ []
  -- a value of the foreign t itself is an `own` of that of foo:bar
  pub foreign_value : (added (adding no_features with_resource taking_foreign)).types
      ≡ type_in 0 (codes "t") kind.Resource ∷ type_in 1 (codes "t") (kind.Type_ (type.Id 0))
      ∷ unnamed (kind.Handle (handle.Own 0)) ∷ []
  -- the value isn't the alias itself
  pub apart : value_id (remap_of_addition add_holding) 1 ≡ remapped_type add_holding 1 → ⊥
