-- The elaboration of a world: its imports with all that they and the exports need, and its exports
-- in the order of their uses.
-- Source: `elaborate_world` of wit-parser 0.263.0.
use Rattle.std.specs.Prelude.{ℕ, ◌≡◌, Bool, not, List, [], ◌∷◌, ◌++◌, None, map, filter, slice_get, flat_map}
use Rattle.std.specs.Option.{option_map_or}
use Rattle.wit_data.specs.declared.stability.Stability.TheVariants as stability
use Rattle.wit_data.specs.declared.types.TypeDef.{TypeDef}
use Rattle.wit_data.specs.declared.world.World.{World}
use Rattle.wit_data.specs.declared.world.WorldItem.{WorldItem}
use Rattle.wit_data.specs.declared.world.WorldItem.TheVariants as item
use Rattle.wit_data.specs.declared.world.WorldKey.TheVariants.{Interface}
pub use Rattle.wit_elaboration.specs.declared.entries.InheritedData.{InheritedData}
use Rattle.wit_digraph.specs.Relation.{direct}
use Rattle.wit_digraph.specs.PostOrder.{post_order}
use Rattle.wit_elaboration.specs.Entries.{Entry, Role, Instance, TypeUse, TypeDefinition, FreeFunction, ResourceFunction, role_of, item_interface, fresh_entries, by_class, is_instance}
use Rattle.wit_elaboration.specs.Imported.{HasTransitiveConflict, is_exported}

-- ---- what a dependency carries

-- the entry of a dependency: under its own key, with what it carries, no docs and an unknown span
abbrev pub dependency_of : InheritedData → ℕ → Entry
dependency_of carried i = (
  Interface i,
  item.Interface i carried.stability (record { contents = None }) None carried.external_id,
)

-- the dependencies of an import carry the stability of the interface, or of the type that is used, and no external id
abbrev pub inherited_by_import : List TypeDef → WorldItem → InheritedData
inherited_by_import types (item.Interface i stability docs span external_id) =
    record { stability = stability; external_id = None }
inherited_by_import types (item.Type_ id span) =
    record {
      stability = option_map_or (λ (type : TypeDef). type.stability) (slice_get types id)
          stability.Unknown;
      external_id = None;
    }
inherited_by_import types (item.Function function) =
    record { stability = stability.Unknown; external_id = None }

-- what an added export carries: the stability and the external id of its interface
abbrev pub inherited_by_export : WorldItem → InheritedData
inherited_by_export (item.Interface i stability docs span external_id) =
    record { stability = stability; external_id = external_id }
inherited_by_export (item.Function function) =
    record { stability = stability.Unknown; external_id = None }
inherited_by_export (item.Type_ id span) =
    record { stability = stability.Unknown; external_id = None }

-- ---- imports

-- the interfaces that must stand before an item, in their order: of an interface the post-orders of its uses, of a type use the post-order of its interface
abbrev pub dependencies_before : List (List ℕ) → Role → List ℕ
dependencies_before uses (Instance i) = flat_map (post_order uses) (direct uses i)
dependencies_before uses (TypeUse i) = post_order uses i
dependencies_before uses TypeDefinition = []
dependencies_before uses FreeFunction = []
dependencies_before uses ResourceFunction = []

-- an import of an interface loses its span
abbrev pub without_span : WorldItem → WorldItem
without_span (item.Interface i stability docs span external_id) =
    item.Interface i stability docs None external_id
without_span (item.Function function) = item.Function function
without_span (item.Type_ id span) = item.Type_ id span

-- an import, and before it the imports of what it needs
abbrev pub import_with_needs : List TypeDef → List (List ℕ) → Entry → List Entry
import_with_needs types uses e =
    map (dependency_of (inherited_by_import types e.1))
    (dependencies_before uses (role_of types e.1)) ++ (e.0, without_span e.1) ∷ []

-- ---- exports

-- what the interface of an export needs, of this only what a test picks, with what the export carries
abbrev pub export_needs : List (List ℕ) → (ℕ → Bool) → Entry → List Entry
export_needs uses picks e =
    map (dependency_of (inherited_by_export e.1))
    (filter picks (flat_map (λ i. dependencies_before uses (Instance i)) (item_interface e.1)))

-- ---- the elaborated lists

-- the imports by class, each after what it needs, then what the exports need that is no exported key, of each key the first,
-- by class again
abbrev pub elaborated_imports : List TypeDef → List (List ℕ) → List Entry → List Entry → List Entry
elaborated_imports types uses imports exports =
    by_class types
    (fresh_entries [] (flat_map (import_with_needs types uses) (by_class types imports)
    ++ flat_map (export_needs uses (λ i. not (is_exported exports i))) exports))

-- the functions, then the interfaces, each after what it needs that is an exported key, of each key the first
abbrev pub elaborated_exports : List (List ℕ) → List Entry → List Entry
elaborated_exports uses exports =
    filter (λ (e : Entry). not (is_instance e.1)) exports
    ++ fresh_entries []
    (flat_map (λ (e : Entry). export_needs uses (is_exported exports) e ++ e ∷ [])
    (filter (λ (e : Entry). is_instance e.1) exports))

-- a world with its lists elaborated, over these types and uses
abbrev pub with_elaborated_lists : List TypeDef → List (List ℕ) → World → World
with_elaborated_lists types uses world = record world {
  imports = elaborated_imports types uses world.imports world.exports;
  exports = elaborated_exports uses world.exports;
}

-- from a world's lists to its elaboration, which there is where there is no conflict
pub record Elaborated (types : List TypeDef) (uses : List (List ℕ)) (old new : World) : Type 0 where
  pub no_conflict : HasTransitiveConflict uses old.exports → ⊥
  pub world_is : new ≡ with_elaborated_lists types uses old
