-- What the entries of a world name, and where its imports begin: at what an entry names, or at what that uses.
use Rattle.std.proofs.Common.{◌≡◌, ◌∙◌, ◌⊎◌, inl, inr, ℕ, ◌<◌, Bool, true, false, List, [], ◌∷◌, Option, None, Some, length, nat_eq, refl, sym, ap, subst, Contains}
use Rattle.std.specs.List.{list_any}
use Rattle.std.proofs.lemmas.List.Elements.{Contains-append_left, Contains-append_right}
use Rattle.wit_digraph.specs.facts.FreshFacts.{any_from_contains, contains_from_any}
use Rattle.wit_digraph.specs.facts.MemberFacts.{Contains-cons_cases, Contains-flat_map, Contains-flat_map_cases, Contains-here, Contains-nil}
use Rattle.wit_digraph.specs.Relation.{IsAcyclic, direct}
use Rattle.wit_data.specs.Each.{Each}
use Rattle.wit_data.specs.Entries.{ExportsAreAllowed, ImportsAreAllowed, IsExport, IsImport}
use Rattle.wit_data.specs.Function.{resource_of}
use Rattle.wit_data.specs.Ownership.{AliasesNamed, IsNamed}
use Rattle.wit_data.specs.Uses.{type_interface_dep, uses_of}
use Rattle.wit_data.specs.declared.interface.Interface.{Interface}
use Rattle.wit_data.specs.declared.types.TypeDef.{TypeDef}
use Rattle.wit_data.specs.declared.world.World.{World}
use Rattle.wit_data.specs.declared.world.WorldItem.{WorldItem}
use Rattle.wit_data.specs.declared.world.WorldKey.{WorldKey}
use Rattle.wit_data.specs.declared.world.WorldItem.TheVariants as item
use Rattle.wit_data.specs.declared.world.WorldKey.TheVariants as key
use Rattle.wit_elaboration.specs.Elaborated.{Elaborated, without_span}
use Rattle.wit_elaboration.specs.Entries.{Entry, key_interface, keyed_interfaces, item_interface, role_of}
use Rattle.wit_elaboration.specs.laws.Imports.{roots_of}
use Rattle.wit_elaboration.specs.laws.KeptByElaboration.{HoldsImports, ImportsAreLeast}
use Rattle.wit_elaboration.specs.facts.SoundFacts.{dep_is_named, lists_in_order, named_within}
use Rattle.wit_graph_data.specs.Queries.{entry_interface, world_interfaces, entry_interfaces}
use Rattle.wit_graph_theory.specs.facts.DependencyFacts.{filter_map_into}
use Rattle.wit_graph_theory.specs.facts.ListFacts.{place_of}
use Rattle.wit_graph_theory.specs.facts.NamedUses.{used_is_named}
use Rattle.wit_graph_theory.specs.laws.PackageCycles.{ListsKey, ListsUses}
use Rattle.wit_elaboration.specs.steps.Parts.{type_role, function_role, exported_keys}

pub one_of : (i j : ℕ) → Contains (i ∷ []) j → i ≡ j
one_of i j has = elim (Contains-cons_cases i j [] has) [ inl same ↦ same | inr none ↦ absurd (Contains-nil none) ]

-- ---- what an entry names

pub interface_without_span : (types : List TypeDef) (held : WorldItem) → entry_interface types (without_span held) ≡ entry_interface types held
interface_without_span types (item.Interface i stability docs span external_id) = refl
interface_without_span types (item.Function f) = refl
interface_without_span types (item.Type_ t span) = refl

pub instance_interface : (types : List TypeDef) (held : WorldItem) (i : ℕ) → Contains (item_interface held) i → entry_interface types held ≡ Some i
instance_interface types (item.Interface f stability docs span external_id) i has = ap Some (one_of f i has)
instance_interface types (item.Function f) i has = absurd (Contains-nil has)
instance_interface types (item.Type_ t span) i has = absurd (Contains-nil has)

-- the key of an interface names that interface
pub export_interface : (interfaces : List Interface) (types : List TypeDef) (k : WorldKey) (held : WorldItem) (j : ℕ) → k ≡ key.Interface j → IsExport interfaces k held → entry_interface types held ≡ Some j
export_interface interfaces types (key.Name name) held j same is = cc
export_interface interfaces types (key.Interface f) (item.Interface i stability docs span external_id) j same is = let one : f ≡ j = cc in ap Some (is.0 ∙ one)
export_interface interfaces types (key.Interface f) (item.Function fn) j same is = absurd is
export_interface interfaces types (key.Interface f) (item.Type_ t span) j same is = absurd is

pub import_interface : (interfaces : List Interface) (types : List TypeDef) (w : ℕ) (k : WorldKey) (held : WorldItem) (j : ℕ) → k ≡ key.Interface j → IsImport interfaces types w k held → entry_interface types held ≡ Some j
import_interface interfaces types w (key.Name name) held j same is = cc
import_interface interfaces types w (key.Interface f) held j same is = export_interface interfaces types (key.Interface f) held j same is

-- an id among the keys is that of an entry
pub key_entry : (es : List Entry) (j : ℕ) → Contains (keyed_interfaces es) j → (e : Entry) × Contains es e × (e.0 ≡ key.Interface j)
key_entry es j has =
    let from = Contains-flat_map_cases (λ (e : Entry). key_interface e.0) es j has in
    (from.0, from.1.0, is from.0.0 from.1.1)
  where
    is : (k : WorldKey) → Contains (key_interface k) j → k ≡ key.Interface j
    is (key.Name name) none = absurd (Contains-nil none)
    is (key.Interface i) one = ap key.Interface (one_of i j one)

-- and an exported key is that of an interface with a name
pub named_export : (interfaces : List Interface) (k : WorldKey) (held : WorldItem) (j : ℕ) → k ≡ key.Interface j → IsExport interfaces k held → IsNamed interfaces j
named_export interfaces (key.Name name) held j same is = cc
named_export interfaces (key.Interface f) (item.Interface i stability docs span external_id) j same is = let one : f ≡ j = cc in subst (IsNamed interfaces) one is.1
named_export interfaces (key.Interface f) (item.Function fn) j same is = absurd is
named_export interfaces (key.Interface f) (item.Type_ t span) j same is = absurd is

-- what an entry names is there
pub export_there : (interfaces : List Interface) (types : List TypeDef) (k : WorldKey) (held : WorldItem) (i : ℕ) → IsExport interfaces k held → entry_interface types held ≡ Some i → i < length interfaces
export_there interfaces types (key.Interface f) (item.Interface id stability docs span external_id) i is names = let same : id ≡ i = cc in subst (λ (x : ℕ). x < length interfaces) (sym is.0 ∙ same) (named_within interfaces f is.1)
export_there interfaces types (key.Name name) (item.Interface id stability docs span external_id) i is names = let same : id ≡ i = cc in subst (λ (x : ℕ). x < length interfaces) same is
export_there interfaces types k (item.Function f) i is names = cc
export_there interfaces types (key.Interface f) (item.Type_ t span) i is names = absurd is
export_there interfaces types (key.Name name) (item.Type_ t span) i is names = absurd is

pub import_there : (types : List TypeDef) (interfaces : List Interface) → Each (AliasesNamed types interfaces) types → (w : ℕ) (k : WorldKey) (held : WorldItem) (i : ℕ) → IsImport interfaces types w k held → entry_interface types held ≡ Some i → i < length interfaces
import_there types interfaces aliases w (key.Interface f) held i is names = export_there interfaces types (key.Interface f) held i is names
import_there types interfaces aliases w (key.Name name) (item.Interface id stability docs span external_id) i is names = export_there interfaces types (key.Name name) (item.Interface id stability docs span external_id) i is names
import_there types interfaces aliases w (key.Name name) (item.Function f) i is names = cc
import_there types interfaces aliases w (key.Name name) (item.Type_ t span) i is names = named_within interfaces i (dep_is_named types interfaces t i aliases names)

-- ---- what a world names

pub import_named : (types : List TypeDef) (world : World) (e : Entry) (i : ℕ) → Contains world.imports e → entry_interface types e.1 ≡ Some i → Contains (world_interfaces types world) i
import_named types world e i has is =
    Contains-append_left (entry_interfaces types world.imports) (entry_interfaces types world.exports) i
    (filter_map_into (λ (e : Entry). entry_interface types e.1) world.imports e i has is)

pub export_named : (types : List TypeDef) (world : World) (e : Entry) (i : ℕ) → Contains world.exports e → entry_interface types e.1 ≡ Some i → Contains (world_interfaces types world) i
export_named types world e i has is =
    Contains-append_right (entry_interfaces types world.imports) (entry_interfaces types world.exports) i
    (filter_map_into (λ (e : Entry). entry_interface types e.1) world.exports e i has is)

-- what it lists under its own key it names
pub key_named : (interfaces : List Interface) (types : List TypeDef) (w : ℕ) (world : World) → ImportsAreAllowed interfaces types w world → ExportsAreAllowed interfaces world
    → (j : ℕ) → ListsKey world j → Contains (world_interfaces types world) j
key_named interfaces types w world imports exports j (inl has) =
    let e = key_entry world.imports j has in
    let place = place_of world.imports e.0 e.1 in
    import_named types world e.0 j e.1 (import_interface interfaces types w e.0.0 e.0.1 j e.2 (imports place.0 e.0 place.1))
key_named interfaces types w world imports exports j (inr has) =
    let e = key_entry world.exports j has in
    let place = place_of world.exports e.0 e.1 in
    export_named types world e.0 j e.1 (export_interface interfaces types e.0.0 e.0.1 j e.2 (exports place.0 e.0 place.1))

-- ---- where imports begin

-- those of an entry that names i begin at i, or at the uses of i
pub role_interface : (types : List TypeDef) (uses : List (List ℕ)) (k : WorldKey) (held : WorldItem) (i : ℕ) → entry_interface types held ≡ Some i
    → Contains (roots_of uses k (role_of types held)) i ⊎ ((j : ℕ) → Contains (direct uses i) j → Contains (roots_of uses k (role_of types held)) j)
role_interface types uses (key.Interface f) (item.Interface id stability docs span external_id) i is = let same : id ≡ i = cc in inl (subst (λ (x : ℕ). Contains (id ∷ []) x) same (Contains-here id []))
role_interface types uses (key.Name name) (item.Interface id stability docs span external_id) i is = let same : id ≡ i = cc in inr (λ j has. subst (λ (x : ℕ). Contains (direct uses x) j) (sym same) has)
role_interface types uses k (item.Function f) i is = cc
role_interface types uses k (item.Type_ t span) i is = inl (by (type_interface_dep types t) k is)
  where
    by : (o : Option ℕ) (k : WorldKey) → o ≡ Some i → Contains (roots_of uses k (type_role o)) i
    by None k is = cc
    by (Some x) (key.Name name) is = let same : x ≡ i = cc in subst (λ (y : ℕ). Contains (x ∷ []) y) same (Contains-here x [])
    by (Some x) (key.Interface f) is = let same : x ≡ i = cc in subst (λ (y : ℕ). Contains (x ∷ []) y) same (Contains-here x [])

-- a function begins none, and the use of a type begins at its interface
pub no_function_root : (uses : List (List ℕ)) (o : Option ℕ) (k : WorldKey) (r : ℕ) → Contains (roots_of uses k (function_role o)) r → ⊥
no_function_root uses None (key.Name name) r has = Contains-nil has
no_function_root uses None (key.Interface f) r has = Contains-nil has
no_function_root uses (Some x) (key.Name name) r has = Contains-nil has
no_function_root uses (Some x) (key.Interface f) r has = Contains-nil has

pub type_root : (uses : List (List ℕ)) (o : Option ℕ) (k : WorldKey) (r : ℕ) → Contains (roots_of uses k (type_role o)) r → o ≡ Some r
type_root uses None (key.Name name) r has = absurd (Contains-nil has)
type_root uses None (key.Interface f) r has = absurd (Contains-nil has)
type_root uses (Some x) (key.Name name) r has = ap Some (one_of x r has)
type_root uses (Some x) (key.Interface f) r has = ap Some (one_of x r has)

-- those of an entry begin at what it names, or at what an interface uses that stands there
pub root_interface : (types : List TypeDef) (uses : List (List ℕ)) (k : WorldKey) (held : WorldItem) (r : ℕ) → Contains (roots_of uses k (role_of types held)) r
    → (i : ℕ) × (entry_interface types held ≡ Some i) × ((i ≡ r) ⊎ (Contains (item_interface held) i × Contains (direct uses i) r))
root_interface types uses (key.Interface f) (item.Interface id stability docs span external_id) r has = (id, refl, inl (one_of id r has))
root_interface types uses (key.Name name) (item.Interface id stability docs span external_id) r has = (id, refl, inr (Contains-here id [], has))
root_interface types uses k (item.Function f) r has = absurd (no_function_root uses (resource_of f.kind) k r has)
root_interface types uses k (item.Type_ t span) r has = (r, type_root uses (type_interface_dep types t) k r has, inl refl)

-- and there is an interface with a name
pub root_named : (types : List TypeDef) (interfaces : List Interface) → Each (AliasesNamed types interfaces) types → (w : ℕ) (k : WorldKey) (held : WorldItem) (r : ℕ) → IsImport interfaces types w k held
    → Contains (roots_of (uses_of types interfaces) k (role_of types held)) r → IsNamed interfaces r
root_named types interfaces aliases w (key.Interface f) (item.Interface id stability docs span external_id) r is has = subst (IsNamed interfaces) (sym is.0 ∙ one_of id r has) is.1
root_named types interfaces aliases w (key.Name name) (item.Interface id stability docs span external_id) r is has = used_is_named types interfaces aliases id r has
root_named types interfaces aliases w k (item.Function f) r is has = absurd (no_function_root (uses_of types interfaces) (resource_of f.kind) k r has)
root_named types interfaces aliases w k (item.Type_ t span) r is has = dep_is_named types interfaces t r aliases (type_root (uses_of types interfaces) (type_interface_dep types t) k r has)

-- ---- a canonical world lists what its interfaces use

module _ (least : ImportsAreLeast) (types : List TypeDef) (interfaces : List Interface) (aliases : Each (AliasesNamed types interfaces) types) (acyclic : IsAcyclic (uses_of types interfaces))
    (w : ℕ) (world : World) (has_imports : ImportsAreAllowed interfaces types w world) (has_exports : ExportsAreAllowed interfaces world) (canonical : Elaborated types (uses_of types interfaces) world world) where
  abbrev rows : List (List ℕ)
  rows = uses_of types interfaces

  -- its imports under their own keys are closed
  pub holds : HoldsImports types rows world.imports world.exports (Contains (keyed_interfaces world.imports))
  holds = (least types rows world world acyclic (lists_in_order types interfaces aliases w world has_imports has_exports) canonical).0

  -- what an import uses is imported under its own key
  pub import_uses : (e : Entry) (i j : ℕ) → Contains world.imports e → entry_interface types e.1 ≡ Some i → Contains (direct rows i) j → Contains (keyed_interfaces world.imports) j
  import_uses e i j has is edge =
      elim (role_interface types rows e.0 e.1 i is) [
        | inl root ↦ holds.closed i j (holds.roots i (Contains-flat_map (λ (e : Entry). roots_of rows e.0 (role_of types e.1)) world.imports e i has root)) edge
        | inr roots ↦ holds.roots j (Contains-flat_map (λ (e : Entry). roots_of rows e.0 (role_of types e.1)) world.imports e j has (roots j edge))
      ]

  -- what an export uses is exported so, or imported
  pub export_uses : (e : Entry) (i j : ℕ) → Contains world.exports e → Contains (item_interface e.1) i → Contains (direct rows i) j → ListsKey world j
  export_uses e i j has instance edge = by (list_any (nat_eq j) (exported_keys world.exports)) refl
    where
      by : (b : Bool) → list_any (nat_eq j) (exported_keys world.exports) ≡ b → ListsKey world j
      by true is = inr (contains_from_any j (exported_keys world.exports) is)
      by false is =
          inl (holds.from_outside i j (Contains-flat_map (λ (e : Entry). item_interface e.1) world.exports e i has instance) edge
          (λ among. let yes = any_from_contains j (exported_keys world.exports) among in cc))

  pub canonical_lists_uses : ListsUses interfaces rows world
  canonical_lists_uses = record {
    imports = λ e f j has instance unnamed edge. inl (import_uses e f j has (instance_interface types e.1 f instance) edge);
    exports = λ e f j has instance unnamed edge. export_uses e f j has instance edge;
  }
