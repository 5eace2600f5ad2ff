-- What is known of the types of a graph, and which lead to resources.
use Rattle.std.specs.Prelude.{◌≡◌, ◌<◌, ℕ, Bool, true, List, Contains, None, Some, length, nat_eq, slice_get}
use Rattle.std.specs.Map.{lookup}
use Rattle.wit_data.specs.Uses.{alias_target}
use Rattle.wit_data.specs.declared.types.TypeDef.{TypeDef}
use Rattle.wit_link_spec.specs.Addition.{Addition}
use Rattle.wit_link_spec.specs.Gates.{type_is_active}
use Rattle.wit_link_spec.specs.Lookup.{foreign_type_id}
use Rattle.wit_remap_spec.specs.Resources.{leads_to_resource}

-- these types are there, and it is known whether they lead to a resource
abbrev pub AreRight : List TypeDef → List (ℕ × Bool) → Type 0
AreRight types met =
    (t : ℕ) (leads : Bool) → Contains met (t, leads)
    → (t < length types) × (leads_to_resource types t ≡ leads)

-- nothing is known of type t, and it names type u as an alias
abbrev pub LeadsOn : List TypeDef → List (ℕ × Bool) → ℕ → ℕ → Type 0
LeadsOn types met t u =
    (lookup (nat_eq t) met ≡ None)
    × ((def : TypeDef) × (slice_get types t ≡ Some def) × (alias_target def.kind ≡ Some u))

-- type t is no alias
abbrev pub EndsAt : List TypeDef → ℕ → Type 0
EndsAt types t = (def : TypeDef) → slice_get types t ≡ Some def → alias_target def.kind ≡ None

-- if type t is active and is found in the graph, it leads to a resource there
abbrev pub LeadsWhereFound : Addition → ℕ → Type 0
LeadsWhereFound a t =
    (t' : ℕ) → type_is_active a.features a.unresolved.types t ≡ true
    → foreign_type_id a.graph a.unresolved t ≡ Some t' → leads_to_resource a.graph.types t' ≡ true
