-- What is asked of types that come into a graph; which of them are new there; what is known of the way of one along
-- aliases; and of which remap they are.
use Rattle.std.specs.Prelude.{◌≡◌, ◌⊎◌, ◌<◌, ◌+◌, ℕ, Bool, true, List, [], ◌++◌, Option, None, Some, length, map, slice_get, unwrap_or, if◌then◌else◌, flat_map}
use Rattle.std.specs.List.{range_with_len}
use Rattle.std.specs.Option.{option_map_or}
use Rattle.wit_digraph.specs.Relation.{IsAcyclic}
use Rattle.wit_data.specs.Kind.{type_references, signature_types}
use Rattle.wit_data.specs.Uses.{alias_target}
use Rattle.wit_data.specs.declared.function.Function.{Function}
use Rattle.wit_data.specs.declared.types.TypeDef.{TypeDef}
use Rattle.wit_remap_spec.specs.Resources.{leads_to_resource}
use Rattle.wit_remap_spec.specs.Selected.{rank, selected}
use Rattle.wit_remap_spec.specs.ValueRemap.{ValueRemap}
use Rattle.wit_link_spec.specs.declared.addition.Values.{Values}
use Rattle.wit_link_spec.specs.steps.NewThings.{is_new}
use Rattle.wit_link_resources.specs.declared.incoming.Incoming.{Incoming}
use Rattle.wit_remap_spec.specs.steps.Parts.{value_positions, types_without_owns, value_id, owns}

-- ---- what is asked of them

-- type t is new
abbrev pub new_of : Incoming → ℕ → Bool
new_of s = is_new (length s.graph_types.now) s.ids.now

-- type t is remapped
abbrev pub IsRemapped : List (Option ℕ) → ℕ → Type 0
IsRemapped new_ids t = (t' : ℕ) × (slice_get new_ids t ≡ Some (Some t'))

-- no type refers to itself, through whatever others; each that is remapped is so to one of the graph, or to the next id
-- behind them; and what a new one names as an alias is remapped
pub record CanCome (old types : List TypeDef) (new_ids : List (Option ℕ)) : Type 0 where
  pub old_acyclic : IsAcyclic (type_references old)
  pub acyclic : IsAcyclic (type_references types)
  pub long : length new_ids ≡ length types
  pub next : (t t' : ℕ) → slice_get new_ids t ≡ Some (Some t')
      → (t' < length old) ⊎ (t' ≡ length old + rank (is_new (length old) new_ids) t)
  pub aliases : (t u : ℕ) (def : TypeDef) → is_new (length old) new_ids t ≡ true
      → slice_get types t ≡ Some def → alias_target def.kind ≡ Some u → IsRemapped new_ids u

abbrev pub CanComeIn : Incoming → Type 0
CanComeIn s = CanCome s.graph_types.now s.types.now s.ids.now

-- ---- value positions

-- the types at those of new types and of functions
abbrev pub positions_of : Incoming → List Function → List ℕ
positions_of s functions =
    flat_map (λ (def : TypeDef). value_positions def.kind) (selected (new_of s) s.types.now)
    ++ flat_map signature_types functions

-- ---- the remap

-- these types and functions are what comes, and the types go where the remap says
pub record IsRemapOf (old types : List TypeDef) (new_ids : List (Option ℕ))
    (functions : List Function) (r : ValueRemap) : Type 0 where
  pub graph_types : r.graph_types ≡ old
  pub new_types : r.new_types ≡ selected (is_new (length old) new_ids) types
  pub new_functions : r.new_functions ≡ functions
  pub count : r.count ≡ length types
  pub ids : (t : ℕ) (o : Option ℕ) → slice_get new_ids t ≡ Some o → r.ids.types t ≡ unwrap_or o t

abbrev pub IsRemap : Incoming → List Function → ValueRemap → Type 0
IsRemap s functions r = IsRemapOf s.graph_types.now s.types.now s.ids.now functions r

-- what values are remapped to, and their `own`s
abbrev pub values_in : ValueRemap → Values
values_in r = record { new_ids = map (value_id r) (range_with_len 0 r.count); owns = owns r }

-- ---- ways along aliases

-- does type t lead to a resource where it goes?
abbrev pub leads_in : ValueRemap → ℕ → Bool
leads_in r t = leads_to_resource (types_without_owns r) (r.ids.types t)

-- what is known of types is so
abbrev pub AreTold : ValueRemap → List (Option Bool) → Type 0
AreTold r known =
    (t : ℕ) (answer : Bool) → slice_get known t ≡ Some (Some answer) → leads_in r t ≡ answer

-- nothing is known of type t, which is new and names type u as an alias
abbrev pub NamesNext : Incoming → List (Option Bool) → ℕ → ℕ → Type 0
NamesNext s known t u =
    (slice_get known t ≡ Some None) × (new_of s t ≡ true)
    × ((def : TypeDef) × (slice_get s.types.now t ≡ Some def) × (alias_target def.kind ≡ Some u))

-- if nothing is known of type t and it is new, it is no alias
abbrev pub EndsWay : Incoming → List (Option Bool) → ℕ → Type 0
EndsWay s known t =
    slice_get known t ≡ Some None → new_of s t ≡ true → (def : TypeDef)
    → slice_get s.types.now t ≡ Some def → alias_target def.kind ≡ None
