-- Which types are resources or other names of resources, and where values ask for an unnamed `own`: a value
-- whose type leads to a resource is written `own` of it.
-- Source: `update_ty` of wit-parser 0.263.0; handles on the WIT page of the component model.
use Rattle.std.specs.Prelude.{ℕ, Bool, true, false, List, slice_get, None}
use Rattle.std.specs.List.{list_any}
use Rattle.std.specs.Option.{option_map_or}
use Rattle.wit_digraph.specs.PostOrder.{post_order}
use Rattle.wit_data.specs.New.{new_type}
use Rattle.wit_data.specs.declared.kind.PartRole.{PartRole}
use Rattle.wit_data.specs.declared.types.TypeDef.{TypeDef}
use Rattle.wit_data.specs.declared.types.TypeDefKind.{TypeDefKind}
use Rattle.wit_data.specs.declared.kind.PartRole.TheVariants.{Value}
use Rattle.wit_data.specs.declared.types.Handle.TheVariants.{Own}
use Rattle.wit_data.specs.declared.types.TypeDefKind.TheVariants as kind
use Rattle.wit_data.specs.declared.types.TypeOwner.TheVariants as owner
use Rattle.wit_data.specs.Uses.{alias_rows}

abbrev pub is_resource_kind : TypeDefKind → Bool
is_resource_kind kind.Resource = true
is_resource_kind _ = false

-- is type t a resource?
abbrev pub is_resource : List TypeDef → ℕ → Bool
is_resource types t =
    option_map_or (λ (def : TypeDef). is_resource_kind def.kind) (slice_get types t) false

-- is type t a resource, or does it lead to one by aliases?
abbrev pub leads_to_resource : List TypeDef → ℕ → Bool
leads_to_resource types t = list_any (is_resource types) (post_order (alias_rows types) t)

-- is a part of this role of values?
abbrev pub is_value : PartRole → Bool
is_value Value = true
is_value _ = false

-- the unnamed `own` of a type
abbrev pub own_of : ℕ → TypeDef
own_of t = new_type None (kind.Handle (Own t)) owner.None
