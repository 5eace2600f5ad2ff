-- Where values become an `own`: of the types and functions that come into a graph, by an addition or a merge, each value
-- whose type leads to a resource is written as an unnamed `own` of it. Each type of which a value asks for an `own` has
-- one. The `own`s stand behind the types that come, in the order of the types that they are of.
-- Source: `update_ty` of wit-parser 0.263.0.
use Rattle.std.specs.Prelude.{ℕ, ◌+◌, ◌&&◌, Bool, List, [], ◌∷◌, ◌++◌, map, filter, length, nat_eq, if◌then◌else◌, flat_map}
use Rattle.std.specs.List.{list_any, range_with_len}
use Rattle.wit_data.specs.Entries.{Entry}
use Rattle.wit_data.specs.declared.function.Function.{Function}
use Rattle.wit_data.specs.declared.types.TypeDef.{TypeDef}
use Rattle.wit_data.specs.declared.world.World.{World}
use Rattle.wit_data.specs.declared.world.WorldItem.{WorldItem}
use Rattle.wit_data.specs.declared.world.WorldItem.TheVariants as item
use Rattle.wit_remap_spec.specs.Image.{Maps, type_image}
use Rattle.wit_remap_spec.specs.Resources.{leads_to_resource, own_of, is_value}
use Rattle.wit_remap_spec.specs.Selected.{rank}
use Rattle.wit_data.specs.Kind.{signature_types, referred_in}

-- what comes into a graph
pub record ValueRemap : Type 0 where
  -- the types of the graph
  pub graph_types : List TypeDef
  -- the types that come behind these, in their order
  pub new_types : List TypeDef
  -- the functions that come
  pub new_functions : List Function
  -- how many types there are where all this comes from
  pub count : ℕ
  -- what ids are remapped to, before values ask for `own`s
  pub ids : Maps

-- ---- functions that come with worlds

-- the function that an item is
abbrev pub item_function : WorldItem → List Function
item_function (item.Interface i stability docs span external_id) = []
item_function (item.Function f) = f ∷ []
item_function (item.Type_ t span) = []

-- the functions among the entries of a world
abbrev pub world_functions : World → List Function
world_functions world = flat_map (λ (e : Entry). item_function e.1) (world.imports ++ world.exports)

-- ---- which types need an `own`

-- the types at the value positions of what comes: all that kinds name, but not what an alias or a handle names, and those
-- of parameters and results
abbrev pub positions : ValueRemap → List ℕ
positions r =
    flat_map (λ (def : TypeDef). referred_in is_value def.kind) r.new_types
    ++ flat_map signature_types r.new_functions

-- does a value ask for an `own` of type t? Which types lead to resources is seen before values ask for `own`s
abbrev pub needs_own : ValueRemap → ℕ → Bool
needs_own r t =
    list_any (nat_eq t) (positions r)
    && leads_to_resource (r.graph_types ++ map (type_image r.ids) r.new_types) (r.ids.types t)

-- ---- what comes of it

-- what ids are remapped to; at a value position a type that needs an `own` to that
abbrev pub maps_with_owns : ValueRemap → Maps
maps_with_owns r = record r.ids {
  values =
      λ t.
      if needs_own r t then length r.graph_types + length r.new_types + rank (needs_own r) t
      else r.ids.types t;
}

-- what stands behind the types of the graph: the types that come, then the `own`s
abbrev pub types_behind : ValueRemap → List TypeDef
types_behind r =
    map (type_image (maps_with_owns r)) r.new_types
    ++ map (λ t. own_of (r.ids.types t)) (filter (needs_own r) (range_with_len 0 r.count))
