-- Which type of a graph refers to which, each as refusals tell it. Indices count from 0.
use Rattle.std.specs.Prelude.{ℕ, List, [], ◌++◌, length, map, flat_map, slice_get, Option, None, Some, option_and_then, option_map, unwrap_or, codes, decimal}
use Rattle.std.specs.List.{range_with_len}
use Rattle.std.specs.Option.{option_map_or}
use Rattle.wit_data.specs.Kind.{referred}
use Rattle.wit_data.specs.declared.interface.Interface.{Interface}
use Rattle.wit_data.specs.declared.types.TypeDef.{TypeDef}
use Rattle.wit_data.specs.declared.types.TypeOwner.{TypeOwner}
use Rattle.wit_data.specs.declared.types.TypeOwner.TheVariants as owner
use Rattle.wit_graph_data.specs.declared.graph.Graph.{Graph}
use Rattle.wit_ways.specs.Arrows.{home_of, item_text}
use Rattle.wit_ways.specs.declared.arrow.Arrow.{Arrow}

-- a type of interface i: `namespace:package/interface.type`, and `@version` where there is one
abbrev pub member_text : Graph → List ℕ → ℕ → Option (List ℕ)
member_text g name i =
    option_and_then (λ (x : Interface).
    option_and_then (λ own.
    option_map (λ home. item_text home (own ++ (codes "." ++ name)))
    (home_of g.packages x.package)) x.name)
    (slice_get g.interfaces i)

-- a type of this owner and name
abbrev pub named_text : Graph → TypeOwner → Option (List ℕ) → Option (List ℕ)
named_text g (owner.Interface i) (Some name) = member_text g name i
named_text g _ _ = None

-- a type: by its name in its interface, or else by its number
abbrev pub type_text : Graph → ℕ → List ℕ
type_text g id =
    unwrap_or
    (option_and_then (λ (def : TypeDef). named_text g def.owner def.name) (slice_get g.types id))
    (codes "type " ++ decimal id)

-- that type id refers to type s, where it stands
abbrev pub reference_to : Graph → ℕ → TypeDef → ℕ → Arrow
reference_to g id def s = record { from = type_text g id; to = type_text g s; span = def.span }

-- what a type refers to
abbrev pub references_of : Graph → ℕ → List Arrow
references_of g id =
    option_map_or (λ (def : TypeDef). map (reference_to g id def) (referred def.kind))
    (slice_get g.types id) []

-- which type of a graph refers to which
abbrev pub type_arrows : Graph → List Arrow
type_arrows g = flat_map (references_of g) (range_with_len 0 (length g.types))
