-- The spans of types, interfaces and worlds.
use Rattle.std.specs.Prelude.{ℕ, List, ◌∷◌, [], ◌++◌, flat_map, map, option_to_list}
use Rattle.wit_sources.specs.Span.{OptionalSpan}
use Rattle.wit_data.specs.Entries.{Entry}
use Rattle.wit_data.specs.Kind.{KindPart, kind_parts}
use Rattle.wit_data.specs.declared.function.Function.{Function}
use Rattle.wit_data.specs.declared.function.Param.{Param}
use Rattle.wit_data.specs.declared.interface.Interface.{Interface}
use Rattle.wit_data.specs.declared.types.TypeDef.{TypeDef}
use Rattle.wit_data.specs.declared.world.World.{World}
use Rattle.wit_data.specs.declared.world.WorldInclude.{WorldInclude}
use Rattle.wit_data.specs.declared.world.WorldItem.{WorldItem}
use Rattle.wit_data.specs.declared.world.WorldItem.TheVariants as item

-- those of a type and of its fields, cases and flags
abbrev pub type_spans : TypeDef → List OptionalSpan
type_spans def = def.span ∷ flat_map (λ (p : KindPart). option_to_list p.span) (kind_parts def.kind)

-- those of a function and of its parameters
abbrev pub function_spans : Function → List OptionalSpan
function_spans f = f.span ∷ map (λ (p : Param). p.span) f.params

-- those of an interface and of its functions
abbrev pub interface_spans : Interface → List OptionalSpan
interface_spans interface =
    interface.span ∷ flat_map (λ (e : List ℕ × Function). function_spans e.1) interface.functions

-- those of an entry of a world
abbrev pub item_spans : WorldItem → List OptionalSpan
item_spans (item.Interface id stability docs span external_id) = span ∷ []
item_spans (item.Function function) = function_spans function
item_spans (item.Type_ id span) = span ∷ []

-- those of a world, of its entries and of its includes
abbrev pub world_spans : World → List OptionalSpan
world_spans world =
    world.span
    ∷ (flat_map (λ (e : Entry). item_spans e.1) world.imports
    ++ (flat_map (λ (e : Entry). item_spans e.1) world.exports
    ++ map (λ (i : WorldInclude). i.span) world.includes))
