-- The image of data under maps of ids: the same data, with its ids mapped and its spans moved. All are
-- functions, of total maps: an id that isn't selected goes anywhere, and nothing is said of it.
-- Source: `update_typedef`, `update_ty`, `update_interface`, `update_function` and `update_world` of
-- wit-parser 0.263.0.
use Rattle.std.specs.Prelude.{ℕ, List, [], map, Option, option_map}
use Rattle.wit_data.specs.Entries.{Entry}
use Rattle.wit_data.specs.Kind.{map_kind, map_type}
use Rattle.wit_sources.specs.Span.{moved_by}
use Rattle.wit_data.specs.declared.function.Function.{Function}
use Rattle.wit_data.specs.declared.function.FunctionKind.{FunctionKind}
use Rattle.wit_data.specs.declared.interface.Interface.{Interface}
use Rattle.wit_data.specs.declared.function.Param.{Param}
use Rattle.wit_data.specs.declared.kind.PartRole.{PartRole}
use Rattle.wit_data.specs.declared.types.TypeDef.{TypeDef}
use Rattle.wit_data.specs.declared.types.TypeOwner.{TypeOwner}
use Rattle.wit_data.specs.declared.world.World.{World}
use Rattle.wit_data.specs.declared.world.WorldItem.{WorldItem}
use Rattle.wit_data.specs.declared.world.WorldKey.{WorldKey}
use Rattle.wit_data.specs.declared.function.FunctionKind.TheVariants.{Freestanding, AsyncFreestanding, Method, AsyncMethod, Static, AsyncStatic, Constructor, Getter, Setter, MethodGetter, MethodSetter, StaticGetter, StaticSetter}
use Rattle.wit_data.specs.declared.kind.PartRole.TheVariants.{Value}
use Rattle.wit_data.specs.declared.types.TypeOwner.TheVariants as owner
use Rattle.wit_data.specs.declared.world.WorldItem.TheVariants as item
use Rattle.wit_data.specs.declared.world.WorldKey.TheVariants as key

-- what ids are remapped to, what a world's labels become, and how far spans move
pub record Maps : Type 0 where
  pub types : ℕ → ℕ
  -- what a type is remapped to at a value position: to its image, or to an unnamed `own` of it
  pub values : ℕ → ℕ
  pub interfaces : ℕ → ℕ
  pub worlds : ℕ → ℕ
  -- the package that things of a package come to be of
  pub home : Option ℕ → Option ℕ
  -- the label that a label of a world becomes
  pub labels : ℕ → List ℕ → List ℕ
  pub offset : ℕ

-- ---- types

-- where the types go that parts of a role name: those of values as values go, those of aliases and handles to their images
abbrev pub role_remap : Maps → PartRole → ℕ → ℕ
role_remap m Value = m.values
role_remap m _ = m.types

abbrev pub owner_image : Maps → TypeOwner → TypeOwner
owner_image m (owner.World w) = owner.World (m.worlds w)
owner_image m (owner.Interface i) = owner.Interface (m.interfaces i)
owner_image m owner.None = owner.None

-- a type of a world has the label as its name
abbrev pub name_image : Maps → TypeOwner → List ℕ → List ℕ
name_image m (owner.World w) name = m.labels w name
name_image m (owner.Interface i) name = name
name_image m owner.None name = name

-- a type: the ids of its kind's parts go by their roles
abbrev pub type_image : Maps → TypeDef → TypeDef
type_image m def = record def {
  name = option_map (name_image m def.owner) def.name;
  kind = map_kind (role_remap m) (moved_by m.offset) def.kind;
  owner = owner_image m def.owner;
  span = moved_by m.offset def.span;
}

-- ---- functions and interfaces

-- the kind of a function with the id of its resource mapped
abbrev pub map_function_kind : (ℕ → ℕ) → FunctionKind → FunctionKind
map_function_kind go Freestanding = Freestanding
map_function_kind go AsyncFreestanding = AsyncFreestanding
map_function_kind go (Method r) = Method (go r)
map_function_kind go (AsyncMethod r) = AsyncMethod (go r)
map_function_kind go (Static r) = Static (go r)
map_function_kind go (AsyncStatic r) = AsyncStatic (go r)
map_function_kind go (Constructor r) = Constructor (go r)
map_function_kind go Getter = Getter
map_function_kind go Setter = Setter
map_function_kind go (MethodGetter r) = MethodGetter (go r)
map_function_kind go (MethodSetter r) = MethodSetter (go r)
map_function_kind go (StaticGetter r) = StaticGetter (go r)
map_function_kind go (StaticSetter r) = StaticSetter (go r)

-- a function: the types of its parameters and of its result go as values go
abbrev pub function_image : Maps → Function → Function
function_image m f = record f {
  kind = map_function_kind m.types f.kind;
  params =
      map (λ (p : Param). record p { ty = map_type m.values p.ty; span = moved_by m.offset p.span })
      f.params;
  result_ = option_map (map_type m.values) f.result_;
  span = moved_by m.offset f.span;
}

abbrev pub interface_image : Maps → Interface → Interface
interface_image m interface = record interface {
  types = map (λ (e : List ℕ × ℕ). (e.0, m.types e.1)) interface.types;
  functions = map (λ (e : List ℕ × Function). (e.0, function_image m e.1)) interface.functions;
  «package» = m.home interface.package;
  span = moved_by m.offset interface.span;
}

-- ---- worlds

abbrev pub key_image : Maps → ℕ → WorldKey → WorldKey
key_image m w (key.Name label) = key.Name (m.labels w label)
key_image m w (key.Interface i) = key.Interface (m.interfaces i)

-- a function under a label has the label as its name
abbrev pub item_image : Maps → ℕ → WorldItem → WorldItem
item_image m w (item.Interface i stability docs span external_id) =
    item.Interface (m.interfaces i) stability docs (moved_by m.offset span) external_id
item_image m w (item.Function f) =
    item.Function (record (function_image m f) { name = m.labels w f.name })
item_image m w (item.Type_ t span) = item.Type_ (m.types t) (moved_by m.offset span)

abbrev pub entry_image : Maps → ℕ → Entry → Entry
entry_image m w e = (key_image m w e.0, item_image m w e.1)

abbrev pub world_image : Maps → ℕ → World → World
world_image m w world = record world {
  imports = map (entry_image m w) world.imports;
  exports = map (entry_image m w) world.exports;
  «package» = m.home world.package;
  includes = [];
  span = moved_by m.offset world.span;
}

-- ---- includes
