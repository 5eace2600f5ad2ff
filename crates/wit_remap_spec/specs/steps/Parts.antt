-- Parts of the definitions under names of their own, for contracts of inner functions and for proofs. Each is what stands
-- in a definition in its place, so none has to be believed.
use Rattle.std.specs.Prelude.{option_map, ℕ, List, ◌++◌, codes, ◌+◌, map, filter, length, if◌then◌else◌, ◌≡◌, flat_map, option_to_list, nat_eq, Some}
use Rattle.wit_data.specs.Kind.{map_handle, map_kind, map_type, referred_in, KindPart, kind_parts}
use Rattle.wit_sources.specs.Span.{moved_by, OptionalSpan}
use Rattle.wit_data.specs.declared.types.Case.{Case}
use Rattle.wit_data.specs.declared.types.EnumCase.{EnumCase}
use Rattle.wit_data.specs.declared.types.Field.{Field}
use Rattle.wit_data.specs.declared.types.Flag.{Flag}
use Rattle.wit_data.specs.declared.types.Handle.{Handle}
use Rattle.wit_data.specs.declared.function.Param.{Param}
use Rattle.wit_data.specs.declared.types.TypeDefKind.{TypeDefKind}
use Rattle.wit_data.specs.declared.types.Type_.{Type_}
use Rattle.wit_remap_spec.specs.Image.{Maps, role_remap, map_function_kind, type_image}
use Rattle.wit_data.specs.declared.function.FunctionKind.{FunctionKind}
use Rattle.wit_remap_spec.specs.Resources.{is_value, own_of}
use Rattle.std.specs.List.{range_with_len}
use Rattle.wit_data.specs.declared.types.TypeDef.{TypeDef}
use Rattle.wit_remap_spec.specs.Selected.{rank}
use Rattle.wit_remap_spec.specs.ValueRemap.{ValueRemap, needs_own}
use Rattle.wit_data.specs.Each.{SomeAt}
use Rattle.wit_data.specs.declared.types.Handle.TheVariants.{Borrow}
use Rattle.wit_data.specs.declared.types.TypeDefKind.TheVariants as kind

-- a type at a value position
abbrev pub value_image : Maps → Type_ → Type_
value_image m = map_type m.values

-- a type that an alias names
abbrev pub target_image : Maps → Type_ → Type_
target_image m = map_type m.types

abbrev pub field_image : Maps → Field → Field
field_image m f = record f { ty = value_image m f.ty; span = moved_by m.offset f.span }

abbrev pub case_image : Maps → Case → Case
case_image m c = record c { ty = option_map (value_image m) c.ty; span = moved_by m.offset c.span }

abbrev pub flag_image : Maps → Flag → Flag
flag_image m flag = record flag { span = moved_by m.offset flag.span }

abbrev pub enum_case_image : Maps → EnumCase → EnumCase
enum_case_image m case = record case { span = moved_by m.offset case.span }

abbrev pub handle_image : Maps → Handle → Handle
handle_image m = map_handle m.types

-- a kind: the ids of its parts go by their roles
abbrev pub kind_image : Maps → TypeDefKind → TypeDefKind
kind_image m = map_kind (role_remap m) (moved_by m.offset)

abbrev pub param_image : Maps → Param → Param
param_image m param =
    record param { ty = value_image m param.ty; span = moved_by m.offset param.span }

-- the kind of a function under maps
abbrev pub function_kind_image : Maps → FunctionKind → FunctionKind
function_kind_image m kind = map_function_kind m.types kind

-- everything stays
abbrev pub identity : Maps
identity = record {
  types = λ t. t;
  values = λ t. t;
  interfaces = λ i. i;
  worlds = λ w. w;
  home = λ p. p;
  labels = λ w name. name;
  offset = 0;
}

-- all types in one place, so that which one is named makes no difference
abbrev pub one_place : Maps
one_place = record identity { types = λ t. 0; values = λ t. 0 }

-- parameters in one place have different names
abbrev pub parameter_names_text : List ℕ → List ℕ → List ℕ
parameter_names_text a b =
    codes "different function parameter names: " ++ (a ++ (codes " != " ++ b))

-- or types of different sorts
abbrev pub parameter_types_text : List ℕ → List ℕ
parameter_types_text name =
    codes "different function parameter types for `"
    ++ (name ++ codes "`: different kinds of types")

-- a function with what it disagrees in
abbrev pub function_mismatch_text : List ℕ → List ℕ → List ℕ
function_mismatch_text name text = codes "mismatch in function `" ++ (name ++ (codes "`: " ++ text))

-- the types at the value positions of a kind: all that it names, but not what an alias or a handle names
abbrev pub value_positions : TypeDefKind → List ℕ
value_positions k = referred_in is_value k

-- the types of the graph and those that come, before values ask for `own`s: which of them lead to resources is seen
-- here already
abbrev pub types_without_owns : ValueRemap → List TypeDef
types_without_owns r = r.graph_types ++ map (type_image r.ids) r.new_types

-- what a type is remapped to at a value position: to its `own` where it needs one
abbrev pub value_id : ValueRemap → ℕ → ℕ
value_id r t =
    if needs_own r t then length r.graph_types + length r.new_types + rank (needs_own r) t
    else r.ids.types t

-- the `own`s
abbrev pub owns : ValueRemap → List TypeDef
owns r = map (λ t. own_of (r.ids.types t)) (filter (needs_own r) (range_with_len 0 r.count))

-- type t is a borrow
abbrev pub IsBorrow : List TypeDef → ℕ → Type 0
IsBorrow types t = SomeAt types t (λ (def : TypeDef). (r : ℕ) × (def.kind ≡ kind.Handle (Borrow r)))

-- those of the fields, cases and flags of a kind
abbrev pub kind_spans : TypeDefKind → List OptionalSpan
kind_spans k = flat_map (λ (p : KindPart). option_to_list p.span) (kind_parts k)

-- the maps of an include of world `from` into world `into` of package `home`: copies for what is copied,
-- plain values (no `own` is made), labels renamed
abbrev pub include_maps : (ℕ → ℕ) → (ℕ → ℕ) → (List ℕ → List ℕ) → ℕ → ℕ → ℕ → Maps
include_maps types interfaces renamed from into home = record {
  types = types;
  values = types;
  interfaces = interfaces;
  worlds = λ w. if nat_eq w from then into else w;
  home = λ p. Some home;
  labels = λ w name. if nat_eq w from then renamed name else name;
  offset = 0;
}
