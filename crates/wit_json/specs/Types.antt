-- Types as JSON.
use Rattle.std.specs.Prelude.{◌++◌, Option, codes}
use Rattle.json.specs.Json.{Json}
use Rattle.json.specs.Json as json
use Rattle.wit_data.specs.declared.types.Case.{Case}
use Rattle.wit_data.specs.declared.types.EnumCase.{EnumCase}
use Rattle.wit_data.specs.declared.types.Field.{Field}
use Rattle.wit_data.specs.declared.types.Flag.{Flag}
use Rattle.wit_data.specs.declared.types.Handle.{Handle}
use Rattle.wit_data.specs.declared.types.Handle.TheVariants.{Own, Borrow}
use Rattle.wit_data.specs.declared.types.TypeDef.{TypeDef}
use Rattle.wit_data.specs.declared.types.TypeDefKind.{TypeDefKind}
use Rattle.wit_data.specs.declared.types.TypeDefKind.TheVariants as kind
use Rattle.wit_data.specs.declared.types.TypeOwner.{TypeOwner}
use Rattle.wit_data.specs.declared.types.TypeOwner.TheVariants as owner
use Rattle.wit_data.specs.declared.types.Type_.{Type_}
use Rattle.wit_data.specs.declared.types.Type_.TheVariants as type
use Rattle.wit_json.specs.Gates.{docs_member, stability_member}
use Rattle.wit_json.specs.Values.{json_of_number, json_of_text, list_of, member, null_or, object, pair, tagged}

-- what a value is of: a primitive by its name, or a type by its id
abbrev pub json_of_type : Type_ → Json
json_of_type type.Bool = json_of_text (codes "bool")
json_of_type type.U8 = json_of_text (codes "u8")
json_of_type type.U16 = json_of_text (codes "u16")
json_of_type type.U32 = json_of_text (codes "u32")
json_of_type type.U64 = json_of_text (codes "u64")
json_of_type type.S8 = json_of_text (codes "s8")
json_of_type type.S16 = json_of_text (codes "s16")
json_of_type type.S32 = json_of_text (codes "s32")
json_of_type type.S64 = json_of_text (codes "s64")
json_of_type type.F32 = json_of_text (codes "f32")
json_of_type type.F64 = json_of_text (codes "f64")
json_of_type type.Char = json_of_text (codes "char")
json_of_type type.String = json_of_text (codes "string")
json_of_type type.ErrorContext = json_of_text (codes "error-context")
json_of_type (type.Id id) = json_of_number id

abbrev pub json_of_field : Field → Json
json_of_field f =
    object (member (codes "name") (json_of_text f.name) ++ member (codes "type") (json_of_type f.ty)
    ++ docs_member f.docs)

abbrev pub json_of_case : Case → Json
json_of_case c =
    object (member (codes "name") (json_of_text c.name)
    ++ member (codes "type") (null_or json_of_type c.ty) ++ docs_member c.docs)

abbrev pub json_of_flag : Flag → Json
json_of_flag f = object (member (codes "name") (json_of_text f.name) ++ docs_member f.docs)

abbrev pub json_of_enum_case : EnumCase → Json
json_of_enum_case c = object (member (codes "name") (json_of_text c.name) ++ docs_member c.docs)

abbrev pub json_of_handle : Handle → Json
json_of_handle (Own id) = tagged (codes "own") (json_of_number id)
json_of_handle (Borrow id) = tagged (codes "borrow") (json_of_number id)

-- what a result has where it is well, and where it isn't
abbrev pub json_of_result : Option Type_ → Option Type_ → Json
json_of_result ok err =
    object (member (codes "ok") (null_or json_of_type ok)
    ++ member (codes "err") (null_or json_of_type err))

-- what a type is: a word, or a word with its parts
abbrev pub json_of_kind : TypeDefKind → Json
json_of_kind (kind.Record fields) =
    tagged (codes "record") (tagged (codes "fields") (list_of json_of_field fields))
json_of_kind kind.Resource = json_of_text (codes "resource")
json_of_kind (kind.Handle handle) = tagged (codes "handle") (json_of_handle handle)
json_of_kind (kind.Flags flags) =
    tagged (codes "flags") (tagged (codes "flags") (list_of json_of_flag flags))
json_of_kind (kind.Tuple types) =
    tagged (codes "tuple") (tagged (codes "types") (list_of json_of_type types))
json_of_kind (kind.Variant cases) =
    tagged (codes "variant") (tagged (codes "cases") (list_of json_of_case cases))
json_of_kind (kind.Enum cases) =
    tagged (codes "enum") (tagged (codes "cases") (list_of json_of_enum_case cases))
json_of_kind (kind.Option ty) = tagged (codes "option") (json_of_type ty)
json_of_kind (kind.Result_ ok err) = tagged (codes "result") (json_of_result ok err)
json_of_kind (kind.List ty) = tagged (codes "list") (json_of_type ty)
json_of_kind (kind.Map key value) =
    tagged (codes "map") (pair (json_of_type key) (json_of_type value))
json_of_kind (kind.FixedLengthList ty len) =
    tagged (codes "fixed-length-list") (pair (json_of_type ty) (json_of_number len))
json_of_kind (kind.Future ty) = tagged (codes "future") (null_or json_of_type ty)
json_of_kind (kind.Stream ty) = tagged (codes "stream") (null_or json_of_type ty)
json_of_kind (kind.Type_ ty) = tagged (codes "type") (json_of_type ty)
json_of_kind kind.Unknown = json_of_text (codes "unknown")

-- who owns a type
abbrev pub json_of_owner : TypeOwner → Json
json_of_owner (owner.World id) = tagged (codes "world") (json_of_number id)
json_of_owner (owner.Interface id) = tagged (codes "interface") (json_of_number id)
json_of_owner owner.None = json.null

abbrev pub json_of_type_def : TypeDef → Json
json_of_type_def def =
    object (member (codes "name") (null_or json_of_text def.name) ++ member (codes "kind")
    (json_of_kind def.kind) ++ member (codes "owner") (json_of_owner def.owner)
    ++ docs_member def.docs ++ stability_member def.stability)
