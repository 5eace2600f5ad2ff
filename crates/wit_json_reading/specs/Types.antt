-- What types are read from: the values that wit_json writes of them, with spans and external ids as members of their own.
use Rattle.std.specs.Prelude.{ℕ, List, [], ◌∷◌, Option, None, Ok, Err, codes, if◌then◌else◌, bytes_eq, Some, Result}
use Rattle.json.specs.Json.{Json}
use Rattle.json.specs.Json as json
use Rattle.wit_data.specs.declared.types.Case.{Case}
use Rattle.wit_data.specs.declared.types.EnumCase.{EnumCase}
use Rattle.wit_data.specs.declared.types.Field.{Field}
use Rattle.wit_data.specs.declared.types.Flag.{Flag}
use Rattle.wit_data.specs.declared.types.Handle.{Handle}
use Rattle.wit_data.specs.declared.types.Handle.TheVariants.{Own, Borrow}
use Rattle.wit_data.specs.declared.types.TypeDef.{TypeDef}
use Rattle.wit_data.specs.declared.types.TypeDefKind.{TypeDefKind}
use Rattle.wit_data.specs.declared.types.TypeDefKind.TheVariants as kind
use Rattle.wit_data.specs.declared.types.TypeOwner.{TypeOwner}
use Rattle.wit_data.specs.declared.types.TypeOwner.TheVariants as owner
use Rattle.wit_data.specs.declared.types.Type_.{Type_}
use Rattle.wit_data.specs.declared.types.Type_.TheVariants as type
use Rattle.wit_json_reading.specs.Gates.{read_docs, read_span, read_stability}
use Rattle.wit_json_reading.specs.Objects.{alone, read_pair, read_variant}
use Rattle.wit_json_reading.specs.Reading.{Reading, ◌>>=◌, instead_of, read_list, only, read_optional, read_required}
use Rattle.wit_json_reading.specs.Values.{nullable, read_number, read_small_number, read_text}
use Rattle.wit_json_reading.specs.declared.fault.Expected.TheVariants as expected

abbrev pub by_id : Reading ℕ → Reading Type_
by_id (Ok id) = Ok (type.Id id)
by_id (Err fault) = instead_of expected.Type

-- a primitive by its name, or a type by its id
unfoldable pub read_type : Json → Reading Type_
read_type (json.string word) =
    if bytes_eq word (codes "bool") then Ok type.Bool
    else if bytes_eq word (codes "u8") then Ok type.U8
    else if bytes_eq word (codes "u16") then Ok type.U16
    else if bytes_eq word (codes "u32") then Ok type.U32
    else if bytes_eq word (codes "u64") then Ok type.U64
    else if bytes_eq word (codes "s8") then Ok type.S8
    else if bytes_eq word (codes "s16") then Ok type.S16
    else if bytes_eq word (codes "s32") then Ok type.S32
    else if bytes_eq word (codes "s64") then Ok type.S64
    else if bytes_eq word (codes "f32") then Ok type.F32
    else if bytes_eq word (codes "f64") then Ok type.F64
    else if bytes_eq word (codes "char") then Ok type.Char
    else if bytes_eq word (codes "string") then Ok type.String
    else if bytes_eq word (codes "error-context") then Ok type.ErrorContext
    else instead_of expected.Type
read_type j = by_id (read_number j)

unfoldable pub read_field : Json → Reading Field
read_field j = do
  _ ← only (codes "name" ∷ codes "type" ∷ codes "docs" ∷ codes "span" ∷ []) j
  name ← read_required read_text (codes "name") j
  ty ← read_required read_type (codes "type") j
  docs ← read_docs j
  span ← read_span j
  Ok (record { name = name; ty = ty; docs = docs; span = span })

unfoldable pub read_case : Json → Reading Case
read_case j = do
  _ ← only (codes "name" ∷ codes "type" ∷ codes "docs" ∷ codes "span" ∷ []) j
  name ← read_required read_text (codes "name") j
  ty ← read_required (nullable read_type) (codes "type") j
  docs ← read_docs j
  span ← read_span j
  Ok (record { name = name; ty = ty; docs = docs; span = span })

unfoldable pub read_flag : Json → Reading Flag
read_flag j = do
  _ ← only (codes "name" ∷ codes "docs" ∷ codes "span" ∷ []) j
  name ← read_required read_text (codes "name") j
  docs ← read_docs j
  span ← read_span j
  Ok (record { name = name; docs = docs; span = span })

unfoldable pub read_enum_case : Json → Reading EnumCase
read_enum_case j = do
  _ ← only (codes "name" ∷ codes "docs" ∷ codes "span" ∷ []) j
  name ← read_required read_text (codes "name") j
  docs ← read_docs j
  span ← read_span j
  Ok (record { name = name; docs = docs; span = span })

abbrev pub read_handle_by : List ℕ → Json → Reading Handle
read_handle_by name j =
    if bytes_eq name (codes "own") then (read_number j >>= λ id. Ok (Own id))
    else if bytes_eq name (codes "borrow") then (read_number j >>= λ id. Ok (Borrow id))
    else instead_of expected.Handle

-- who owns a type: nobody, an interface or a world
abbrev pub read_owner_by : List ℕ → Json → Reading TypeOwner
read_owner_by name j =
    if bytes_eq name (codes "interface") then (read_number j >>= λ id. Ok (owner.Interface id))
    else if bytes_eq name (codes "world") then (read_number j >>= λ id. Ok (owner.World id))
    else instead_of expected.Owner

unfoldable pub read_owner : Json → Reading TypeOwner
read_owner json.null = Ok owner.None
read_owner j = read_variant read_owner_by expected.Owner j

-- what a result has where it is well, and where it isn't
unfoldable pub read_result : Json → Reading TypeDefKind
read_result j = do
  _ ← only (codes "ok" ∷ codes "err" ∷ []) j
  ok ← read_required (nullable read_type) (codes "ok") j
  err ← read_required (nullable read_type) (codes "err") j
  Ok (kind.Result_ ok err)

-- a kind with parts
unfoldable pub read_kind_by : List ℕ → Json → Reading TypeDefKind
read_kind_by name j =
    if bytes_eq name (codes "record")
    then (alone (read_list read_field) (codes "fields") j >>= λ fields. Ok (kind.Record fields))
    else if bytes_eq name (codes "handle")
    then (read_variant read_handle_by expected.Handle j >>= λ handle. Ok (kind.Handle handle))
    else if bytes_eq name (codes "flags")
    then (alone (read_list read_flag) (codes "flags") j >>= λ flags. Ok (kind.Flags flags))
    else if bytes_eq name (codes "tuple")
    then (alone (read_list read_type) (codes "types") j >>= λ types. Ok (kind.Tuple types))
    else if bytes_eq name (codes "variant")
    then (alone (read_list read_case) (codes "cases") j >>= λ cases. Ok (kind.Variant cases))
    else if bytes_eq name (codes "enum")
    then (alone (read_list read_enum_case) (codes "cases") j >>= λ cases. Ok (kind.Enum cases))
    else if bytes_eq name (codes "option") then (read_type j >>= λ ty. Ok (kind.Option ty))
    else if bytes_eq name (codes "result") then read_result j
    else if bytes_eq name (codes "list") then (read_type j >>= λ ty. Ok (kind.List ty))
    else if bytes_eq name (codes "map")
    then (read_pair read_type read_type j >>= λ parts. Ok (kind.Map parts.0 parts.1))
    else if bytes_eq name (codes "fixed-length-list")
    then (read_pair read_type read_small_number j
    >>= λ parts. Ok (kind.FixedLengthList parts.0 parts.1))
    else if bytes_eq name (codes "future") then (nullable read_type j >>= λ ty. Ok (kind.Future ty))
    else if bytes_eq name (codes "stream") then (nullable read_type j >>= λ ty. Ok (kind.Stream ty))
    else if bytes_eq name (codes "type") then (read_type j >>= λ ty. Ok (kind.Type_ ty))
    else instead_of expected.TypeKind

-- what a type is: a word, or a word with its parts
unfoldable pub read_kind : Json → Reading TypeDefKind
read_kind (json.string word) =
    if bytes_eq word (codes "resource") then Ok kind.Resource
    else if bytes_eq word (codes "unknown") then Ok kind.Unknown
    else instead_of expected.TypeKind
read_kind j = read_variant read_kind_by expected.TypeKind j

unfoldable pub read_type_def : Json → Reading TypeDef
read_type_def j = do
  _ ← only (codes "name" ∷ codes "kind" ∷ codes "owner" ∷ codes "docs" ∷ codes "stability"
      ∷ codes "span" ∷ codes "external-id" ∷ []) j
  name ← read_required (nullable read_text) (codes "name") j
  kind ← read_required read_kind (codes "kind") j
  owner ← read_required read_owner (codes "owner") j
  docs ← read_docs j
  stability ← read_stability j
  span ← read_span j
  external_id ← read_optional read_text (codes "external-id") j
  Ok (record {
    name = name;
    kind = kind;
    owner = owner;
    docs = docs;
    stability = stability;
    span = span;
    external_id = external_id;
  })
