-- Types of each kind.
use Rattle.std.specs.Prelude.{◌≡◌, ◌≢◌, ℕ, List, [], ◌∷◌, ◌++◌, Some, None, codes}
use Rattle.wit_data.specs.New.{new_type}
use Rattle.wit_data.specs.declared.types.Case.{Case}
use Rattle.wit_data.specs.declared.types.EnumCase.{EnumCase}
use Rattle.wit_data.specs.declared.types.Field.{Field}
use Rattle.wit_data.specs.declared.types.Flag.{Flag}
use Rattle.wit_data.specs.declared.types.Handle.TheVariants.{Borrow, Own}
use Rattle.wit_data.specs.declared.types.Type_.{Type_}
use Rattle.wit_data.specs.declared.types.TypeDefKind.{TypeDefKind}
use Rattle.wit_data.specs.declared.types.TypeDefKind.TheVariants as kind
use Rattle.wit_data.specs.declared.types.TypeOwner.TheVariants as owner
use Rattle.wit_data.specs.declared.types.Type_.TheVariants as type
use Rattle.wit_json.specs.Graph.{compact}
use Rattle.wit_json.specs.Types.{json_of_kind, json_of_owner, json_of_type, json_of_type_def}
use Rattle.examples_json.specs.values.Gates.{docs_of}

abbrev pub type_text : Type_ → List ℕ
type_text ty = compact (json_of_type ty)

abbrev pub kind_text : TypeDefKind → List ℕ
kind_text k = compact (json_of_kind k)

pub record ExamplesOfTypes : Type 0 where
  -- primitives by their names in WIT, each its own
  pub word : type_text type.Bool ≡ codes "\"bool\""
  pub not_type : type_text type.Bool ≢ codes "{\"type\":\"bool\"}"
  pub unsigned : type_text type.U16 ≡ codes "\"u16\""
  pub signed : type_text type.S16 ≡ codes "\"s16\""
  pub not_unsigned : type_text type.S16 ≢ codes "\"u16\""
  pub float : type_text type.F64 ≡ codes "\"f64\""
  pub context : type_text type.ErrorContext ≡ codes "\"error-context\""
  pub not_joined : type_text type.ErrorContext ≢ codes "\"error_context\""
  -- another type by its id, a number
  pub id : type_text (type.Id 12) ≡ codes "12"
  pub not_next : type_text (type.Id 12) ≢ codes "13"
  pub not_text : type_text (type.Id 12) ≢ codes "\"12\""
  -- owners
  pub of_interface : compact (json_of_owner (owner.Interface 3)) ≡ codes "{\"interface\":3}"
  pub not_of_world : compact (json_of_owner (owner.Interface 3)) ≢ codes "{\"world\":3}"
  pub of_world : compact (json_of_owner (owner.World 0)) ≡ codes "{\"world\":0}"
  pub of_nobody : compact (json_of_owner owner.None) ≡ codes "null"
  -- a whole type; one without a name has null there
  pub named : compact
      (json_of_type_def (new_type (Some (codes "t")) (kind.Type_ type.U8) (owner.Interface 1)))
      ≡ codes "{\"name\":\"t\",\"kind\":{\"type\":\"u8\"},\"owner\":{\"interface\":1}}"
  pub not_nameless : compact
      (json_of_type_def (new_type (Some (codes "t")) (kind.Type_ type.U8) (owner.Interface 1)))
      ≢ codes "{\"kind\":{\"type\":\"u8\"},\"owner\":{\"interface\":1}}"
  pub unnamed : compact (json_of_type_def (new_type None kind.Resource owner.None))
      ≡ codes "{\"name\":null,\"kind\":\"resource\",\"owner\":null}"

abbrev pub a_field : Field
a_field =
    record { name = codes "x"; ty = type.U32; docs = docs_of (Some (codes "X.")); span = None }

abbrev pub a_flag : Flag
a_flag = record { name = codes "r"; docs = docs_of None; span = None }

abbrev pub full_case : Case
full_case = record { name = codes "a"; ty = Some (type.Id 1); docs = docs_of None; span = None }

abbrev pub empty_case : Case
empty_case = record { name = codes "b"; ty = None; docs = docs_of None; span = None }

abbrev pub red : EnumCase
red = record { name = codes "red"; docs = docs_of None; span = None }

pub record ExamplesOfKinds : Type 0 where
  pub fields : kind_text (kind.Record (a_field ∷ []))
      ≡ codes "{\"record\":{\"fields\":[{\"name\":\"x\","
      ++ codes "\"type\":\"u32\",\"docs\":{\"contents\":\"X.\"}}]}}"
  pub no_docs_dropped : kind_text (kind.Record (a_field ∷ []))
      ≢ codes "{\"record\":{\"fields\":[{\"name\":\"x\",\"type\":\"u32\"}]}}"
  pub no_field_dropped : kind_text (kind.Record (a_field ∷ []))
      ≢ codes "{\"record\":{\"fields\":[]}}"
  pub not_under_names : kind_text (kind.Record (a_field ∷ []))
      ≢ codes "{\"record\":{\"x\":\"u32\"}}"
  pub resource : kind_text kind.Resource ≡ codes "\"resource\""
  pub owned : kind_text (kind.Handle (Own 7)) ≡ codes "{\"handle\":{\"own\":7}}"
  pub borrowed : kind_text (kind.Handle (Borrow 7)) ≡ codes "{\"handle\":{\"borrow\":7}}"
  pub not_owned : kind_text (kind.Handle (Borrow 7)) ≢ codes "{\"handle\":{\"own\":7}}"
  pub flags : kind_text (kind.Flags (a_flag ∷ []))
      ≡ codes "{\"flags\":{\"flags\":[{\"name\":\"r\"}]}}"
  pub tuple : kind_text (kind.Tuple (type.U8 ∷ type.Id 0 ∷ []))
      ≡ codes "{\"tuple\":{\"types\":[\"u8\",0]}}"
  pub in_order : kind_text (kind.Tuple (type.U8 ∷ type.Id 0 ∷ []))
      ≢ codes "{\"tuple\":{\"types\":[0,\"u8\"]}}"
  pub cases : kind_text (kind.Variant (full_case ∷ empty_case ∷ []))
      ≡ codes
      "{\"variant\":{\"cases\":[{\"name\":\"a\",\"type\":1},{\"name\":\"b\",\"type\":null}]}}"
  pub no_type_dropped : kind_text (kind.Variant (empty_case ∷ []))
      ≢ codes "{\"variant\":{\"cases\":[{\"name\":\"b\"}]}}"
  pub enum : kind_text (kind.Enum (red ∷ [])) ≡ codes "{\"enum\":{\"cases\":[{\"name\":\"red\"}]}}"
  pub not_variant : kind_text (kind.Enum (red ∷ []))
      ≢ codes "{\"variant\":{\"cases\":[{\"name\":\"red\"}]}}"
  pub option : kind_text (kind.Option type.Bool) ≡ codes "{\"option\":\"bool\"}"
  pub result_ : kind_text (kind.Result_ (Some type.U8) None)
      ≡ codes "{\"result\":{\"ok\":\"u8\",\"err\":null}}"
  pub not_exchanged : kind_text (kind.Result_ (Some type.U8) None)
      ≢ codes "{\"result\":{\"ok\":null,\"err\":\"u8\"}}"
  pub list : kind_text (kind.List type.S8) ≡ codes "{\"list\":\"s8\"}"
  pub «map» : kind_text (kind.Map type.String type.U8) ≡ codes "{\"map\":[\"string\",\"u8\"]}"
  pub key_first : kind_text (kind.Map type.String type.U8) ≢ codes "{\"map\":[\"u8\",\"string\"]}"
  pub fixed : kind_text (kind.FixedLengthList type.U8 4)
      ≡ codes "{\"fixed-length-list\":[\"u8\",4]}"
  pub not_list : kind_text (kind.FixedLengthList type.U8 4) ≢ codes "{\"list\":\"u8\"}"
  pub future : kind_text (kind.Future None) ≡ codes "{\"future\":null}"
  pub stream : kind_text (kind.Stream (Some type.U8)) ≡ codes "{\"stream\":\"u8\"}"
  pub not_future : kind_text (kind.Stream (Some type.U8)) ≢ codes "{\"future\":\"u8\"}"
  pub alias : kind_text (kind.Type_ (type.Id 3)) ≡ codes "{\"type\":3}"
  pub unknown : kind_text kind.Unknown ≡ codes "\"unknown\""
