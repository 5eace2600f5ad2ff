-- What types and functions are read from, each as its text.
use Rattle.std.specs.Prelude.{◌≡◌, ℕ, List, [], ◌∷◌, ◌++◌, Some, None, Ok, codes}
use Rattle.wit_data.specs.New.{new_function, new_type}
use Rattle.wit_data.specs.declared.function.Function.{Function}
use Rattle.wit_data.specs.declared.function.FunctionKind.{FunctionKind}
use Rattle.wit_data.specs.declared.function.FunctionKind.TheVariants as function
use Rattle.wit_data.specs.declared.types.Handle.TheVariants.{Borrow, Own}
use Rattle.wit_data.specs.declared.types.TypeDef.{TypeDef}
use Rattle.wit_data.specs.declared.types.TypeDefKind.{TypeDefKind}
use Rattle.wit_data.specs.declared.types.TypeDefKind.TheVariants as kind
use Rattle.wit_data.specs.declared.types.TypeOwner.TheVariants as owner
use Rattle.wit_data.specs.declared.types.Type_.{Type_}
use Rattle.wit_data.specs.declared.types.Type_.TheVariants as type
use Rattle.examples_json.specs.values.ReadValues.{fault_at, to}
use Rattle.examples_json.specs.values.Types.{a_field, a_flag, empty_case, full_case, red}
use Rattle.wit_json_reading.specs.Documents.{read_from}
use Rattle.wit_json_reading.specs.Functions.{read_function_kind, read_function, read_param}
use Rattle.wit_json_reading.specs.Reading.{Reading, instead_of}
use Rattle.wit_json_reading.specs.Types.{read_field, read_kind, read_owner, read_type_def, read_type}
use Rattle.wit_json_reading.specs.declared.fault.Expected.TheVariants as expected
use Rattle.wit_json_reading.specs.declared.fault.Step.TheVariants as step

abbrev pub type_ : List ℕ → Reading Type_
type_ text = read_from read_type text

abbrev pub kind_ : List ℕ → Reading TypeDefKind
kind_ text = read_from read_kind text

abbrev pub type_def : List ℕ → Reading TypeDef
type_def text = read_from read_type_def text

pub record ExamplesOfReadTypes : Type 0 where
  -- a primitive by its name in WIT, each its own; another type by its id
  pub word : type_ (codes "\"u16\"") ≡ Ok type.U16
  pub signed : type_ (codes "\"s16\"") ≡ Ok type.S16
  pub context : type_ (codes "\"error-context\"") ≡ Ok type.ErrorContext
  pub no_word : type_ (codes "\"u17\"") ≡ instead_of expected.Type
  pub not_upper : type_ (codes "\"U16\"") ≡ instead_of expected.Type
  pub id : type_ (codes "7") ≡ Ok (type.Id 7)
  pub no_half : type_ (codes "7.5") ≡ instead_of expected.Type
  pub no_object : type_ (codes "{\"type\":7}") ≡ instead_of expected.Type
  -- parts, in whatever order; an unknown member is refused
  pub field : read_from read_field
      (codes "{\"docs\":{\"contents\":\"X.\"},\"type\":\"u32\",\"name\":\"x\"}") ≡ Ok a_field
  pub no_type : read_from read_field (codes "{\"name\":\"x\"}")
      ≡ fault_at (to (codes "type") ∷ []) expected.Member
  pub unknown_member : read_from read_field (codes "{\"name\":\"x\",\"ty\":\"u32\"}")
      ≡ fault_at (to (codes "ty") ∷ []) expected.NoMember
  -- owners
  pub of_interface : read_from read_owner (codes "{\"interface\":3}") ≡ Ok (owner.Interface 3)
  pub of_world : read_from read_owner (codes "{\"world\":3}") ≡ Ok (owner.World 3)
  pub of_nobody : read_from read_owner (codes "null") ≡ Ok owner.None
  pub of_package : read_from read_owner (codes "{\"package\":3}")
      ≡ fault_at (to (codes "package") ∷ []) expected.Owner
  pub of_two : read_from read_owner (codes "{\"interface\":3,\"world\":3}")
      ≡ instead_of expected.Owner
  -- whole types; the name of one without a name is null
  pub named : type_def
      (codes "{\"name\":\"t\",\"kind\":{\"type\":\"u8\"},\"owner\":{\"interface\":1}}")
      ≡ Ok (new_type (Some (codes "t")) (kind.Type_ type.U8) (owner.Interface 1))
  pub unnamed : type_def (codes "{\"name\":null,\"kind\":\"resource\",\"owner\":null}")
      ≡ Ok (new_type None kind.Resource owner.None)
  pub nameless : type_def (codes "{\"kind\":\"resource\",\"owner\":null}")
      ≡ fault_at (to (codes "name") ∷ []) expected.Member
  pub placed : type_def (codes "{\"name\":null,\"kind\":\"resource\","
      ++ codes "\"owner\":null,\"span\":[3,9],\"external-id\":\"x\"}")
      ≡ Ok (record (new_type None kind.Resource owner.None)
      { span = Some (3, 9); external_id = Some (codes "x") })

pub record ExamplesOfReadKinds : Type 0 where
  pub fields : kind_ (codes "{\"record\":{\"fields\":[{\"name\":\"x\","
      ++ codes "\"type\":\"u32\",\"docs\":{\"contents\":\"X.\"}}]}}")
      ≡ Ok (kind.Record (a_field ∷ []))
  pub second_field : kind_ (codes "{\"record\":{\"fields\":[{\"name\":\"x\","
      ++ codes "\"type\":\"u32\"},{\"name\":\"y\",\"type\":\"u33\"}]}}")
      ≡ fault_at (to (codes "type") ∷ step.Item 1 ∷ to (codes "fields") ∷ to (codes "record") ∷ [])
      expected.Type
  pub resource : kind_ (codes "\"resource\"") ≡ Ok kind.Resource
  pub no_word : kind_ (codes "\"resorce\"") ≡ instead_of expected.TypeKind
  pub owned : kind_ (codes "{\"handle\":{\"own\":7}}") ≡ Ok (kind.Handle (Own 7))
  pub borrowed : kind_ (codes "{\"handle\":{\"borrow\":7}}") ≡ Ok (kind.Handle (Borrow 7))
  pub lent : kind_ (codes "{\"handle\":{\"lend\":7}}")
      ≡ fault_at (to (codes "lend") ∷ to (codes "handle") ∷ []) expected.Handle
  pub flags : kind_ (codes "{\"flags\":{\"flags\":[{\"name\":\"r\"}]}}")
      ≡ Ok (kind.Flags (a_flag ∷ []))
  pub tuple : kind_ (codes "{\"tuple\":{\"types\":[\"u8\",0]}}")
      ≡ Ok (kind.Tuple (type.U8 ∷ type.Id 0 ∷ []))
  pub cases : kind_ (codes "{\"variant\":{\"cases\":[{\"name\":\"a\","
      ++ codes "\"type\":1},{\"name\":\"b\",\"type\":null}]}}")
      ≡ Ok (kind.Variant (full_case ∷ empty_case ∷ []))
  pub no_type : kind_ (codes "{\"variant\":{\"cases\":[{\"name\":\"b\"}]}}")
      ≡ fault_at (to (codes "type") ∷ step.Item 0 ∷ to (codes "cases") ∷ to (codes "variant") ∷ [])
      expected.Member
  pub enum : kind_ (codes "{\"enum\":{\"cases\":[{\"name\":\"red\"}]}}") ≡ Ok (kind.Enum (red ∷ []))
  pub option : kind_ (codes "{\"option\":\"bool\"}") ≡ Ok (kind.Option type.Bool)
  pub result_ : kind_ (codes "{\"result\":{\"err\":null,\"ok\":\"u8\"}}")
      ≡ Ok (kind.Result_ (Some type.U8) None)
  pub no_err : kind_ (codes "{\"result\":{\"ok\":\"u8\"}}")
      ≡ fault_at (to (codes "err") ∷ to (codes "result") ∷ []) expected.Member
  pub list : kind_ (codes "{\"list\":\"s8\"}") ≡ Ok (kind.List type.S8)
  pub two_kinds : kind_ (codes "{\"list\":\"s8\",\"option\":\"s8\"}") ≡ instead_of expected.TypeKind
  pub «map» : kind_ (codes "{\"map\":[\"string\",\"u8\"]}") ≡ Ok (kind.Map type.String type.U8)
  pub no_value : kind_ (codes "{\"map\":[\"string\"]}")
      ≡ fault_at (to (codes "map") ∷ []) expected.Pair
  pub fixed : kind_ (codes "{\"fixed-length-list\":[\"u8\",4]}")
      ≡ Ok (kind.FixedLengthList type.U8 4)
  pub too_long : kind_ (codes "{\"fixed-length-list\":[\"u8\",4294967296]}")
      ≡ fault_at (step.Item 1 ∷ to (codes "fixed-length-list") ∷ []) expected.SmallNumber
  pub future : kind_ (codes "{\"future\":null}") ≡ Ok (kind.Future None)
  pub stream : kind_ (codes "{\"stream\":\"u8\"}") ≡ Ok (kind.Stream (Some type.U8))
  pub alias : kind_ (codes "{\"type\":3}") ≡ Ok (kind.Type_ (type.Id 3))
  pub unknown : kind_ (codes "\"unknown\"") ≡ Ok kind.Unknown

abbrev pub function_kind : List ℕ → Reading FunctionKind
function_kind text = read_from read_function_kind text

abbrev pub function_ : List ℕ → Reading Function
function_ text = read_from read_function text

pub record ExamplesOfReadFunctions : Type 0 where
  pub free : function_kind (codes "\"freestanding\"") ≡ Ok function.Freestanding
  pub async : function_kind (codes "\"async-freestanding\"") ≡ Ok function.AsyncFreestanding
  pub method : function_kind (codes "{\"method\":7}") ≡ Ok (function.Method 7)
  pub static_ : function_kind (codes "{\"static\":7}") ≡ Ok (function.Static 7)
  pub constructor : function_kind (codes "{\"constructor\":7}") ≡ Ok (function.Constructor 7)
  pub getter : function_kind (codes "{\"static-getter\":7}") ≡ Ok (function.StaticGetter 7)
  pub no_resource : function_kind (codes "\"method\"") ≡ instead_of expected.FunctionKind
  pub no_id : function_kind (codes "{\"method\":\"r\"}")
      ≡ fault_at (to (codes "method") ∷ []) expected.Number
  pub no_kind : function_kind (codes "{\"async-constructor\":7}")
      ≡ fault_at (to (codes "async-constructor") ∷ []) expected.FunctionKind
  pub param : read_from read_param (codes "{\"name\":\"a\",\"type\":\"u8\",\"span\":[1,2]}")
      ≡ Ok (record { name = codes "a"; ty = type.U8; span = Some (1, 2) })
  pub whole : function_
      (codes "{\"name\":\"f\",\"kind\":\"freestanding\",\"params\":[],\"result\":\"u8\"}")
      ≡ Ok (new_function (codes "f") function.Freestanding [] (Some type.U8))
  -- no result is left out, and not null
  pub no_result : function_ (codes "{\"name\":\"f\",\"kind\":\"freestanding\",\"params\":[]}")
      ≡ Ok (new_function (codes "f") function.Freestanding [] None)
  pub null_result : function_
      (codes "{\"name\":\"f\",\"kind\":\"freestanding\",\"params\":[],\"result\":null}")
      ≡ fault_at (to (codes "result") ∷ []) expected.Type
  pub no_params : function_ (codes "{\"name\":\"f\",\"kind\":\"freestanding\"}")
      ≡ fault_at (to (codes "params") ∷ []) expected.Member
