-- Worked examples: where small types differ in structure, and that some don't.
use Rattle.std.specs.Prelude.{◌≡◌, ℕ, List, [], ◌∷◌, codes, Option, None, Some}
use Rattle.wit_data.specs.New.{new_type}
use Rattle.wit_data.specs.declared.types.Case.{Case}
use Rattle.wit_data.specs.declared.types.EnumCase.{EnumCase}
use Rattle.wit_data.specs.declared.types.Field.{Field}
use Rattle.wit_data.specs.declared.types.Flag.{Flag}
use Rattle.wit_data.specs.declared.types.TypeDef.{TypeDef}
use Rattle.wit_data.specs.declared.types.TypeDefKind.{TypeDefKind}
use Rattle.wit_data.specs.declared.types.Type_.{Type_}
use Rattle.wit_data.specs.declared.types.Handle.TheVariants as handle
use Rattle.wit_data.specs.declared.types.TypeDefKind.TheVariants as kind
use Rattle.wit_data.specs.declared.types.TypeOwner.TheVariants as owner
use Rattle.wit_data.specs.declared.types.Type_.TheVariants as type
use Rattle.wit_merge_spec.specs.Structure.{DifferInStructure, structure}

-- ---- types

abbrev pub type_of : Option (List ℕ) → TypeDefKind → TypeDef
type_of name k = new_type name k owner.None

abbrev pub with_name : TypeDefKind → TypeDef
with_name k = type_of (Some (codes "t")) k

abbrev pub without_name : TypeDefKind → TypeDef
without_name k = type_of None k

-- a number
abbrev pub byte : TypeDefKind
byte = kind.Type_ type.U8

abbrev pub short : TypeDefKind
short = kind.Type_ type.U16

-- fields, cases and flags of these names
abbrev pub field : List ℕ → Type_ → Field
field name ty = record { name = name; ty = ty; docs = record { contents = None }; span = None }

abbrev pub case : List ℕ → Option Type_ → Case
case name ty = record { name = name; ty = ty; docs = record { contents = None }; span = None }

abbrev pub flag : List ℕ → Flag
flag name = record { name = name; docs = record { contents = None }; span = None }

abbrev pub enum_case : List ℕ → EnumCase
enum_case name = record { name = name; docs = record { contents = None }; span = None }

-- records with a field a, and with another, b
abbrev pub record_a : Type_ → TypeDefKind
record_a ty = kind.Record (field (codes "a") ty ∷ [])

abbrev pub record_ab : Type_ → Type_ → TypeDefKind
record_ab ty ty' = kind.Record (field (codes "a") ty ∷ field (codes "b") ty' ∷ [])

-- ---- two types

-- type 0 of each of two lists is of a kind, with these types behind it, and types are matched with those at the same
-- ids: they differ, as a text tells
abbrev pub Differ : TypeDefKind → List TypeDef → TypeDefKind → List TypeDef → List ℕ → Type 0
Differ k more k' more' text =
    DifferInStructure (with_name k ∷ more) (with_name k' ∷ more') Some 0 0 text

-- or they don't
abbrev pub AreSame : TypeDefKind → List TypeDef → TypeDefKind → List TypeDef → Type 0
AreSame k more k' more' =
    structure (with_name k ∷ more) Some 0 ≡ structure (with_name k' ∷ more') Some 0

-- a list of bytes, and one of numbers of two bytes, that have no names
abbrev pub bytes : List TypeDef
bytes = without_name (kind.List type.U8) ∷ []

abbrev pub shorts : List TypeDef
shorts = without_name (kind.List type.U16) ∷ []

-- a resource of a name
abbrev pub resource : List TypeDef
resource = with_name kind.Resource ∷ []

pub record ExamplesOfVariants : Type 0 where
  pub own_and_borrow : Differ (kind.Handle (handle.Own 1)) resource (kind.Handle (handle.Borrow 1))
      resource (codes "different kinds of types")
  pub owns : AreSame (kind.Handle (handle.Own 1)) resource (kind.Handle (handle.Own 1)) resource
  pub resources : AreSame kind.Resource [] kind.Resource []
  pub resource_and_number : Differ kind.Resource [] byte [] (codes "different kinds of types")
  -- kinds with the same parts
  pub record_and_variant : Differ (record_a type.U8) []
      (kind.Variant (case (codes "a") (Some type.U8) ∷ [])) [] (codes "different kinds of types")
  pub flags_and_enum : Differ (kind.Flags (flag (codes "a") ∷ [])) []
      (kind.Enum (enum_case (codes "a") ∷ [])) [] (codes "different kinds of types")
  pub list_and_option : Differ (kind.List type.U8) [] (kind.Option type.U8) []
      (codes "different kinds of types")
  pub list_and_fixed : Differ (kind.List type.U8) [] (kind.FixedLengthList type.U8 4) []
      (codes "different kinds of types")
  pub future_and_stream : Differ (kind.Future None) [] (kind.Stream None) []
      (codes "different kinds of types")

pub record ExamplesOfHeads : Type 0 where
  pub field_names : Differ (record_a type.U8) [] (kind.Record (field (codes "b") type.U8 ∷ [])) []
      (codes "different names or number of parts")
  pub field_count : Differ (record_a type.U8) [] (record_ab type.U8 type.U8) []
      (codes "different names or number of parts")
  pub field_order : Differ (record_ab type.U8 type.U8) []
      (kind.Record (field (codes "b") type.U8 ∷ field (codes "a") type.U8 ∷ [])) []
      (codes "different names or number of parts")
  -- names come before parts
  pub names_first : Differ (record_ab type.U8 type.U8) [] (record_a type.U16) []
      (codes "different names or number of parts")
  pub case_names : Differ (kind.Variant (case (codes "a") None ∷ [])) []
      (kind.Variant (case (codes "b") None ∷ [])) [] (codes "different names or number of parts")
  pub flag_names : Differ (kind.Flags (flag (codes "a") ∷ [])) []
      (kind.Flags (flag (codes "b") ∷ [])) [] (codes "different names or number of parts")
  pub flag_count : Differ (kind.Flags (flag (codes "a") ∷ [])) [] (kind.Flags []) []
      (codes "different names or number of parts")
  pub enum_names : Differ (kind.Enum (enum_case (codes "a") ∷ [])) []
      (kind.Enum (enum_case (codes "b") ∷ [])) [] (codes "different names or number of parts")
  pub tuple_count : Differ (kind.Tuple (type.U8 ∷ [])) [] (kind.Tuple (type.U8 ∷ type.U8 ∷ [])) []
      (codes "different names or number of parts")
  pub lengths : Differ (kind.FixedLengthList type.U8 4) [] (kind.FixedLengthList type.U8 5) []
      (codes "different lengths")
  -- lengths come before parts
  pub length_first : Differ (kind.FixedLengthList type.U8 4) [] (kind.FixedLengthList type.U16 5) []
      (codes "different lengths")
  pub same_length : AreSame (kind.FixedLengthList type.U8 4) [] (kind.FixedLengthList type.U8 4) []

pub record ExamplesOfParts : Type 0 where
  -- each step of a path
  pub of_field : Differ (record_ab type.U8 type.U8) [] (record_ab type.U8 type.U16) []
      (codes "at b: different kinds of types")
  pub of_case : Differ (kind.Variant (case (codes "a") (Some type.U8) ∷ [])) []
      (kind.Variant (case (codes "a") (Some type.U16) ∷ [])) []
      (codes "at a: different kinds of types")
  pub of_tuple : Differ (kind.Tuple (type.U8 ∷ type.U8 ∷ [])) []
      (kind.Tuple (type.U8 ∷ type.U16 ∷ [])) [] (codes "at 1: different kinds of types")
  pub of_option : Differ (kind.Option type.U8) [] (kind.Option type.U16) []
      (codes "at element: different kinds of types")
  pub of_list : Differ (kind.List type.U8) [] (kind.List type.U16) []
      (codes "at element: different kinds of types")
  pub of_fixed : Differ (kind.FixedLengthList type.U8 4) [] (kind.FixedLengthList type.U16 4) []
      (codes "at element: different kinds of types")
  pub of_future : Differ (kind.Future (Some type.U8)) [] (kind.Future (Some type.U16)) []
      (codes "at element: different kinds of types")
  pub of_stream : Differ (kind.Stream (Some type.U8)) [] (kind.Stream (Some type.U16)) []
      (codes "at element: different kinds of types")
  pub of_key : Differ (kind.Map type.U8 type.U8) [] (kind.Map type.U16 type.U8) []
      (codes "at key: different kinds of types")
  pub of_value : Differ (kind.Map type.U8 type.U8) [] (kind.Map type.U8 type.U16) []
      (codes "at value: different kinds of types")
  pub of_ok : Differ (kind.Result_ (Some type.U8) None) [] (kind.Result_ (Some type.U16) None) []
      (codes "at ok: different kinds of types")
  pub of_err : Differ (kind.Result_ None (Some type.U8)) [] (kind.Result_ None (Some type.U16)) []
      (codes "at err: different kinds of types")
  pub of_alias : Differ byte [] short [] (codes "at alias: different kinds of types")
  -- a part on one side alone, and on none
  pub payload_comes : Differ (kind.Variant (case (codes "a") (Some type.U8) ∷ [])) []
      (kind.Variant (case (codes "a") None ∷ [])) [] (codes "at a: different kinds of types")
  pub payload_there : Differ (kind.Future None) [] (kind.Future (Some type.U8)) []
      (codes "at element: different kinds of types")
  pub no_payload : AreSame (kind.Result_ None None) [] (kind.Result_ None None) []

pub record ExamplesOfTypes : Type 0 where
  -- types without names by what they are, wherever they stand
  pub in_unnamed : Differ (record_ab type.U32 (type.Id 1)) bytes (record_ab type.U32 (type.Id 1))
      shorts (codes "at b.element: different kinds of types")
  pub unnamed_there : AreSame (record_a (type.Id 1)) bytes (record_a (type.Id 2))
      (without_name kind.Resource ∷ without_name (kind.List type.U8) ∷ [])
  pub unnamed_and_number : Differ (record_a (type.Id 1)) bytes (record_a type.U8) []
      (codes "at a: different kinds of types")
  pub number_and_unnamed : Differ (record_a type.U8) [] (record_a (type.Id 1)) bytes
      (codes "at a: different kinds of types")
  pub unnamed_and_named : Differ (record_a (type.Id 1)) bytes (record_a (type.Id 1))
      (with_name (kind.List type.U8) ∷ []) (codes "at a: different kinds of types")
  pub unnamed_variants : Differ (record_a (type.Id 1)) bytes (record_a (type.Id 1))
      (without_name (kind.Option type.U8) ∷ []) (codes "at a: different kinds of types")
  pub deep : Differ (kind.List (type.Id 1))
      (without_name (kind.Tuple (type.U8 ∷ type.Id 2 ∷ [])) ∷ bytes) (kind.List (type.Id 1))
      (without_name (kind.Tuple (type.U8 ∷ type.Id 2 ∷ [])) ∷ shorts)
      (codes "at element.1.element: different kinds of types")
  -- types with names by which they are matched
  pub other_type : Differ (record_a (type.Id 1)) (with_name byte ∷ with_name byte ∷ [])
      (record_a (type.Id 2)) (with_name byte ∷ with_name byte ∷ [])
      (codes "at a: different types")
  pub not_matched : DifferInStructure (with_name (record_a (type.Id 1)) ∷ with_name byte ∷ [])
      (with_name (record_a (type.Id 1)) ∷ with_name byte ∷ []) (λ t. None) 0 0
      (codes "at a: different types")
  pub of_handle : Differ (kind.Handle (handle.Own 1))
      (with_name kind.Resource ∷ with_name kind.Resource ∷ []) (kind.Handle (handle.Own 2))
      (with_name kind.Resource ∷ with_name kind.Resource ∷ [])
      (codes "at handle: different types")
  pub matched_anywhere :
      structure (with_name (record_a (type.Id 1)) ∷ with_name byte ∷ []) (λ t. Some 2) 0
      ≡ structure
      (with_name (record_a (type.Id 2)) ∷ with_name kind.Resource ∷ with_name byte ∷ [])
      Some 0
  -- what they are doesn't matter
  pub not_entered : AreSame (record_a (type.Id 1)) (with_name byte ∷ []) (record_a (type.Id 1))
      (with_name short ∷ [])
  -- the first difference alone
  pub inner_first : Differ (record_ab (type.Id 1) type.U8) bytes (record_ab (type.Id 1) type.U16)
      shorts (codes "at a.element: different kinds of types")
  pub second : Differ (record_ab type.U8 type.U8) [] (record_ab type.U16 type.U16) []
      (codes "at b: different kinds of types") → ⊥
  pub same_none : (text : List ℕ) → Differ (record_a type.U8) [] (record_a type.U8) [] text → ⊥
