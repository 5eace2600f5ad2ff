-- Types as WIT text has them where values are of them.
use Rattle.std.specs.Prelude.{ℕ, zero, suc, List, [], ◌∷◌, ◌++◌, Option, Some, None, slice_get, codes, decimal, length, map}
use Rattle.std.specs.List.{join_by}
use Rattle.std.specs.Option.{option_map_or}
use Rattle.wit_data.specs.declared.types.Handle.TheVariants as handle
use Rattle.wit_data.specs.declared.types.TypeDef.{TypeDef}
use Rattle.wit_data.specs.declared.types.TypeDefKind.{TypeDefKind}
use Rattle.wit_data.specs.declared.types.TypeDefKind.TheVariants as kind
use Rattle.wit_data.specs.declared.types.Type_.{Type_}
use Rattle.wit_data.specs.declared.types.Type_.TheVariants as type
use Rattle.wit_print.specs.Names.{name_wit}

-- the word of a primitive
abbrev pub primitive_wit : Type_ → List ℕ
primitive_wit type.Bool = codes "bool"
primitive_wit type.U8 = codes "u8"
primitive_wit type.U16 = codes "u16"
primitive_wit type.U32 = codes "u32"
primitive_wit type.U64 = codes "u64"
primitive_wit type.S8 = codes "s8"
primitive_wit type.S16 = codes "s16"
primitive_wit type.S32 = codes "s32"
primitive_wit type.S64 = codes "s64"
primitive_wit type.F32 = codes "f32"
primitive_wit type.F64 = codes "f64"
primitive_wit type.Char = codes "char"
primitive_wit type.String = codes "string"
primitive_wit type.ErrorContext = codes "error-context"
primitive_wit (type.Id t) = []

-- ---- kinds, where `inner` writes a type

-- parts with commas between, from a head that ends with `<` to `>`
abbrev pub form_wit : List ℕ → List (List ℕ) → List ℕ
form_wit head parts = head ++ (join_by (λ part. part) (codes ", ") parts ++ codes ">")

abbrev pub result_wit : (Type_ → List ℕ) → Option Type_ → Option Type_ → List ℕ
result_wit inner None None = codes "result"
result_wit inner None (Some err) = form_wit (codes "result<") (codes "_" ∷ inner err ∷ [])
result_wit inner (Some ok) None = form_wit (codes "result<") (inner ok ∷ [])
result_wit inner (Some ok) (Some err) = form_wit (codes "result<") (inner ok ∷ inner err ∷ [])

-- a kind; nothing of one that only a definition can have. An `own` is written as its resource: WIT
-- makes an `own` of a resource that a value is of
abbrev pub kind_wit : (Type_ → List ℕ) → TypeDefKind → List ℕ
kind_wit inner (kind.Handle (handle.Own t)) = inner (type.Id t)
kind_wit inner (kind.Handle (handle.Borrow t)) =
    form_wit (codes "borrow<") (inner (type.Id t) ∷ [])
kind_wit inner (kind.Tuple types) = form_wit (codes "tuple<") (map inner types)
kind_wit inner (kind.Option ty) = form_wit (codes "option<") (inner ty ∷ [])
kind_wit inner (kind.Result_ ok err) = result_wit inner ok err
kind_wit inner (kind.List ty) = form_wit (codes "list<") (inner ty ∷ [])
kind_wit inner (kind.Map key value) = form_wit (codes "map<") (inner key ∷ inner value ∷ [])
kind_wit inner (kind.FixedLengthList ty len) =
    form_wit (codes "list<") (inner ty ∷ decimal len ∷ [])
kind_wit inner (kind.Future None) = codes "future"
kind_wit inner (kind.Future (Some ty)) = form_wit (codes "future<") (inner ty ∷ [])
kind_wit inner (kind.Stream None) = codes "stream"
kind_wit inner (kind.Stream (Some ty)) = form_wit (codes "stream<") (inner ty ∷ [])
kind_wit inner (kind.Type_ ty) = inner ty
kind_wit inner _ = []

-- ---- types

-- a type: a word, or of one of the list its name, or its kind as `opened` writes it
abbrev pub outer_wit : List TypeDef → (TypeDefKind → List ℕ) → Type_ → List ℕ
outer_wit types opened (type.Id t) =
    option_map_or (λ (def : TypeDef). option_map_or name_wit def.name (opened def.kind))
    (slice_get types t) []
outer_wit types opened ty = primitive_wit ty

-- a type, in which at most so many types without a name are opened, one in another
unfoldable pub type_within : List TypeDef → ℕ → Type_ → List ℕ
type_within types zero ty = outer_wit types (λ k. []) ty
type_within types (suc depth) ty = outer_wit types (kind_wit (type_within types depth)) ty

-- a type. If none refers to itself, no more can be opened in one another than there are, so nothing is cut off
abbrev pub type_wit : List TypeDef → Type_ → List ℕ
type_wit types ty = type_within types (length types) ty

-- what the name of a definition stands for; an `own` of a resource is no other name of the resource
abbrev pub defined_wit : List TypeDef → TypeDefKind → List ℕ
defined_wit types (kind.Handle (handle.Own t)) =
    form_wit (codes "own<") (type_wit types (type.Id t) ∷ [])
defined_wit types k = kind_wit (type_wit types) k
