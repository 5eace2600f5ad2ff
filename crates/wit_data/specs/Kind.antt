-- What a kind of type holds, and the kind with what it holds changed. Whatever is said of all kinds goes over these:
-- what a kind refers to, what its values hold, its spans, its structure and its image under maps.
use Rattle.std.specs.Prelude.{ℕ, List, [], ◌∷◌, map, codes, decimal, Option, None, Some, if◌then◌else◌, option_map, Bool, ◌++◌, flat_map, option_to_list}
use Rattle.std.specs.List.{enumerate_from}
use Rattle.wit_sources.specs.Span.{OptionalSpan}
use Rattle.wit_data.specs.declared.types.Case.{Case}
use Rattle.wit_data.specs.declared.types.EnumCase.{EnumCase}
use Rattle.wit_data.specs.declared.types.Field.{Field}
use Rattle.wit_data.specs.declared.types.Flag.{Flag}
use Rattle.wit_data.specs.declared.types.Handle.{Handle}
use Rattle.wit_data.specs.declared.kind.PartRole.{PartRole}
use Rattle.wit_data.specs.declared.types.TypeDefKind.{TypeDefKind}
use Rattle.wit_data.specs.declared.types.Type_.{Type_}
use Rattle.wit_data.specs.declared.kind.Variant.{Variant}
use Rattle.wit_data.specs.declared.kind.PartRole.TheVariants.{Value, Target, Argument}
use Rattle.wit_data.specs.declared.kind.Variant.TheVariants as variants
use Rattle.wit_data.specs.declared.types.Handle.TheVariants as handle
use Rattle.wit_data.specs.declared.types.TypeDefKind.TheVariants as kind
use Rattle.wit_data.specs.declared.types.Type_.TheVariants as type
use Rattle.wit_data.specs.Function.{resource_of}
use Rattle.wit_data.specs.declared.function.Function.{Function}
use Rattle.wit_data.specs.declared.function.Param.{Param}
use Rattle.wit_data.specs.declared.types.TypeDef.{TypeDef}

-- the variant of a kind; `own` and `borrow` are two
abbrev pub variant_of : TypeDefKind → Variant
variant_of (kind.Record fields) = variants.Record
variant_of kind.Resource = variants.Resource
variant_of (kind.Handle (handle.Own t)) = variants.Own
variant_of (kind.Handle (handle.Borrow t)) = variants.Borrow
variant_of (kind.Flags flags) = variants.Flags
variant_of (kind.Tuple types) = variants.Tuple
variant_of (kind.Variant cases) = variants.Variant_
variant_of (kind.Enum cases) = variants.Enum
variant_of (kind.Option ty) = variants.Option
variant_of (kind.Result_ ok err) = variants.Result_
variant_of (kind.List ty) = variants.List
variant_of (kind.Map key value) = variants.Map
variant_of (kind.FixedLengthList ty len) = variants.FixedLengthList
variant_of (kind.Future ty) = variants.Future
variant_of (kind.Stream ty) = variants.Stream
variant_of (kind.Type_ ty) = variants.Alias
variant_of kind.Unknown = variants.Unknown

-- the length of a kind, if that is fixed
abbrev pub fixed_length : TypeDefKind → Option ℕ
fixed_length (kind.FixedLengthList ty len) = Some len
fixed_length _ = None

-- ---- the parts of a kind

-- a part of a kind: what it is to the kind, what it is called in a path, its type where it has one, and its span where
-- it has a name of its own
pub record KindPart : Type 0 where
  pub role : PartRole
  pub step : List ℕ
  pub ty : Option Type_
  pub span : Option OptionalSpan

-- a part with a name: a field, a case or a flag
abbrev pub named_part : List ℕ → Option Type_ → OptionalSpan → KindPart
named_part name ty span = record { role = Value; step = name; ty = ty; span = Some span }

-- a part without one
abbrev pub plain_part : PartRole → List ℕ → Option Type_ → KindPart
plain_part role step ty = record { role = role; step = step; ty = ty; span = None }

-- the resource of which a handle is one
abbrev pub handle_resource : Handle → ℕ
handle_resource (handle.Own id) = id
handle_resource (handle.Borrow id) = id

-- the parts of a kind, in order; flags and the cases of an enum are parts without a type
abbrev pub kind_parts : TypeDefKind → List KindPart
kind_parts (kind.Record fields) = map (λ (f : Field). named_part f.name (Some f.ty) f.span) fields
kind_parts kind.Resource = []
kind_parts (kind.Handle h) =
    plain_part Argument (codes "handle") (Some (type.Id (handle_resource h))) ∷ []
kind_parts (kind.Flags flags) = map (λ (f : Flag). named_part f.name None f.span) flags
kind_parts (kind.Tuple types) =
    map (λ (e : ℕ × Type_). plain_part Value (decimal e.0) (Some e.1)) (enumerate_from 0 types)
kind_parts (kind.Variant cases) = map (λ (c : Case). named_part c.name c.ty c.span) cases
kind_parts (kind.Enum cases) = map (λ (c : EnumCase). named_part c.name None c.span) cases
kind_parts (kind.Option ty) = plain_part Value (codes "element") (Some ty) ∷ []
kind_parts (kind.Result_ ok err) =
    plain_part Value (codes "ok") ok ∷ plain_part Value (codes "err") err ∷ []
kind_parts (kind.List ty) = plain_part Value (codes "element") (Some ty) ∷ []
kind_parts (kind.Map key value) =
    plain_part Value (codes "key") (Some key) ∷ plain_part Value (codes "value") (Some value) ∷ []
kind_parts (kind.FixedLengthList ty len) = plain_part Value (codes "element") (Some ty) ∷ []
kind_parts (kind.Future ty) = plain_part Value (codes "element") ty ∷ []
kind_parts (kind.Stream ty) = plain_part Value (codes "element") ty ∷ []
kind_parts (kind.Type_ ty) = plain_part Target (codes "alias") (Some ty) ∷ []
kind_parts kind.Unknown = []

-- ---- a kind with its parts changed

-- a type with its id mapped
abbrev pub map_type : (ℕ → ℕ) → Type_ → Type_
map_type go (type.Id t) = type.Id (go t)
map_type go other = other

-- a handle with its id mapped
abbrev pub map_handle : (ℕ → ℕ) → Handle → Handle
map_handle go (handle.Own t) = handle.Own (go t)
map_handle go (handle.Borrow t) = handle.Borrow (go t)

-- the same kind, with the ids of its parts mapped by their roles and their spans moved
abbrev pub map_kind : (PartRole → ℕ → ℕ) → (OptionalSpan → OptionalSpan) → TypeDefKind → TypeDefKind
map_kind go move (kind.Record fields) =
    kind.Record
    (map (λ (f : Field). record f { ty = map_type (go Value) f.ty; span = move f.span }) fields)
map_kind go move kind.Resource = kind.Resource
map_kind go move (kind.Handle h) = kind.Handle (map_handle (go Argument) h)
map_kind go move (kind.Flags flags) =
    kind.Flags (map (λ (f : Flag). record f { span = move f.span }) flags)
map_kind go move (kind.Tuple types) = kind.Tuple (map (map_type (go Value)) types)
map_kind go move (kind.Variant cases) =
    kind.Variant (map
    (λ (c : Case). record c { ty = option_map (map_type (go Value)) c.ty; span = move c.span })
    cases)
map_kind go move (kind.Enum cases) =
    kind.Enum (map (λ (c : EnumCase). record c { span = move c.span }) cases)
map_kind go move (kind.Option ty) = kind.Option (map_type (go Value) ty)
map_kind go move (kind.Result_ ok err) =
    kind.Result_ (option_map (map_type (go Value)) ok) (option_map (map_type (go Value)) err)
map_kind go move (kind.List ty) = kind.List (map_type (go Value) ty)
map_kind go move (kind.Map key value) =
    kind.Map (map_type (go Value) key) (map_type (go Value) value)
map_kind go move (kind.FixedLengthList ty len) = kind.FixedLengthList (map_type (go Value) ty) len
map_kind go move (kind.Future ty) = kind.Future (option_map (map_type (go Value)) ty)
map_kind go move (kind.Stream ty) = kind.Stream (option_map (map_type (go Value)) ty)
map_kind go move (kind.Type_ ty) = kind.Type_ (map_type (go Target) ty)
map_kind go move kind.Unknown = kind.Unknown

-- What kinds of types and functions refer to: the types that they name, by id, in the order in which
-- they name them, with repeats.

-- the type of the list that a value's type names: none where it is a primitive
abbrev pub named_type : Type_ → List ℕ
named_type (type.Id id) = id ∷ []
named_type _ = []

-- the type of the list that a type names which may be left out: none where it is left out or a primitive
abbrev pub named_option : Option Type_ → List ℕ
named_option None = []
named_option (Some ty) = named_type ty

-- the types that a kind refers to: those of its parts
abbrev pub referred : TypeDefKind → List ℕ
referred k = flat_map (λ (p : KindPart). named_option p.ty) (kind_parts k)

-- the same of its parts in some roles
abbrev pub referred_in : (PartRole → Bool) → TypeDefKind → List ℕ
referred_in roles k =
    flat_map (λ (p : KindPart). if roles p.role then named_option p.ty else []) (kind_parts k)

-- which type refers to which, as adjacency lists: list i has what type i refers to
abbrev pub type_references : List TypeDef → List (List ℕ)
type_references types = map (λ (def : TypeDef). referred def.kind) types

-- the types of the parameters and of the result of a function
abbrev pub signature_types : Function → List ℕ
signature_types f = flat_map (λ (p : Param). named_type p.ty) f.params ++ named_option f.result_

-- the types that a function refers to: the resource that it belongs to, then those of its signature
abbrev pub function_references : Function → List ℕ
function_references f = option_to_list (resource_of f.kind) ++ signature_types f
