-- What the flags of its parts tell of a type.
use Rattle.std.proofs.Common.{◌≡◌, ℕ, ◌+◌, ◌&&◌, Bool, true, false, refl, List, [], ◌∷◌, ◌⊎◌, inl, inr, map, Option, None, Some, sym, ap, subst, Contains, decimal, if◌then◌else◌}
use Rattle.std.specs.Prelude.{slice_get, unwrap_or, flat_map}
use Rattle.std.specs.List.{enumerate_from, list_all}
use Rattle.std.specs.Option.{option_map_or}
use Rattle.std.proofs.lemmas.Bool.{and_cases, and_from, and_left, and_parts, and_right, false≢true}
use Rattle.std.proofs.lemmas.List.Elements.{Contains-append_cases, Contains-append_left, Contains-append_right}
use Rattle.wit_digraph.specs.facts.MemberFacts.{Contains-cons_cases, Contains-here, Contains-nil}
use Rattle.wit_data.specs.Kind.{KindPart, kind_parts, named_part, plain_part, variant_of, named_option, named_type}
use Rattle.wit_data.specs.declared.kind.PartRole.TheVariants.{Value}
use Rattle.wit_data.specs.declared.types.Field.{Field}
use Rattle.wit_data.specs.declared.types.Handle.{Handle}
use Rattle.wit_data.specs.declared.types.TypeDefKind.{TypeDefKind}
use Rattle.wit_data.specs.declared.types.Type_.{Type_}
use Rattle.wit_data.specs.declared.types.Handle.TheVariants as handle
use Rattle.wit_data.specs.declared.types.TypeDefKind.TheVariants as kind
use Rattle.wit_data.specs.declared.types.Type_.TheVariants as type
use Rattle.wit_graph_data.specs.Queries.{has_fixed_layout, has_fixed_parts, is_held, is_number_or_listed}
use Rattle.wit_queries.specs.ValidBits.{is_valid_by}
use Rattle.wit_queries.specs.steps.ValidBits.{has_valid_parts, is_valid_part}
use Rattle.wit_graph_data.specs.steps.Parts.{is_fixed_part, content_types}

-- flag u is on
abbrev pub is_on : List Bool → ℕ → Bool
is_on flags u = unwrap_or (slice_get flags u) false

-- a type that is valid by the flags is a number or of the list,
listed : (flags : List Bool) (ty : Type_) → is_valid_by flags ty ≡ true → is_number_or_listed ty ≡ true
listed flags (type.Id t) is = refl
listed flags type.Bool is = is
listed flags type.U8 is = is
listed flags type.U16 is = is
listed flags type.U32 is = is
listed flags type.U64 is = is
listed flags type.S8 is = is
listed flags type.S16 is = is
listed flags type.S32 is = is
listed flags type.S64 is = is
listed flags type.F32 is = is
listed flags type.F64 is = is
listed flags type.Char is = is
listed flags type.String is = is
listed flags type.ErrorContext is = is

-- and the flag of what it names is on,
named_on : (flags : List Bool) (ty : Type_) → is_valid_by flags ty ≡ true → (u : ℕ) → Contains (named_type ty) u → is_on flags u ≡ true
named_on flags (type.Id t) is u has =
    elim (Contains-cons_cases t u [] has) [ inl same ↦ subst (λ (v : ℕ). is_on flags v ≡ true) same is | inr none ↦ absurd (Contains-nil none) ]
named_on flags type.Bool is u has = absurd (Contains-nil has)
named_on flags type.U8 is u has = absurd (Contains-nil has)
named_on flags type.U16 is u has = absurd (Contains-nil has)
named_on flags type.U32 is u has = absurd (Contains-nil has)
named_on flags type.U64 is u has = absurd (Contains-nil has)
named_on flags type.S8 is u has = absurd (Contains-nil has)
named_on flags type.S16 is u has = absurd (Contains-nil has)
named_on flags type.S32 is u has = absurd (Contains-nil has)
named_on flags type.S64 is u has = absurd (Contains-nil has)
named_on flags type.F32 is u has = absurd (Contains-nil has)
named_on flags type.F64 is u has = absurd (Contains-nil has)
named_on flags type.Char is u has = absurd (Contains-nil has)
named_on flags type.String is u has = absurd (Contains-nil has)
named_on flags type.ErrorContext is u has = absurd (Contains-nil has)

-- and one that isn't is neither, or that flag is off
abbrev NamesOff : List Bool → List ℕ → Type 0
NamesOff flags held = (u : ℕ) × (Contains held u × (is_on flags u ≡ false))

unlisted : (flags : List Bool) (ty : Type_) → is_valid_by flags ty ≡ false → (is_number_or_listed ty ≡ false) ⊎ NamesOff flags (named_type ty)
unlisted flags (type.Id t) is = inr (t, (Contains-here t [], is))
unlisted flags type.Bool is = inl is
unlisted flags type.U8 is = inl is
unlisted flags type.U16 is = inl is
unlisted flags type.U32 is = inl is
unlisted flags type.U64 is = inl is
unlisted flags type.S8 is = inl is
unlisted flags type.S16 is = inl is
unlisted flags type.S32 is = inl is
unlisted flags type.S64 is = inl is
unlisted flags type.F32 is = inl is
unlisted flags type.F64 is = inl is
unlisted flags type.Char is = inl is
unlisted flags type.String is = inl is
unlisted flags type.ErrorContext is = inl is

-- the same of a part
part_listed : (flags : List Bool) (p : KindPart) → is_valid_part flags p ≡ true → is_fixed_part p ≡ true
part_listed flags p is = by (is_held p.role) p.ty is
  where
    by : (held : Bool) (ty : Option Type_) → (if held then option_map_or (is_valid_by flags) ty false else true) ≡ true → (if held then option_map_or is_number_or_listed ty false else true) ≡ true
    by true None valid = valid
    by true (Some ty) valid = listed flags ty valid
    by false ty valid = refl

abbrev part_holds : KindPart → List ℕ
part_holds p = if is_held p.role then named_option p.ty else []

part_on : (flags : List Bool) (p : KindPart) → is_valid_part flags p ≡ true → (u : ℕ) → Contains (part_holds p) u → is_on flags u ≡ true
part_on flags p is = by (is_held p.role) p.ty is
  where
    by : (held : Bool) (ty : Option Type_) → (if held then option_map_or (is_valid_by flags) ty false else true) ≡ true
        → (u : ℕ) → Contains (if held then named_option ty else []) u → is_on flags u ≡ true
    by true None valid u has = absurd (Contains-nil has)
    by true (Some ty) valid u has = named_on flags ty valid u has
    by false ty valid u has = absurd (Contains-nil has)

part_off : (flags : List Bool) (p : KindPart) → is_valid_part flags p ≡ false → (is_fixed_part p ≡ false) ⊎ NamesOff flags (part_holds p)
part_off flags p is = by (is_held p.role) p.ty is
  where
    by : (held : Bool) (ty : Option Type_) → (if held then option_map_or (is_valid_by flags) ty false else true) ≡ false
        → ((if held then option_map_or is_number_or_listed ty false else true) ≡ false) ⊎ NamesOff flags (if held then named_option ty else [])
    by true None fails = inl refl
    by true (Some ty) fails = unlisted flags ty fails
    by false ty fails = absurd (false≢true (sym fails))

-- the same of several parts
module _ (flags : List Bool) where
  all_listed : (ps : List KindPart) → list_all (is_valid_part flags) ps ≡ true → list_all is_fixed_part ps ≡ true
  all_listed [] is = refl
  all_listed (p ∷ ps) is =
      let both = and_parts (is_valid_part flags p) (list_all (is_valid_part flags) ps) is in
      and_from (is_fixed_part p) (list_all is_fixed_part ps) (part_listed flags p both.0) (all_listed ps both.1)

  all_on : (ps : List KindPart) → list_all (is_valid_part flags) ps ≡ true → (u : ℕ) → Contains (flat_map part_holds ps) u → is_on flags u ≡ true
  all_on [] is u has = absurd (Contains-nil has)
  all_on (p ∷ ps) is u has =
      let both = and_parts (is_valid_part flags p) (list_all (is_valid_part flags) ps) is in
      elim (Contains-append_cases (part_holds p) (flat_map part_holds ps) u has) [ inl here ↦ part_on flags p both.0 u here | inr later ↦ all_on ps both.1 u later ]

  any_off : (ps : List KindPart) → list_all (is_valid_part flags) ps ≡ false → (list_all is_fixed_part ps ≡ false) ⊎ NamesOff flags (flat_map part_holds ps)
  any_off [] is = absurd (false≢true (sym is))
  any_off (p ∷ ps) is = elim (and_cases (is_valid_part flags p) (list_all (is_valid_part flags) ps) is) [
    | inl here ↦ elim (part_off flags p here) [
      | inl fails ↦ inl (and_left (is_fixed_part p) (list_all is_fixed_part ps) fails)
      | inr names ↦ inr (names.0, (Contains-append_left (part_holds p) (flat_map part_holds ps) names.0 names.1.0, names.1.1))
    ]
    | inr later ↦ elim (any_off ps later) [
      | inl fails ↦ inl (and_right (is_fixed_part p) (list_all is_fixed_part ps) fails)
      | inr names ↦ inr (names.0, (Contains-append_right (part_holds p) (flat_map part_holds ps) names.0 names.1.0, names.1.1))
    ]
  ]

-- a kind whose parts are valid by the flags has fixed parts,
pub parts_fixed : (flags : List Bool) (k : TypeDefKind) → has_valid_parts flags k ≡ true → has_fixed_parts k ≡ true
parts_fixed flags k is =
    let both = and_parts (has_fixed_layout (variant_of k)) (list_all (is_valid_part flags) (kind_parts k)) is in
    and_from (has_fixed_layout (variant_of k)) (list_all is_fixed_part (kind_parts k)) both.0 (all_listed flags (kind_parts k) both.1)

-- and the flag of each type that its values hold is on;
pub parts_on : (flags : List Bool) (k : TypeDefKind) → has_valid_parts flags k ≡ true → (u : ℕ) → Contains (content_types k) u → is_on flags u ≡ true
parts_on flags k is u has = all_on flags (kind_parts k) (and_parts (has_fixed_layout (variant_of k)) (list_all (is_valid_part flags) (kind_parts k)) is).1 u has

-- one whose parts aren't has none, or holds a type whose flag is off
pub parts_off : (flags : List Bool) (k : TypeDefKind) → has_valid_parts flags k ≡ false
    → (has_fixed_parts k ≡ false) ⊎ ((u : ℕ) × (Contains (content_types k) u × (is_on flags u ≡ false)))
parts_off flags k is = elim (and_cases (has_fixed_layout (variant_of k)) (list_all (is_valid_part flags) (kind_parts k)) is) [
  | inl layout ↦ inl (and_left (has_fixed_layout (variant_of k)) (list_all is_fixed_part (kind_parts k)) layout)
  | inr some ↦ elim (any_off flags (kind_parts k) some) [
    | inl fails ↦ inl (and_right (has_fixed_layout (variant_of k)) (list_all is_fixed_part (kind_parts k)) fails)
    | inr names ↦ inr names
  ]
]

-- ---- kind by kind, as the code asks

module _ (flags : List Bool) where
  abbrev is_valid_kind : TypeDefKind → Bool
  is_valid_kind (kind.Handle h) = true
  is_valid_kind (kind.Type_ ty) = is_valid_by flags ty
  is_valid_kind (kind.FixedLengthList ty len) = is_valid_by flags ty
  is_valid_kind (kind.Record fields) = list_all (λ (f : Field). is_valid_by flags f.ty) fields
  is_valid_kind (kind.Tuple types) = list_all (is_valid_by flags) types
  is_valid_kind _ = false

  alone : (b : Bool) → b ≡ b && true
  alone true = refl
  alone false = refl

  fields_valid : (fields : List Field) → list_all (λ (f : Field). is_valid_by flags f.ty) fields ≡ list_all (is_valid_part flags) (map (λ (f : Field). named_part f.name (Some f.ty) f.span) fields)
  fields_valid [] = refl
  fields_valid (f ∷ fields) = ap (λ (b : Bool). is_valid_by flags f.ty && b) (fields_valid fields)

  types_valid : (n : ℕ) (types : List Type_) → list_all (is_valid_by flags) types ≡ list_all (is_valid_part flags) (map (λ (e : ℕ × Type_). plain_part Value (decimal e.0) (Some e.1)) (enumerate_from n types))
  types_valid n [] = refl
  types_valid n (ty ∷ types) = ap (λ (b : Bool). is_valid_by flags ty && b) (types_valid (n + 1) types)

  pub kind_valid : (k : TypeDefKind) → is_valid_kind k ≡ has_valid_parts flags k
  kind_valid (kind.Handle (handle.Own t)) = refl
  kind_valid (kind.Handle (handle.Borrow t)) = refl
  kind_valid (kind.Type_ ty) = alone (is_valid_by flags ty)
  kind_valid (kind.FixedLengthList ty len) = alone (is_valid_by flags ty)
  kind_valid (kind.Record fields) = fields_valid fields
  kind_valid (kind.Tuple types) = types_valid 0 types
  kind_valid other = refl

  pub other_valid : (k : TypeDefKind) → ((h : Handle) → k ≡ kind.Handle h → ⊥) → ((ty : Type_) → k ≡ kind.Type_ ty → ⊥) → ((ty : Type_) (len : ℕ) → k ≡ kind.FixedLengthList ty len → ⊥)
      → ((fields : List Field) → k ≡ kind.Record fields → ⊥) → ((types : List Type_) → k ≡ kind.Tuple types → ⊥) → false ≡ has_valid_parts flags k
  other_valid (kind.Handle h) no_handle no_alias no_list no_record no_tuple = absurd (no_handle h refl)
  other_valid (kind.Type_ ty) no_handle no_alias no_list no_record no_tuple = absurd (no_alias ty refl)
  other_valid (kind.FixedLengthList ty len) no_handle no_alias no_list no_record no_tuple = absurd (no_list ty len refl)
  other_valid (kind.Record fields) no_handle no_alias no_list no_record no_tuple = absurd (no_record fields refl)
  other_valid (kind.Tuple types) no_handle no_alias no_list no_record no_tuple = absurd (no_tuple types refl)
  other_valid other no_handle no_alias no_list no_record no_tuple = refl
