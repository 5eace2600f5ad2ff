-- Features are the same or differ: what two structures of which none is told to differ first have in common.
use Rattle.std.proofs.Common.{◌≡◌, ◌∙◌, ◌⊎◌, inl, inr, ℕ, List, [], ◌∷◌, ◌++◌, nat_eq, None, Some, slice_index_or, refl, sym, ap}
use Rattle.std.specs.Bool.{Decides}
use Rattle.std.specs.Cmp.Lexicographic.{pointwise}
use Rattle.std.specs.Str.{bytes_eq}
use Rattle.std.proofs.lemmas.Bool.{cases_Bool, eq-eqb, eqb-true, false≢true}
use Rattle.std.proofs.lemmas.Slice.Eq.{bytes_eq-Decides, slice_eq-Decides}
use Rattle.wit_data.specs.declared.types.Type_.{Type_}
use Rattle.wit_data.specs.declared.types.Type_.TheVariants as type
use Rattle.wit_merge_spec.specs.facts.DifferenceFacts.{first_behind, first_here}
use Rattle.wit_merge_spec.specs.Structure.{Content, Feature, FirstDifference, absent, fixed, named, names, primitive, variant}
use Rattle.wit_data.specs.declared.kind.Variant.TheVariants as variants
use Rattle.wit_data.specs.facts.KindFacts.{all_variants, variant_number, variant_numbered}

-- ---- types by numbers

type_number : Type_ → ℕ
type_number type.Bool = 0
type_number type.U8 = 1
type_number type.U16 = 2
type_number type.U32 = 3
type_number type.U64 = 4
type_number type.S8 = 5
type_number type.S16 = 6
type_number type.S32 = 7
type_number type.S64 = 8
type_number type.F32 = 9
type_number type.F64 = 10
type_number type.Char = 11
type_number type.String = 12
type_number type.ErrorContext = 13
type_number (type.Id t) = 14

type_id : Type_ → ℕ
type_id (type.Id t) = t
type_id other = 0

numbered_type : ℕ → ℕ → Type_
numbered_type n t =
    slice_index_or
    (type.Bool ∷ type.U8 ∷ type.U16 ∷ type.U32 ∷ type.U64 ∷ type.S8 ∷ type.S16 ∷ type.S32 ∷ type.S64 ∷ type.F32 ∷ type.F64 ∷ type.Char ∷ type.String ∷ type.ErrorContext ∷ type.Id t ∷ []) n
    (type.Id t)

type_back : (ty : Type_) → numbered_type (type_number ty) (type_id ty) ≡ ty
unfolding type_number type_id numbered_type
type_back (type.Id t) = refl
type_back other = refl

-- ---- what stands at a path, by numbers and lists

record Code : Type 0 where
  sort : ℕ
  first : ℕ
  second : ℕ
  steps : List (List ℕ)

code : Content → Code
code (variant v) = record { sort = 0; first = variant_number v; second = 0; steps = [] }
code (names steps) = record { sort = 1; first = 0; second = 0; steps = steps }
code (fixed len) = record { sort = 2; first = len; second = 0; steps = [] }
code absent = record { sort = 3; first = 0; second = 0; steps = [] }
code (primitive ty) = record { sort = 4; first = type_number ty; second = type_id ty; steps = [] }
code (named None) = record { sort = 5; first = 0; second = 0; steps = [] }
code (named (Some t)) = record { sort = 6; first = t; second = 0; steps = [] }

coded : Code → Content
coded c =
    slice_index_or
    (variant (slice_index_or all_variants c.first variants.Unknown) ∷ names c.steps ∷ fixed c.first ∷ absent ∷ primitive (numbered_type c.first c.second) ∷ named None ∷ named (Some c.first) ∷ []) c.sort
    absent

code_back : (c : Content) → coded (code c) ≡ c
unfolding code coded
code_back (variant v) = ap variant (variant_numbered v)
code_back (names steps) = refl
code_back (fixed len) = refl
code_back absent = refl
code_back (primitive ty) = ap primitive (type_back ty)
code_back (named None) = refl
code_back (named (Some t)) = refl

-- ---- the same or not

numbers_told : (a b : ℕ) → (a ≡ b) ⊎ (a ≡ b → ⊥)
numbers_told a b = elim (cases_Bool (nat_eq a b)) [ inl same ↦ inl (eqb-true a b same) | inr other ↦ inr (λ is. false≢true (sym other ∙ eq-eqb a b is)) ]

steps_told : (a b : List (List ℕ)) → (a ≡ b) ⊎ (a ≡ b → ⊥)
steps_told a b =
    let decides : Decides (pointwise bytes_eq a b) (a ≡ b) = slice_eq-Decides bytes_eq-Decides a b (pointwise bytes_eq a b) refl in
    elim (cases_Bool (pointwise bytes_eq a b)) [ inl same ↦ inl (decides.0 same) | inr other ↦ inr (λ is. false≢true (sym other ∙ decides.1 is)) ]

codes_told : (c d : Code) → (c ≡ d) ⊎ (c ≡ d → ⊥)
codes_told c d =
    elim (numbers_told c.sort d.sort) [
      | inr apart ↦ inr (λ is. apart (ap (λ (x : Code). x.sort) is))
      | inl sorts ↦ elim (numbers_told c.first d.first) [
        | inr apart ↦ inr (λ is. apart (ap (λ (x : Code). x.first) is))
        | inl firsts ↦ elim (numbers_told c.second d.second) [
          | inr apart ↦ inr (λ is. apart (ap (λ (x : Code). x.second) is))
          | inl seconds ↦ elim (steps_told c.steps d.steps) [
            | inr apart ↦ inr (λ is. apart (ap (λ (x : Code). x.steps) is))
            | inl steps ↦ inl (λ i. record { sort = sorts i; first = firsts i; second = seconds i; steps = steps i })
          ]
        ]
      ]
    ]

features_told : (x y : Feature) → (x ≡ y) ⊎ (x ≡ y → ⊥)
features_told x y =
    elim (steps_told x.path y.path) [
      | inr apart ↦ inr (λ is. apart (ap (λ (f : Feature). f.path) is))
      | inl paths ↦ elim (codes_told (code x.content) (code y.content)) [
        | inr apart ↦ inr (λ is. apart (ap (λ (f : Feature). code f.content) is))
        | inl same ↦
            let contents : x.content ≡ y.content = sym (code_back x.content) ∙ (ap coded same ∙ code_back y.content) in
            inl (λ i. record { path = paths i; content = contents i })
      ]
    ]

-- where none is first to differ one list is in front of the other
pub front_of : (xs ys : List Feature) → ((x y : Feature) → FirstDifference xs ys x y → ⊥) → ((more : List Feature) × (xs ≡ ys ++ more)) ⊎ ((more : List Feature) × (ys ≡ xs ++ more))
front_of [] ys none = inr (ys, refl)
front_of (x ∷ xs) [] none = inl (x ∷ xs, refl)
front_of (x ∷ xs) (y ∷ ys) none =
    elim (features_told x y) [
      | inr apart ↦ absurd (none x y (first_here x y xs ys apart))
      | inl same ↦ elim (front_of xs ys (λ a b first. none a b (first_behind (x ∷ []) (y ∷ []) xs ys a b (ap (λ (z : Feature). z ∷ []) same) first))) [
        | inl longer ↦ inl (longer.0, λ i. same i ∷ longer.1 i)
        | inr shorter ↦ inr (shorter.0, λ i. sym same i ∷ shorter.1 i)
      ]
    ]
