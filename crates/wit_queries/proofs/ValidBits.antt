-- From flags that are right where they are off, and agree with the parts of their types, to what they tell.
use Rattle.std.proofs.Common.{◌≡◌, ℕ, ◌<◌, ◌≤◌, ◌+◌, ◌∙◌, add-one, zero, suc, Bool, true, false, refl, arith, List, [], ◌∷◌, ◌⊎◌, inl, inr, None, Some, Option, length, ap, sym, subst, slice_get, slice_set, Contains, unwrap_or}
use Rattle.std.specs.Option.{IsSomeAnd}
use Rattle.std.proofs.lemmas.Bool.{cases_lt, false≢true}
use Rattle.std.proofs.lemmas.List.{length-set}
use Rattle.std.proofs.lemmas.Option.{slice_get_within}
use Rattle.wit_digraph.specs.Relation.{IsPath, direct}
use Rattle.wit_values.specs.facts.Lists.{set-cases}
use Rattle.wit_data.specs.Each.{SomeAt}
use Rattle.wit_data.specs.declared.types.TypeDef.{TypeDef}
use Rattle.wit_data.specs.declared.types.Type_.TheVariants as type
use Rattle.wit_graph_data.specs.facts.ContentFacts.{content_row}
use Rattle.wit_graph_data.specs.Queries.{HasAllBitsValid, has_fixed_parts, type_contents}
use Rattle.wit_queries.specs.ValidBits.{AreValidBits, AreValidBitsOf}
use Rattle.wit_queries.specs.steps.ValidBits.{Agrees, AreRightBelow, AreRightOff, has_valid_parts, on_count}
use Rattle.wit_queries.specs.facts.ValidBitsFacts.{no_flag, no_type}
use Rattle.wit_queries.proofs.ValidParts.{is_on, parts_fixed, parts_off, parts_on}

-- a flag isn't on and off
on_and_off : ◌≡◌ {A = Option Bool} (Some false) (Some true) → ⊥
on_and_off same = cc

-- what there is at a place
at_some : {X : Type 0} (P : X → Type 0) (o : Option X) → IsSomeAnd o P → (x : X) × ((o ≡ Some x) × P x)
at_some P None is = absurd is
at_some P (Some x) is = (x, (refl, is))

-- a flag that is on stands in the list
on_at : (o : Option Bool) → unwrap_or o false ≡ true → o ≡ Some true
on_at None is = absurd (false≢true is)
on_at (Some true) is = refl
on_at (Some false) is = absurd (false≢true is)

-- a type without fixed parts
not_fixed : (types : List TypeDef) (t : ℕ) (def : TypeDef) → slice_get types t ≡ Some def → has_fixed_parts def.kind ≡ false → HasAllBitsValid types (type.Id t) → ⊥
not_fixed types t def at fails valid =
    false≢true (sym fails ∙ subst (λ o. IsSomeAnd o (λ (d : TypeDef). has_fixed_parts d.kind ≡ true)) at (valid t ([], refl)))

-- a use of what the values of a type hold leads on
valid_onward : (types : List TypeDef) (t u : ℕ) → Contains (direct (type_contents types) t) u → HasAllBitsValid types (type.Id t) → HasAllBitsValid types (type.Id u)
valid_onward types t u has valid s reached = valid s (u ∷ reached.0, (has, reached.1))

by_flag : (types : List TypeDef) (flags : List Bool) → length flags ≡ length types → AreRightOff types flags → (u : ℕ) (o : Option Bool) → slice_get flags u ≡ o
    → is_on flags u ≡ false → HasAllBitsValid types (type.Id u) → ⊥
by_flag types flags long off u None none is valid = no_type types u (no_flag flags types u long none) valid
by_flag types flags long off u (Some true) on is valid = false≢true (sym is ∙ ap (λ (p : Option Bool). unwrap_or p false) on)
by_flag types flags long off u (Some false) is-off is valid = off u is-off valid

-- a type with whose flag its parts don't agree doesn't have all bits valid
wrong : (types : List TypeDef) (flags : List Bool) → length flags ≡ length types → AreRightOff types flags → (t : ℕ) (def : TypeDef) → slice_get types t ≡ Some def
    → has_valid_parts flags def.kind ≡ false → HasAllBitsValid types (type.Id t) → ⊥
wrong types flags long off t def at is valid = elim (parts_off flags def.kind is) [
  | inl fails ↦ not_fixed types t def at fails valid
  | inr held ↦ by_flag types flags long off held.0 (slice_get flags held.0) refl held.1.1
      (valid_onward types t held.0 (subst (λ (us : List ℕ). Contains us held.0) (sym (content_row types t def at)) held.1.0) valid)
]

-- one flag is taken back: all that are off are right where it was wrong,
taken_off : (types : List TypeDef) (flags : List Bool) (t : ℕ) (def : TypeDef) → length flags ≡ length types → AreRightOff types flags → slice_get types t ≡ Some def
    → has_valid_parts flags def.kind ≡ false → AreRightOff types (slice_set flags t false)
taken_off types flags t def long off at is u at-u = elim (set-cases flags t false u false at-u) [
  | inl here ↦ λ valid. wrong types flags long off t def at is (subst (λ (v : ℕ). HasAllBitsValid types (type.Id v)) here.0 valid)
  | inr old ↦ off u old
]

-- the first ones that are on stay right,
taken_below : (types : List TypeDef) (flags : List Bool) (first t : ℕ) → AreRightBelow first types flags → AreRightBelow first types (slice_set flags t false)
taken_below types flags first t below u low at-u = elim (set-cases flags t false u true at-u) [
  | inl here ↦ absurd (false≢true (sym here.1))
  | inr old ↦ below u low old
]

-- and one less is on
selected_fewer : (flags : List Bool) (t : ℕ) → slice_get flags t ≡ Some true → on_count (slice_set flags t false) + 1 ≡ on_count flags
selected_fewer [] t at = cc
selected_fewer (true ∷ flags) zero at = add-one (on_count flags)
selected_fewer (false ∷ flags) zero at = cc
selected_fewer (true ∷ flags) (suc t) at = omega (arith, selected_fewer flags t at)
selected_fewer (false ∷ flags) (suc t) at = selected_fewer flags t at

-- flags that are gone over up to a place: they are right as before, and the parts agree with those so far, or fewer are on
abbrev pub IsSettling : List TypeDef → ℕ → List Bool → Bool → List Bool → ℕ → Type 0
IsSettling types first old settled flags place =
    (length flags ≡ length types)
    × (AreRightOff types flags × (AreRightBelow first types flags
    × (((settled ≡ true) × ((flags ≡ old) × ((t : ℕ) → first ≤ t → t < place → Agrees types flags t))) ⊎ ((settled ≡ false) × (on_count flags < on_count old)))))

pub settling_taken : (types : List TypeDef) (first : ℕ) (old : List Bool) (settled : Bool) (flags : List Bool) (place : ℕ) (def : TypeDef) → IsSettling types first old settled flags place
    → slice_get flags place ≡ Some true → slice_get types place ≡ Some def → has_valid_parts flags def.kind ≡ false → IsSettling types first old false (slice_set flags place false) (place + 1)
settling_taken types first old settled flags place def state on at is = (
  length-set flags place false ∙ state.0,
  (
    taken_off types flags place def state.0 state.1.0 at is,
    (
      taken_below types flags first place state.1.1.0,
      inr (
        refl,
        elim state.1.1.1 [
          | inl same ↦ (let one = selected_fewer flags place on in let is-old = ap on_count same.1.0 in omega (arith, one, is-old))
          | inr fewer ↦ (let one = selected_fewer flags place on in let less = fewer.1 in omega (arith, one, less))
        ],
      ),
    ),
  ),
)

-- one place more with which the parts agree
settling_next : (types : List TypeDef) (first : ℕ) (old : List Bool) (settled : Bool) (flags : List Bool) (place : ℕ) → IsSettling types first old settled flags place
    → Agrees types flags place → IsSettling types first old settled flags (place + 1)
settling_next types first old settled flags place state agrees = (
  state.0,
  (
    state.1.0,
    (
      state.1.1.0,
      elim state.1.1.1 [
        | inl same ↦ inl (
          same.0,
          (
            same.1.0,
            λ t high low. elim (cases_lt t place) [
              | inl below ↦ same.1.1 t high below
              | inr above ↦ subst (λ (u : ℕ). Agrees types flags u) (let here : place ≡ t = omega (arith, low, above) in here) agrees
            ],
          ),
        )
        | inr fewer ↦ inr fewer
      ],
    ),
  ),
)

pub settling_agrees : (types : List TypeDef) (first : ℕ) (old : List Bool) (settled : Bool) (flags : List Bool) (place : ℕ) (def : TypeDef) → IsSettling types first old settled flags place
    → slice_get types place ≡ Some def → has_valid_parts flags def.kind ≡ true → IsSettling types first old settled flags (place + 1)
settling_agrees types first old settled flags place def state at is =
    settling_next types first old settled flags place state (λ on. subst (λ (o : Option TypeDef). IsSomeAnd o (λ (d : TypeDef). has_valid_parts flags d.kind ≡ true)) (sym at) is)

pub settling_off : (types : List TypeDef) (first : ℕ) (old : List Bool) (settled : Bool) (flags : List Bool) (place : ℕ) → IsSettling types first old settled flags place
    → slice_get flags place ≡ Some false → IsSettling types first old settled flags (place + 1)
settling_off types first old settled flags place state is-off = settling_next types first old settled flags place state (λ on. absurd (on_and_off (sym is-off ∙ on)))

pub settled_all : (types : List TypeDef) (first : ℕ) (old : List Bool) (settled : Bool) (flags : List Bool) (place : ℕ) → IsSettling types first old settled flags place
    → length types ≤ place → settled ≡ true → (t : ℕ) → first ≤ t → Agrees types flags t
settled_all types first old settled flags place state end is t high on = elim state.1.1.1 [
  | inl same ↦ same.1.1 t high (let within = slice_get_within flags t true on in omega (arith, within, state.0, end)) on
  | inr fewer ↦ absurd (false≢true (sym fewer.0 ∙ is))
]

-- where the parts agree with all flags from a place on, and those below are right, one that is on is right:
module _ (types : List TypeDef) (flags : List Bool) (first : ℕ) (below : AreRightBelow first types flags) (settled : (t : ℕ) → first ≤ t → Agrees types flags t) where
  -- the parts of a type that is on from that place on
  parts_of : (t : ℕ) → slice_get flags t ≡ Some true → first ≤ t → (def : TypeDef) × ((slice_get types t ≡ Some def) × (has_valid_parts flags def.kind ≡ true))
  parts_of t on high = at_some (λ (def : TypeDef). has_valid_parts flags def.kind ≡ true) (slice_get types t) (settled t high on)

  onward : (t : ℕ) (path : List ℕ) (s : ℕ) → slice_get flags t ≡ Some true → IsPath (type_contents types) t path s
      → SomeAt types s (λ (def : TypeDef). has_fixed_parts def.kind ≡ true)
  onward t [] s on leads = elim (cases_lt t first) [
    | inl low ↦ below t low on s ([], leads)
    | inr high ↦
        let here = parts_of t on high in
        subst (λ (v : ℕ). SomeAt types v (λ (def : TypeDef). has_fixed_parts def.kind ≡ true)) leads
        (subst (λ (o : Option TypeDef). IsSomeAnd o (λ (def : TypeDef). has_fixed_parts def.kind ≡ true)) (sym here.1.0) (parts_fixed flags here.0.kind here.1.1))
  ]
  onward t (u ∷ path) s on leads = elim (cases_lt t first) [
    | inl low ↦ below t low on s (u ∷ path, leads)
    | inr high ↦
        let here = parts_of t on high in
        onward u path s (on_at (slice_get flags u)
        (parts_on flags here.0.kind here.1.1 u (subst (λ (us : List ℕ). Contains us u) (content_row types t here.0 here.1.0) leads.0))) leads.1
  ]

  exact : AreRightOff types flags → AreValidBits types flags
  exact off t true at = (λ is s reached. onward t reached.0 s at reached.1, λ valid. refl)
  exact off t false at = (λ is. absurd (false≢true is), λ valid. absurd (off t at valid))

  pub told : length flags ≡ length types → AreRightOff types flags → AreValidBitsOf types flags
  told long off = record {
    each = long;
    exact = exact off;
  }
