-- Facts on flags that tell of which types all bits are valid, for the proofs of the crates above. They say nothing of
-- this crate's code.
use Rattle.std.proofs.Common.{◌≡◌, ℕ, ◌<◌, ◌∙◌, zero, suc, Bool, true, false, refl, arith, List, [], ◌∷◌, None, Some, Option, length, take, sym, subst, slice_get, Contains, unwrap_or, inl, inr}
use Rattle.std.specs.Prelude.{IsTrue, ◌↔◌, IsSomeAnd}
use Rattle.std.proofs.lemmas.Bool.{false≢true}
use Rattle.std.proofs.lemmas.List.Elements.{All-contains}
use Rattle.std.proofs.lemmas.Option.{slice_get_cases, slice_get_within}
use Rattle.wit_digraph.specs.Relation.{IsAcyclic, IsPath, direct}
use Rattle.wit_data.specs.Each.{SomeAt}
use Rattle.wit_data.specs.Kind.{type_references}
use Rattle.wit_data.specs.declared.types.TypeDef.{TypeDef}
use Rattle.wit_data.specs.declared.types.Type_.{Type_}
use Rattle.wit_data.specs.declared.types.Type_.TheVariants as type
use Rattle.wit_graph_data.specs.facts.ContentFacts.{content_row, contents_acyclic, held_long}
use Rattle.wit_graph_data.specs.Queries.{HasAllBitsValid, has_fixed_parts, type_contents}
use Rattle.wit_queries.specs.ValidBits.{AreValidBits, AreValidBitsOf, is_valid_by}

-- a type that isn't there doesn't have all bits valid
pub no_type : (types : List TypeDef) (t : ℕ) → slice_get types t ≡ None → HasAllBitsValid types (type.Id t) → ⊥
no_type types t none valid = subst (λ o. IsSomeAnd o (λ (def : TypeDef). has_fixed_parts def.kind ≡ true)) none (valid t ([], refl))

-- a place without a flag has no type where there are as many flags as types
pub no_flag : {X : Type 0} (flags : List Bool) (xs : List X) (u : ℕ) → length flags ≡ length xs → slice_get flags u ≡ None → slice_get xs u ≡ None
no_flag [] [] u long none = refl
no_flag (flag ∷ flags) (x ∷ xs) zero long none = cc
no_flag (flag ∷ flags) (x ∷ xs) (suc u) long none = no_flag flags xs u (omega (arith, long)) none
no_flag [] (x ∷ xs) u long none = absurd (omega (arith, long))
no_flag (flag ∷ flags) [] u long none = absurd (omega (arith, long))

by_its_flag : (types : List TypeDef) (flags : List Bool) → AreValidBitsOf types flags → (t : ℕ) (o : Option Bool) → slice_get flags t ≡ o
    → IsTrue (unwrap_or o false) ↔ HasAllBitsValid types (type.Id t)
by_its_flag types flags tells t (Some flag) at = tells.exact t flag at
by_its_flag types flags tells t None at = (λ is. absurd (false≢true is), λ valid. absurd (no_type types t (no_flag flags types t tells.each at) valid))

-- by the flags of all types, all bits of a type are valid exactly where they are
pub valid_by_flags : (types : List TypeDef) (flags : List Bool) → AreValidBitsOf types flags → (ty : Type_) → IsTrue (is_valid_by flags ty) ↔ HasAllBitsValid types ty
valid_by_flags types flags tells (type.Id t) = by_its_flag types flags tells t (slice_get flags t) refl
valid_by_flags types flags tells type.Bool = (λ is. is, λ is. is)
valid_by_flags types flags tells type.U8 = (λ is. is, λ is. is)
valid_by_flags types flags tells type.U16 = (λ is. is, λ is. is)
valid_by_flags types flags tells type.U32 = (λ is. is, λ is. is)
valid_by_flags types flags tells type.U64 = (λ is. is, λ is. is)
valid_by_flags types flags tells type.S8 = (λ is. is, λ is. is)
valid_by_flags types flags tells type.S16 = (λ is. is, λ is. is)
valid_by_flags types flags tells type.S32 = (λ is. is, λ is. is)
valid_by_flags types flags tells type.S64 = (λ is. is, λ is. is)
valid_by_flags types flags tells type.F32 = (λ is. is, λ is. is)
valid_by_flags types flags tells type.F64 = (λ is. is, λ is. is)
valid_by_flags types flags tells type.Char = (λ is. is, λ is. is)
valid_by_flags types flags tells type.String = (λ is. is, λ is. is)
valid_by_flags types flags tells type.ErrorContext = (λ is. is, λ is. is)

-- what stands among the first ones stands in the list
first_at : {X : Type 0} (n : ℕ) (xs : List X) (i : ℕ) (x : X) → slice_get (take n xs) i ≡ Some x → slice_get xs i ≡ Some x
first_at zero xs i x at = cc
first_at (suc n) [] i x at = cc
first_at (suc n) (z ∷ xs) zero x at = at
first_at (suc n) (z ∷ xs) (suc i) x at = first_at n xs i x at

-- types that come behind others, which name none of them
module _ (old new : List TypeDef) (acyclic : IsAcyclic (type_references old)) (begins : take (length old) new ≡ old) where
  -- what stands at a place before and after
  abbrev StandsAt : ℕ → Type 0
  StandsAt i = (def : TypeDef) × ((slice_get old i ≡ Some def) × (slice_get new i ≡ Some def))

  stands : (i : ℕ) → i < length old → StandsAt i
  stands i low = elim ((slice_get_cases old i).1) [
    | inl there ↦ (there.0, (there.2, first_at (length old) new i there.0 (subst (λ (types : List TypeDef). slice_get types i ≡ Some there.0) (sym begins) there.2)))
    | inr past ↦ absurd (omega (arith, low, past.0))
  ]

  same_row : (i : ℕ) → i < length old → direct (type_contents new) i ≡ direct (type_contents old) i
  same_row i low = let here = stands i low in content_row new i here.0 here.1.1 ∙ sym (content_row old i here.0 here.1.0)

  below : (i j : ℕ) → Contains (direct (type_contents old) i) j → j < length old
  below i j has = subst (λ n. j < n) (held_long old) (All-contains (λ k. k < length (type_contents old)) (direct (type_contents old) i) j ((contents_acyclic old acyclic).in_range i) has)

  path_before : (path : List ℕ) (i j : ℕ) → i < length old → IsPath (type_contents new) i path j → IsPath (type_contents old) i path j × (j < length old)
  path_before [] i j low leads = (leads, subst (λ k. k < length old) leads low)
  path_before (k ∷ path) i j low leads =
      let has : Contains (direct (type_contents old) i) k = subst (λ ks. Contains ks k) (same_row i low) leads.0 in
      let rest = path_before path k j (below i k has) leads.1 in ((has, rest.0), rest.1)

  path_after : (path : List ℕ) (i j : ℕ) → i < length old → IsPath (type_contents old) i path j → IsPath (type_contents new) i path j × (j < length old)
  path_after [] i j low leads = (leads, subst (λ k. k < length old) leads low)
  path_after (k ∷ path) i j low leads =
      let rest = path_after path k j (below i k leads.0) leads.1 in
      ((subst (λ ks. Contains ks k) (sym (same_row i low)) leads.0, rest.0), rest.1)

  -- what holds of the type at a place holds of it after, and before
  module _ (P : TypeDef → Type 0) where
    some_after : (i : ℕ) → i < length old → SomeAt old i P → SomeAt new i P
    some_after i low some = let here = stands i low in subst (λ o. IsSomeAnd o P) (here.1.0 ∙ sym here.1.1) some

    some_before : (i : ℕ) → i < length old → SomeAt new i P → SomeAt old i P
    some_before i low some = let here = stands i low in subst (λ o. IsSomeAnd o P) (here.1.1 ∙ sym here.1.0) some

  abbrev IsFixed : TypeDef → Type 0
  IsFixed def = has_fixed_parts def.kind ≡ true

  -- flags that tell of all types tell of them where others come behind
  pub flags_stay : (flags : List Bool) → AreValidBitsOf old flags → AreValidBits new flags
  flags_stay flags tells t flag at =
      let within = slice_get_within flags t flag at in
      let low : t < length old = omega (arith, within, tells.each) in
      let told = tells.exact t flag at in (
        λ is s reached. let path = path_before reached.0 t s low reached.1 in some_after IsFixed s path.1 (told.0 is s (reached.0, path.0)),
        λ valid. told.1 (λ s reached. let path = path_after reached.0 t s low reached.1 in some_before IsFixed s path.1 (valid s (reached.0, path.0))),
      )
