-- The imports that stay, one after another.
use Rattle.std.proofs.Common.{◌≡◌, ◌∙◌, ◌++◌, ◌+◌, ◌||◌, ◌∷◌, [], ℕ, Bool, true, false, List, None, Some, filter, is_some, nat_eq, take, slice_get, refl, sym, ap, if◌then◌else◌}
use Rattle.std.proofs.lemmas.List.{append-nil}
use Rattle.std.proofs.lemmas.List.Concat.{flat_map-append}
use Rattle.std.specs.List.{IsDistinct, flat_map, list_any}
use Rattle.std.specs.Map.{keys_of, lookup}
use Rattle.wit_values.specs.facts.Lists.{take-next_at}
use Rattle.wit_data.specs.facts.WorldKeyFacts.{key_is, key_laws}
use Rattle.wit_data.specs.contracts.world.WorldKeyPartialEq.TheImpl.{eq-value}
use Rattle.wit_data.specs.declared.world.WorldKey.{WorldKey}
use Rattle.wit_elaboration.specs.facts.Filters.{Contains-filter}
use Rattle.wit_elaboration.specs.Entries.{Entry, key_interface}
use Rattle.wit_semver.specs.SemverMerged.{SemverMerge, is_replaced, newest}
use Rattle.wit_transform.specs.facts.Looked.{new_at}
use Rattle.wit_semver.specs.steps.Replacing.{AreReplacements}
use Rattle.wit_semver.specs.steps.Parts.{is_replaced_entry}

-- the tests of two that agree
any_same : (p q : ℕ → Bool) → ((i : ℕ) → p i ≡ q i) → (ids : List ℕ) → list_any p ids ≡ list_any q ids
any_same p q same [] = refl
any_same p q same (i ∷ ids) = ap (λ (b : Bool). b || list_any p ids) (same i) ∙ ap (λ (b : Bool). q i || b) (any_same p q same ids)

module _ (u : SemverMerge) (found : List (ℕ × ℕ)) (are : AreReplacements u found) where
  is_told : (i : ℕ) → is_some (lookup (nat_eq i) found) ≡ is_replaced u i
  is_told i = ap is_some (are i) ∙ by (is_replaced u i)
    where
      by : (b : Bool) → is_some (if b then Some (newest u i) else None) ≡ b
      by true = refl
      by false = refl

  -- an entry is one that stays or not, as its key tells
  pub stays_is : (k : WorldKey) (b : Bool) (e : Entry) → e.0 ≡ k → b ≡ list_any (λ i. is_some (lookup (nat_eq i) found)) (key_interface k) → is_replaced_entry u e ≡ b
  stays_is k b e same is =
      ap (λ (j : WorldKey). list_any (is_replaced u) (key_interface j)) same
      ∙ sym (any_same (λ i. is_some (lookup (nat_eq i) found)) (is_replaced u) is_told (key_interface k)) ∙ sym is

-- the key of an entry is new among those before it that stay
pub staying_is_new : (p : Entry → Bool) (es : List Entry) (i : ℕ) (e : Entry) → IsDistinct eq-value.it (keys_of es) → slice_get es i ≡ Some e → lookup (eq-value.it e.0) (filter p (take i es)) ≡ None
staying_is_new p es i e distinct at =
    new_at key_laws (λ (a b : WorldKey). (key_is a b).0) es i e.0 e.1 distinct at (filter p (take i es)) (λ d has. (Contains-filter p (take i es) d has).0)

-- what the first entries give, and one more
pub flat-next : {X : Type 0} (f : X → List ℕ) (xs : List X) (i : ℕ) (x : X) → slice_get xs i ≡ Some x → flat_map f (take (i + 1) xs) ≡ flat_map f (take i xs) ++ f x
flat-next f xs i x at = ap (flat_map f) (take-next_at xs i x at) ∙ flat_map-append f (take i xs) (x ∷ []) ∙ ap (λ (ys : List ℕ). flat_map f (take i xs) ++ ys) (append-nil (f x))
