-- Truth values that are joined, and what a test of a list tells.
use Rattle.std.proofs.Common.{◌≡◌, ◌⊎◌, ◌&&◌, ◌||◌, inl, inr, Bool, true, false, List, [], ◌∷◌, refl, sym, subst, Contains}
use Rattle.std.specs.List.{list_all, list_any}
use Rattle.wit_digraph.specs.facts.MemberFacts.{Contains-cons_cases, Contains-here, Contains-nil, Contains-there}

pub or_left : (b c : Bool) → b ≡ true → b || c ≡ true
or_left true c h = refl
or_left false c h = cc

pub or_right : (b c : Bool) → c ≡ true → b || c ≡ true
or_right true c h = refl
or_right false c h = h

pub or_cases : (b c : Bool) → b || c ≡ true → (b ≡ true) ⊎ (c ≡ true)
or_cases true c h = inl refl
or_cases false c h = inr h

pub and_parts : (b c : Bool) → b && c ≡ true → (b ≡ true) × (c ≡ true)
and_parts true c h = (refl, h)
and_parts false c h = cc

pub and_both : (b c : Bool) → b ≡ true → c ≡ true → b && c ≡ true
and_both true c first second = second
and_both false c first second = cc

module _ {X : Type 0} (p : X → Bool) where
  -- all pass
  pub all_pass : (xs : List X) → ((x : X) → Contains xs x → p x ≡ true) → list_all p xs ≡ true
  all_pass [] each = refl
  all_pass (x ∷ xs) each = and_both (p x) (list_all p xs) (each x (Contains-here x xs)) (all_pass xs (λ y has. each y (Contains-there x y xs has)))

  pub passes : (xs : List X) → list_all p xs ≡ true → (x : X) → Contains xs x → p x ≡ true
  passes [] all x has = absurd (Contains-nil has)
  passes (y ∷ xs) all x has =
      let parts = and_parts (p y) (list_all p xs) all in
      elim (Contains-cons_cases y x xs has) [ inl same ↦ subst (λ (z : X). p z ≡ true) same parts.0 | inr more ↦ passes xs parts.1 x more ]

  -- some one passes
  pub one_passes : (xs : List X) (x : X) → Contains xs x → p x ≡ true → list_any p xs ≡ true
  one_passes [] x has pass = absurd (Contains-nil has)
  one_passes (y ∷ xs) x has pass =
      elim (Contains-cons_cases y x xs has) [
        | inl same ↦ or_left (p y) (list_any p xs) (subst (λ (z : X). p z ≡ true) (sym same) pass)
        | inr more ↦ or_right (p y) (list_any p xs) (one_passes xs x more pass)
      ]

  pub passing : (xs : List X) → list_any p xs ≡ true → (x : X) × Contains xs x × (p x ≡ true)
  passing [] any = cc
  passing (y ∷ xs) any =
      elim (or_cases (p y) (list_any p xs) any) [
        | inl pass ↦ (y, Contains-here y xs, pass)
        | inr more ↦ let rest = passing xs more in (rest.0, Contains-there y rest.0 xs rest.1, rest.2)
      ]
