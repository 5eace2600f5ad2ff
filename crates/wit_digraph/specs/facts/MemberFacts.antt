-- Facts on members of lists, by the first element and of lists joined end to end, for the proofs of this
-- crate and of the crates above. They say nothing about this crate's code.
use Rattle.std.proofs.Common.{◌≡◌, ◌<◌, ℕ, zero, suc, false, List, [], ◌∷◌, ◌⊎◌, inl, inr, get_or, length, take, refl, sym, subst, arith, nat_eq, Contains}
use Rattle.std.specs.List.{IsDistinct, flat_map}
use Rattle.std.proofs.lemmas.Bool.{eqb-false}
use Rattle.std.proofs.lemmas.List.Elements.{All-from_recursion, Contains-append_cases, Contains-append_left, Contains-append_right}

pub Contains-nil : {X : Type 0} {x : X} → Contains [] x → ⊥
Contains-nil h = omega (arith, h.1)

pub Contains-here : {X : Type 0} (x : X) (xs : List X) → Contains (x ∷ xs) x
Contains-here x xs = (0, omega arith, refl)

pub Contains-there : {X : Type 0} (x y : X) (xs : List X) → Contains xs y → Contains (x ∷ xs) y
Contains-there x y xs h = (suc h.0, omega (arith, h.1), h.2)

pub Contains-cons_cases : {X : Type 0} (x y : X) (xs : List X) → Contains (x ∷ xs) y → (x ≡ y) ⊎ Contains xs y
Contains-cons_cases x y xs (zero, below, is) = inl is
Contains-cons_cases x y xs (suc k, below, is) = inr (k, omega (arith, below), is)

pub flat_map-same : {X A : Type 0} (f g : X → List A) (xs : List X) → ((x : X) → Contains xs x → f x ≡ g x) → flat_map f xs ≡ flat_map g xs
flat_map-same f g [] same = refl
flat_map-same f g (x ∷ xs) same =
    let here : f x ≡ g x = same x (Contains-here x xs) in
    let rest : flat_map f xs ≡ flat_map g xs = flat_map-same f g xs (λ y h. same y (Contains-there x y xs h)) in
    cc

pub Contains-flat_map : {X A : Type 0} (f : X → List A) (xs : List X) (x : X) (y : A) → Contains xs x → Contains (f x) y → Contains (flat_map f xs) y
Contains-flat_map f [] x y among has = absurd (Contains-nil among)
Contains-flat_map f (z ∷ xs) x y among has =
    elim (Contains-cons_cases z x xs among) [
      | inl same ↦ Contains-append_left (f z) (flat_map f xs) y (subst (λ w. Contains (f w) y) (sym same) has)
      | inr there ↦ Contains-append_right (f z) (flat_map f xs) y (Contains-flat_map f xs x y there has)
    ]

pub Contains-flat_map_cases : {X A : Type 0} (f : X → List A) (xs : List X) (y : A) → Contains (flat_map f xs) y → (x : X) × (Contains xs x × Contains (f x) y)
Contains-flat_map_cases f [] y has = absurd (Contains-nil has)
Contains-flat_map_cases f (z ∷ xs) y has =
    elim (Contains-append_cases (f z) (flat_map f xs) y has) [
      | inl here ↦ (z, (Contains-here z xs, here))
      | inr there ↦ let more = Contains-flat_map_cases f xs y there in (more.0, (Contains-there z more.0 xs more.1.0, more.1.1))
    ]

-- a member of a list in which each stands once isn't among those before it
pub not_before : (xs : List ℕ) (i : ℕ) → IsDistinct nat_eq xs → i < length xs → Contains (take i xs) (get_or xs i 0) → ⊥
unfolding IsDistinct
not_before [] i distinct below has = absurd (omega (arith, below))
not_before (y ∷ ys) zero distinct below has = Contains-nil has
not_before (y ∷ ys) (suc i) distinct below has =
    elim (Contains-cons_cases y (get_or ys i 0) (take i ys) has) [
      | inl same ↦ eqb-false y (get_or ys i 0) (All-from_recursion (λ z. nat_eq y z ≡ false) ys distinct.0 i 0 (omega (arith, below))) same
      | inr there ↦ not_before ys i distinct.1 (omega (arith, below)) there
    ]
