-- Lists that a test picks from.
use Rattle.std.proofs.Common.{◌≡◌, ℕ, ◌<◌, ◌+◌, Bool, true, false, cond, not, inl, inr, List, [], ◌∷◌, ◌++◌, filter, get_or, take, length, refl, sym, ap, subst, ◌∙◌, Contains}
use Rattle.std.specs.List.{flat_map}
use Rattle.std.proofs.lemmas.Bool.{cases_Bool, false≢true, cond-true, cond-false}
use Rattle.std.proofs.lemmas.List.{append-nil}
use Rattle.std.proofs.lemmas.List.Elements.{filter-append, filter_more}
use Rattle.wit_digraph.specs.facts.MemberFacts.{Contains-nil, Contains-here, Contains-there, Contains-cons_cases}

pub Contains-filter : {X : Type 0} (p : X → Bool) (xs : List X) (x : X) → Contains (filter p xs) x → Contains xs x × (p x ≡ true)
Contains-filter p [] x has = absurd (Contains-nil has)
Contains-filter p (y ∷ xs) x has =
    elim (cases_Bool (p y)) [
      | inl pass ↦ elim (Contains-cons_cases y x (filter p xs) (rw (cond-true (p y) (y ∷ filter p xs) (filter p xs) pass) at has)) [
        | inl same ↦ (subst (λ z. Contains (y ∷ xs) z) same (Contains-here y xs), subst (λ z. p z ≡ true) same pass)
        | inr there ↦ let more = Contains-filter p xs x there in (Contains-there y x xs more.0, more.1)
      ]
      | inr fails ↦ let more = Contains-filter p xs x (rw (cond-false (p y) (y ∷ filter p xs) (filter p xs) fails) at has) in (Contains-there y x xs more.0, more.1)
    ]

pub filter-pass : {X : Type 0} (p : X → Bool) (x : X) (xs : List X) → p x ≡ true → filter p (x ∷ xs) ≡ x ∷ filter p xs
filter-pass p x xs pass = cond-true (p x) (x ∷ filter p xs) (filter p xs) pass

pub filter-fail : {X : Type 0} (p : X → Bool) (x : X) (xs : List X) → p x ≡ false → filter p (x ∷ xs) ≡ filter p xs
filter-fail p x xs fails = cond-false (p x) (x ∷ filter p xs) (filter p xs) fails

pub filter-all : {X : Type 0} (p : X → Bool) (xs : List X) → ((x : X) → Contains xs x → p x ≡ true) → filter p xs ≡ xs
filter-all p [] passes = refl
filter-all p (x ∷ xs) passes = filter-pass p x xs (passes x (Contains-here x xs)) ∙ ap (λ ys. x ∷ ys) (filter-all p xs (λ y has. passes y (Contains-there x y xs has)))

pub filter-none : {X : Type 0} (p : X → Bool) (xs : List X) → ((x : X) → Contains xs x → p x ≡ false) → filter p xs ≡ []
filter-none p [] fails = refl
filter-none p (x ∷ xs) fails = filter-fail p x xs (fails x (Contains-here x xs)) ∙ filter-none p xs (λ y has. fails y (Contains-there x y xs has))

-- tests that tell the same of the members pick the same
pub filter-same : {X : Type 0} (p q : X → Bool) (xs : List X) → ((x : X) → Contains xs x → p x ≡ q x) → filter p xs ≡ filter q xs
filter-same p q [] same = refl
filter-same p q (x ∷ xs) same =
    ap (λ b. cond b (x ∷ filter p xs) (filter p xs)) (same x (Contains-here x xs))
    ∙ ap (λ ys. cond (q x) (x ∷ ys) ys) (filter-same p q xs (λ y has. same y (Contains-there x y xs has)))

pub Contains-filtered : {X : Type 0} (p : X → Bool) (xs : List X) (x : X) → Contains xs x → p x ≡ true → Contains (filter p xs) x
Contains-filtered p [] x has pass = absurd (Contains-nil has)
Contains-filtered p (y ∷ xs) x has pass =
    elim (Contains-cons_cases y x xs has) [
      | inl same ↦ rw (filter-pass p y xs (subst (λ z. p z ≡ true) (sym same) pass)) (subst (λ z. Contains (y ∷ filter p xs) z) same (Contains-here y (filter p xs)))
      | inr there ↦ elim (cases_Bool (p y)) [
        | inl kept ↦ rw (filter-pass p y xs kept) (Contains-there y x (filter p xs) (Contains-filtered p xs x there pass))
        | inr left ↦ rw (filter-fail p y xs left) (Contains-filtered p xs x there pass)
      ]
    ]

pub filter-flat_map : {X A : Type 0} (p : A → Bool) (f : X → List A) (xs : List X) → filter p (flat_map f xs) ≡ flat_map (λ x. filter p (f x)) xs
filter-flat_map p f [] = refl
filter-flat_map p f (x ∷ xs) = filter-append p (f x) (flat_map f xs) ∙ ap (λ ys. filter p (f x) ++ ys) (filter-flat_map p f xs)

pub not_true : (b : Bool) → not b ≡ true → b ≡ false
not_true true is = absurd (false≢true is)
not_true false is = refl

-- one more number, picked or not
pub pick_next : (p : ℕ → Bool) (xs : List ℕ) (at : ℕ) (now new : List ℕ) → at < length xs → p (get_or xs at 0) ≡ true → now ≡ filter p (take at xs) → new ≡ now ++ get_or xs at 0 ∷ [] → new ≡ filter p (take (at + 1) xs)
pick_next p xs at now new below pass now_is new_is =
    new_is ∙ ap (λ (ys : List ℕ). ys ++ get_or xs at 0 ∷ []) now_is ∙ sym (filter_more p xs at 0 below ∙ ap (λ (ys : List ℕ). filter p (take at xs) ++ ys) (cond-true (p (get_or xs at 0)) (get_or xs at 0 ∷ []) [] pass))

pub pick_skip : (p : ℕ → Bool) (xs : List ℕ) (at : ℕ) (now new : List ℕ) → at < length xs → p (get_or xs at 0) ≡ false → now ≡ filter p (take at xs) → new ≡ now → new ≡ filter p (take (at + 1) xs)
pick_skip p xs at now new below fails now_is new_is =
    new_is ∙ now_is ∙ sym (filter_more p xs at 0 below ∙ ap (λ (ys : List ℕ). filter p (take at xs) ++ ys) (cond-false (p (get_or xs at 0)) (get_or xs at 0 ∷ []) [] fails) ∙ append-nil (filter p (take at xs)))
