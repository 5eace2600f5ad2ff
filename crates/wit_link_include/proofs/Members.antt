-- Tests of the members of a list, and keys of a table under which a value is put.
use Rattle.std.proofs.Common.{◌≡◌, ◌∙◌, ℕ, Bool, true, false, cond, ◌&&◌, ◌||◌, List, [], ◌∷◌, ◌⊎◌, inl, inr, Option, None, Some, Contains, is_some, nat_eq, refl, sym, ap, subst}
use Rattle.std.specs.List.{list_any}
use Rattle.std.specs.Map.{keys_of, lookup}
use Rattle.std.proofs.lemmas.Bool.{eq-eqb, eqb-true, false≢true}
use Rattle.wit_digraph.specs.facts.MemberFacts.{Contains-cons_cases, Contains-here, Contains-nil, Contains-there}

-- two truth values that hold of the same
pub same_truth : (a b : Bool) → (a ≡ true → b ≡ true) → (b ≡ true → a ≡ true) → a ≡ b
same_truth true b to back = sym (to refl)
same_truth false true to back = back refl
same_truth false false to back = refl

-- `&&` and `||`
pub or_cases : (a b : Bool) → (a || b) ≡ true → (a ≡ true) ⊎ (b ≡ true)
or_cases true b h = inl refl
or_cases false b h = inr h

pub and_both : (a b : Bool) → (a && b) ≡ true → (a ≡ true) × (b ≡ true)
and_both true b h = (refl, h)
and_both false b h = absurd (false≢true h)

pub and_of : (a b : Bool) → a ≡ true → b ≡ true → (a && b) ≡ true
and_of true b h k = k
and_of false b h k = absurd (false≢true h)

pub or_left : (a b : Bool) → a ≡ true → (a || b) ≡ true
or_left true b h = refl
or_left false b h = absurd (false≢true h)

pub or_right : (a b : Bool) → b ≡ true → (a || b) ≡ true
or_right true b h = refl
or_right false b h = h

module _ {X : Type 0} (p : X → Bool) where
  pub any_in : (xs : List X) (x : X) → Contains xs x → p x ≡ true → list_any p xs ≡ true
  any_in [] x has is = absurd (Contains-nil has)
  any_in (y ∷ xs) x has is = by (p y) refl (Contains-cons_cases y x xs has) (λ there. any_in xs x there is)
    where
      by : (b : Bool) → p y ≡ b → (y ≡ x) ⊎ Contains xs x → (Contains xs x → list_any p xs ≡ true) → (b || list_any p xs) ≡ true
      by true now cases rest = refl
      by false now (inl same) rest = absurd (false≢true (sym now ∙ (ap p same ∙ is)))
      by false now (inr there) rest = rest there

  pub any_out : (xs : List X) → list_any p xs ≡ true → (x : X) × (Contains xs x × (p x ≡ true))
  any_out [] is = absurd (false≢true is)
  any_out (y ∷ xs) is = by (p y) refl is (λ more. any_out xs more)
    where
      by : (b : Bool) → p y ≡ b → (b || list_any p xs) ≡ true → (list_any p xs ≡ true → (x : X) × (Contains xs x × (p x ≡ true))) → (x : X) × (Contains (y ∷ xs) x × (p x ≡ true))
      by true now more rest = (y, (Contains-here y xs, now))
      by false now more rest = let found = rest more in (found.0, (Contains-there y found.0 xs found.1.0, found.1.1))

-- two tests that agree on the members of a list
pub any_alike : {X : Type 0} (p q : X → Bool) (xs : List X) → ((x : X) → Contains xs x → p x ≡ q x) → list_any p xs ≡ list_any q xs
any_alike p q xs alike =
    same_truth (list_any p xs) (list_any q xs)
    (λ h. let found = any_out p xs h in any_in q xs found.0 found.1.0 (sym (alike found.0 found.1.0) ∙ found.1.1))
    (λ h. let found = any_out q xs h in any_in p xs found.0 found.1.0 (alike found.0 found.1.0 ∙ found.1.1))

-- ---- keys

module _ {V : Type 0} where
  -- a key has a value, and what has a value is a key
  pub value_at : (es : List (ℕ × V)) (k : ℕ) → Contains (keys_of es) k → (v : V) × (lookup (nat_eq k) es ≡ Some v)
  value_at [] k has = absurd (Contains-nil has)
  value_at (e ∷ es) k has = by (nat_eq k e.0) refl (Contains-cons_cases e.0 k (keys_of es) has) (λ there. value_at es k there)
    where
      by : (b : Bool) → nat_eq k e.0 ≡ b → (e.0 ≡ k) ⊎ Contains (keys_of es) k → (Contains (keys_of es) k → (v : V) × (lookup (nat_eq k) es ≡ Some v))
          → (v : V) × (cond b (Some e.1) (lookup (nat_eq k) es) ≡ Some v)
      by true now cases rest = (e.1, refl)
      by false now (inl same) rest = absurd (false≢true (sym now ∙ eq-eqb k e.0 (sym same)))
      by false now (inr there) rest = rest there

  pub key_at : (es : List (ℕ × V)) (k : ℕ) (v : V) → lookup (nat_eq k) es ≡ Some v → Contains (keys_of es) k
  key_at [] k v is = cc
  key_at (e ∷ es) k v is = by (nat_eq k e.0) refl is (λ more. key_at es k v more)
    where
      by : (b : Bool) → nat_eq k e.0 ≡ b → cond b (Some e.1) (lookup (nat_eq k) es) ≡ Some v → (lookup (nat_eq k) es ≡ Some v → Contains (keys_of es) k) → Contains (e.0 ∷ keys_of es) k
      by true now more rest = subst (λ (n : ℕ). Contains (e.0 ∷ keys_of es) n) (sym (eqb-true k e.0 now)) (Contains-here e.0 (keys_of es))
      by false now more rest = Contains-there e.0 k (keys_of es) (rest more)

module _ {V : Type 0} where
  -- a key that is told to be there
  pub told_key : (es : List (ℕ × V)) (k : ℕ) → is_some (lookup (nat_eq k) es) ≡ true → Contains (keys_of es) k
  told_key es k is = by (lookup (nat_eq k) es) refl is
    where
      by : (o : Option V) → lookup (nat_eq k) es ≡ o → is_some o ≡ true → Contains (keys_of es) k
      by None at is = absurd (false≢true is)
      by (Some v) at is = key_at es k v at

-- a table in which a value was put under a key
module _ {V : Type 0} (es fs : List (ℕ × V)) (k : ℕ) (v : V) (put : (q : ℕ) → lookup (nat_eq q) fs ≡ cond (nat_eq k q) (Some v) (lookup (nat_eq q) es)) where
  pub put_value : (q : ℕ) (w : V) → lookup (nat_eq q) fs ≡ Some w → ((q ≡ k) × (w ≡ v)) ⊎ (lookup (nat_eq q) es ≡ Some w)
  put_value q w at = by (nat_eq k q) refl (sym (put q) ∙ at)
    where
      by : (b : Bool) → nat_eq k q ≡ b → cond b (Some v) (lookup (nat_eq q) es) ≡ Some w → ((q ≡ k) × (w ≡ v)) ⊎ (lookup (nat_eq q) es ≡ Some w)
      by true is got = inl (sym (eqb-true k q is), cc)
      by false is got = inr got

  pub put_from : (q : ℕ) → Contains (keys_of fs) q → Contains (keys_of es) q ⊎ (q ≡ k)
  put_from q has =
      let found = value_at fs q has in
      elim (put_value q found.0 found.1) [ inl new ↦ inr new.0 | inr old ↦ inl (key_at es q found.0 old) ]

  pub put_kept : (q : ℕ) → Contains (keys_of es) q → Contains (keys_of fs) q
  put_kept q has = let found = value_at es q has in by (nat_eq k q) refl found.0 found.1
    where
      by : (b : Bool) → nat_eq k q ≡ b → (w : V) → lookup (nat_eq q) es ≡ Some w → Contains (keys_of fs) q
      by true is w at = key_at fs q v (put q ∙ ap (λ (b : Bool). cond b (Some v) (lookup (nat_eq q) es)) is)
      by false is w at = key_at fs q w (put q ∙ (ap (λ (b : Bool). cond b (Some v) (lookup (nat_eq q) es)) is ∙ at))

  pub put_new : Contains (keys_of fs) k
  put_new = key_at fs k v (put k ∙ ap (λ (b : Bool). cond b (Some v) (lookup (nat_eq k) es)) (eq-eqb k k refl))
