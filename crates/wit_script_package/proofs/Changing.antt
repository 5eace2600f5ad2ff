-- Lists and tables in which a value is changed in place.
use Rattle.std.proofs.Common.{◌≡◌, ℕ, ◌+◌, zero, suc, Bool, true, false, cond, not, List, [], ◌∷◌, ◌++◌, length, Option, None, Some, is_some, nat_lt, position, slice_get, slice_set, refl, sym, ap, arith, Result, Ok, Err, OnOk}
use Rattle.std.specs.List.{position_or_len}
use Rattle.std.specs.Map.{keys_of, lookup, values_of}
use Rattle.indexmap.specs.IndexMap.{set_value_at}
use Rattle.wit_script_package.specs.steps.Mentioning.{with_value}
use Rattle.wit_script_lines.specs.facts.OptionFacts.{same-some}

module _ {X : Type 0} where
  -- what stands in a list, put there again
  pub set-same : (xs : List X) (i : ℕ) (x : X) → slice_get xs i ≡ Some x → slice_set xs i x ≡ xs
  set-same [] i x at = cc
  set-same (y ∷ ys) zero x at = ap (λ (z : X). z ∷ ys) (sym (same-some y x at))
  set-same (y ∷ ys) (suc i) x at = ap (λ (l : List X). y ∷ l) (set-same ys i x at)

module _ {K V : Type 0} where
  -- a value of a table, put there again
  pub set-value-same : (es : List (K × V)) (i : ℕ) (v : V) → slice_get (values_of es) i ≡ Some v → set_value_at es i v ≡ es
  set-value-same [] i v at = refl
  set-value-same (e ∷ es) zero v at = ap (λ (w : V). (e.0, w) ∷ es) (sym (same-some e.1 v at))
  set-value-same (e ∷ es) (suc i) v at = ap (λ (l : List (K × V)). e ∷ l) (set-value-same es i v at)

-- an index is the place
index-place : {K : Type 0} (test : K → Bool) (ks : List K) (i : ℕ) → position test ks ≡ Some i → position_or_len test ks ≡ i
index-place test ks i found = by (nat_lt (position_or_len test ks) (length ks)) found where
  by : (b : Bool) → cond b (Some (position_or_len test ks)) None ≡ Some i → position_or_len test ks ≡ i
  by true found = cc
  by false found = cc

module _ {K V : Type 0} (test : K → Bool) (key : K) (first : V) (change : V → V) where
  -- a value at the place of its key
  value-place : (es : List (K × V)) (i : ℕ) (v : V) → position_or_len test (keys_of es) ≡ i → slice_get (values_of es) i ≡ Some v → with_value test key first change es ≡ set_value_at es i (change v)
  value-place [] i v place at = cc
  value-place (e ∷ es) i v place at = by (test e.0) i place at (λ j later there. value-place es j v later there) where
    by : (b : Bool) (j : ℕ) → cond (not b) (1 + position_or_len test (keys_of es)) 0 ≡ j → slice_get (e.1 ∷ values_of es) j ≡ Some v
        → ((k : ℕ) → position_or_len test (keys_of es) ≡ k → slice_get (values_of es) k ≡ Some v → with_value test key first change es ≡ set_value_at es k (change v))
        → cond b ((e.0, change e.1) ∷ es) (e ∷ with_value test key first change es) ≡ set_value_at (e ∷ es) j (change v)
    by true zero place at rest = ap (λ (u : V). (e.0, change u) ∷ es) (same-some e.1 v at)
    by true (suc j) place at rest = cc
    by false zero place at rest = absurd (omega arith)
    by false (suc j) place at rest = ap (λ (l : List (K × V)). e ∷ l) (rest j (omega arith) at)

  pub value-at : (es : List (K × V)) (i : ℕ) (v : V) → position test (keys_of es) ≡ Some i → slice_get (values_of es) i ≡ Some v → with_value test key first change es ≡ set_value_at es i (change v)
  value-at es i v found at = value-place es i v (index-place test (keys_of es) i found) at

  -- a key that comes last
  pub value-last : (es : List (K × V)) → lookup test es ≡ None → with_value test key first change es ≡ es ++ (key, change first) ∷ []
  value-last [] none = refl
  value-last (e ∷ es) none = by (test e.0) none (λ later. value-last es later) where
    by : (b : Bool) → cond b (Some e.1) (lookup test es) ≡ None → (lookup test es ≡ None → with_value test key first change es ≡ es ++ (key, change first) ∷ []) → cond b ((e.0, change e.1) ∷ es) (e ∷ with_value test key first change es) ≡ e ∷ (es ++ (key, change first) ∷ [])
    by true none rest = cc
    by false none rest = ap (λ (l : List (K × V)). e ∷ l) (rest none)

-- nothing is found
pub nothing : {V : Type 0} (o : Option V) → false ≡ is_some o → o ≡ None
nothing None none = refl
nothing (Some v) none = cc

-- what holds where a call is done, by what holds of it
pub on-ok : {A E P Q : Type 0} (r : Result A E) → OnOk r P → (P → Q) → OnOk r Q
on-ok (Ok x) is next = next is
on-ok (Err e) is next = tt
