-- Flags for numbers, set one after another.
use Rattle.std.proofs.Common.{◌≡◌, ◌≢◌, ◌∙◌, ◌+◌, ◌<◌, ◌||◌, inl, inr, ℕ, zero, suc, Bool, true, false, List, [], ◌∷◌, ◌++◌, map, length, get_or, nat_eq, take, set, replicate, refl, sym, ap, subst, arith}
use Rattle.std.specs.List.{list_any, range_with_len}
use Rattle.std.proofs.lemmas.Bool.{cases_order, ne_eqb, eq-eqb}
use Rattle.std.proofs.lemmas.List.{get_or-set_other, get_or-set_same, length-set, take_more}
use Rattle.std.proofs.lemmas.List.Folds.{list_any-append}
use Rattle.std.proofs.lemmas.List.FromFn.{fill_by_all, get_or-map-range_with_len, length-map-range_with_len}

flags_from : (f : ℕ → Bool) → ((t : ℕ) → f t ≡ false) → (a n : ℕ) → replicate n false ≡ map f (range_with_len a n)
flags_from f none a zero = refl
flags_from f none a (suc n) = ap (λ (b : Bool). b ∷ replicate n false) (sym (none a)) ∙ ap (λ (bs : List Bool). f a ∷ bs) (flags_from f none (a + 1) n)

-- no flag is set
pub flags-begun : (f : ℕ → Bool) → ((t : ℕ) → f t ≡ false) → (n : ℕ) → replicate n false ≡ map f (range_with_len 0 n)
flags-begun f none n = flags_from f none 0 n

or_false : (b c : Bool) → c ≡ false → b || c ≡ b
or_false true c h = refl
or_false false c h = h

or_true : (b c : Bool) → c ≡ true → b || c ≡ true
or_true true c h = refl
or_true false c h = h

-- one more flag is set
pub flags-next : (ids : List ℕ) (i d n k : ℕ) (marks new : List Bool) → i < length ids → k ≡ get_or ids i d → k < n → marks ≡ map (λ t. list_any (nat_eq t) (take i ids)) (range_with_len 0 n)
    → new ≡ set marks k true → new ≡ map (λ t. list_any (nat_eq t) (take (i + 1) ids)) (range_with_len 0 n)
flags-next ids i d n k marks new below is low are set_is = set_is ∙ fill_by_all q (set marks k true) n false long each
  where
    p : ℕ → Bool
    p t = list_any (nat_eq t) (take i ids)

    q : ℕ → Bool
    q t = list_any (nat_eq t) (take (i + 1) ids)

    marks_long : length marks ≡ n
    marks_long = ap length are ∙ length-map-range_with_len p 0 n

    long : length (set marks k true) ≡ n
    long = length-set marks k true ∙ marks_long

    q_is : (t : ℕ) → q t ≡ p t || (nat_eq t k || false)
    q_is t =
        ap (list_any (nat_eq t)) (take_more ids i d below ∙ ap (λ (x : ℕ). take i ids ++ x ∷ []) (sym is))
        ∙ list_any-append (nat_eq t) (take i ids) (k ∷ [])

    old : (t : ℕ) → t < n → get_or marks t false ≡ p t
    old t within = ap (λ (bs : List Bool). get_or bs t false) are ∙ get_or-map-range_with_len p 0 n t t false within (omega arith)

    other : (t : ℕ) → t ≢ k → t < n → get_or (set marks k true) t false ≡ q t
    other t apart within =
        get_or-set_other marks k t true false apart
        ∙ (old t within ∙ (sym (or_false (p t) (nat_eq t k || false) (ap (λ (b : Bool). b || false) (ne_eqb t k apart))) ∙ sym (q_is t)))

    each : (t : ℕ) → t < n → get_or (set marks k true) t false ≡ q t
    each t within = elim (cases_order t k) [
      | inl same ↦
          let one : get_or (set marks k true) t false ≡ true = ap (λ (x : ℕ). get_or (set marks k true) x false) same ∙ get_or-set_same marks k true false (subst (λ (m : ℕ). k < m) (sym marks_long) low) in
          one ∙ (sym (or_true (p t) (nat_eq t k || false) (ap (λ (b : Bool). b || false) (eq-eqb t k same))) ∙ sym (q_is t))
      | inr apart ↦ elim apart [
        | inl lower ↦ other t (λ h. omega arith) within
        | inr higher ↦ other t (λ h. omega arith) within
      ]
    ]
