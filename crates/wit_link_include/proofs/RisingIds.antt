-- Ids that rise, each with the id that it goes to.
use Rattle.std.proofs.Common.{◌≡◌, ◌∙◌, ℕ, zero, suc, ◌+◌, ◌<◌, ◌⊎◌, Bool, true, false, cond, List, [], ◌∷◌, ◌++◌, length, take, None, Some, Contains, nat_eq, slice_get, refl, sym, ap, subst, inl, inr, arith}
use Rattle.std.specs.List.Sorted.{IsStrictlySortedBy}
use Rattle.std.specs.Map.{keys_of, lookup}
use Rattle.std.specs.Ordering.{nat_cmp}
use Rattle.std.proofs.lemmas.Bool.{eq-eqb, eqb-true, false_from_ne_true}
use Rattle.std.proofs.lemmas.Map.Keys.{below_from_sorted}
use Rattle.std.proofs.lemmas.Option.{get_or_from_slice_get, slice_get_within}
use Rattle.wit_digraph.specs.facts.MemberFacts.{Contains-cons_cases, Contains-here, Contains-nil, Contains-there}
use Rattle.wit_link_include.specs.steps.Included.{numbered}

-- earlier ids are lower
pub rises : (ids : List ℕ) (i j a b : ℕ) → IsStrictlySortedBy nat_cmp ids → i < j → slice_get ids i ≡ Some a → slice_get ids j ≡ Some b → a < b
rises ids i j a b sorted before at_i at_j =
    let less = below_from_sorted ids i j 0 sorted before (slice_get_within ids j b at_j) in
    let one = get_or_from_slice_get ids i a 0 at_i in
    let two = get_or_from_slice_get ids j b 0 at_j in
    omega arith

pub numbered-push : (n : ℕ) (xs : List ℕ) (x : ℕ) → numbered n (xs ++ x ∷ []) ≡ numbered n xs ++ (x, n + length xs) ∷ []
numbered-push n [] x = let same : n ≡ n + 0 = omega arith in ap (λ (k : ℕ). (x, k) ∷ []) same
numbered-push n (y ∷ xs) x =
    let rest = numbered-push (n + 1) xs x in
    let same : n + 1 + length xs ≡ n + length (y ∷ xs) = omega arith in
    ap (λ (w : List (ℕ × ℕ)). (y, n) ∷ w) (rest ∙ ap (λ (k : ℕ). numbered (n + 1) xs ++ (x, k) ∷ []) same)

pub numbered-keys : (n : ℕ) (xs : List ℕ) → keys_of (numbered n xs) ≡ xs
numbered-keys n [] = refl
numbered-keys n (x ∷ xs) = ap (λ (w : List ℕ). x ∷ w) (numbered-keys (n + 1) xs)

-- an id that isn't there isn't remapped
pub numbered-none : (n : ℕ) (xs : List ℕ) (x : ℕ) → (Contains xs x → ⊥) → lookup (nat_eq x) (numbered n xs) ≡ None
numbered-none n [] x absent = refl
numbered-none n (y ∷ xs) x absent =
    let apart : nat_eq x y ≡ false = false_from_ne_true (nat_eq x y) (λ same. absent (subst (λ (k : ℕ). Contains (y ∷ xs) k) (sym (eqb-true x y same)) (Contains-here y xs))) in
    ap (λ (b : Bool). cond b (Some n) (lookup (nat_eq x) (numbered (n + 1) xs))) apart ∙ numbered-none (n + 1) xs x (λ has. absent (Contains-there y x xs has))

-- the id at a place goes so many further on
pub numbered-at : (n : ℕ) (xs : List ℕ) (i x : ℕ) → ((j y : ℕ) → j < i → slice_get xs j ≡ Some y → y ≡ x → ⊥) → slice_get xs i ≡ Some x → lookup (nat_eq x) (numbered n xs) ≡ Some (n + i)
numbered-at n [] i x first at = cc
numbered-at n (y ∷ xs) zero x first at =
    let same : x ≡ y = cc in
    let here : nat_eq x y ≡ true = eq-eqb x y same in
    let zero_on : n ≡ n + 0 = omega arith in
    ap (λ (b : Bool). cond b (Some n) (lookup (nat_eq x) (numbered (n + 1) xs))) here ∙ ap (λ (k : ℕ). Some k) zero_on
numbered-at n (y ∷ xs) (suc i) x first at =
    let apart : nat_eq x y ≡ false = false_from_ne_true (nat_eq x y) (λ same. first 0 y (omega arith) refl (sym (eqb-true x y same))) in
    let on : n + 1 + i ≡ n + suc i = omega arith in
    ap (λ (b : Bool). cond b (Some n) (lookup (nat_eq x) (numbered (n + 1) xs))) apart
    ∙ (numbered-at (n + 1) xs i x (λ j z before at_j. first (suc j) z (omega arith) at_j) at ∙ ap (λ (k : ℕ). Some k) on)

-- what stands among the first ones stands there
pub among_first : (xs : List ℕ) (i x : ℕ) → Contains (take i xs) x → (j : ℕ) × (j < i) × (slice_get xs j ≡ Some x)
among_first [] i x has = absurd (take_nil i has)
  where
    take_nil : (k : ℕ) → Contains (take k []) x → ⊥
    take_nil zero h = Contains-nil h
    take_nil (suc k) h = Contains-nil h
among_first (y ∷ xs) zero x has = absurd (Contains-nil has)
among_first (y ∷ xs) (suc i) x has = by (Contains-cons_cases y x (take i xs) has) (λ there. among_first xs i x there)
  where
    by : (y ≡ x) ⊎ Contains (take i xs) x → (Contains (take i xs) x → (j : ℕ) × (j < i) × (slice_get xs j ≡ Some x)) → (j : ℕ) × (j < suc i) × (slice_get (y ∷ xs) j ≡ Some x)
    by (inl same) rest = (0, omega arith, ap (λ (k : ℕ). Some k) same)
    by (inr there) rest = let found = rest there in let below = found.1 in (suc found.0, omega arith, found.2)

-- the id at a place isn't among those before it
pub new_there : (ids : List ℕ) (i x : ℕ) → IsStrictlySortedBy nat_cmp ids → slice_get ids i ≡ Some x → Contains (take i ids) x → ⊥
new_there ids i x sorted at has =
    let found = among_first ids i x has in
    let less = rises ids found.0 i x x sorted found.1 found.2 at in
    omega arith

pub length_first : (xs : List ℕ) (i x : ℕ) → slice_get xs i ≡ Some x → length (take i xs) ≡ i
length_first [] i x at = cc
length_first (y ∷ xs) zero x at = refl
length_first (y ∷ xs) (suc i) x at = ap suc (length_first xs i x at)
