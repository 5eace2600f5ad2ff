-- The order of indices in which each setter comes just behind its getter, and the ring that has it.
use Rattle.std.proofs.Common.{◌≡◌, ◌∙◌, ◌⊎◌, ◌<◌, ◌≤◌, ◌+◌, ◌-◌, ℕ, zero, suc, Bool, true, false, cond, List, [], ◌∷◌, ◌++◌, length, take, drop, drop-cons, add-one, replicate, refl, ap, sym, subst, inl, inr, arith, Option, None, Some, unwrap_or, slice_get, slice_set, get_or, nat_eq, Contains, All}
use Rattle.std.proofs.lemmas.Bool.{eq-eqb, eqb-true, ne_eqb, true≢false}
use Rattle.std.proofs.lemmas.List.{append-nil, append_assoc, drop_all, get_or-append_right, get_or-set_other, get_or-set_same, length-append, length-drop, length-replicate, length-set}
use Rattle.std.proofs.lemmas.List.Elements.{Contains-append_right, Contains-get_or}
use Rattle.std.proofs.lemmas.Option.{slice_get_within}
use Rattle.std.specs.List.{AllByRecursion, AllZip, IsDistinct}
use Rattle.wit_digraph.specs.facts.MemberFacts.{Contains-cons_cases, Contains-here, Contains-nil, Contains-there}
use Rattle.wit_labels.specs.Setters.{put_behind}
use Rattle.wit_labels.specs.facts.PlacedFacts.{put_has, put_in, put_keeps}
use Rattle.wit_labels.specs.steps.Placing.{AreLater, IsRing, Leads, order_after_getters, order_from, put_index}

get_at : {X : Type 0} (xs : List X) (i : ℕ) (x d : X) → slice_get xs i ≡ Some x → get_or xs i d ≡ x
get_at [] i x d at = cc
get_at (y ∷ ys) zero x d at = cc
get_at (y ∷ ys) (suc i) x d at = get_at ys i x d at

-- ---- one element put behind another

-- two lists whose elements stand for each other
pub zip-put : {A B : Type 0} (R : A → B → Type 0) (p : A → Bool) (q : B → Bool) (a : A) (b : B) → R a b → (xs : List A) (ys : List B)
    → ((x : A) (y : B) → Contains xs x → R x y → p x ≡ q y) → AllZip R xs ys → AllZip R (put_behind p a xs) (put_behind q b ys)
zip-put R p q a b stand [] [] alike all = (stand, tt)
zip-put R p q a b stand [] (y ∷ ys) alike all = absurd all
zip-put R p q a b stand (x ∷ xs) [] alike all = absurd all
zip-put R p q a b stand (x ∷ xs) (y ∷ ys) alike all =
    by (p x) (q y) (alike x y (Contains-here x xs) all.0) (zip-put R p q a b stand xs ys (λ z w has. alike z w (Contains-there x z xs has)) all.1)
  where
    by : (m n : Bool) → m ≡ n → AllZip R (put_behind p a xs) (put_behind q b ys)
        → AllZip R (cond m (x ∷ a ∷ xs) (x ∷ put_behind p a xs)) (cond n (y ∷ b ∷ ys) (y ∷ put_behind q b ys))
    by true true same rest = (all.0, (stand, all.1))
    by true false same rest = cc
    by false true same rest = cc
    by false false same rest = (all.0, rest)

-- ---- no index comes twice

-- no member comes twice
abbrev pub Differ : List ℕ → Type 0
Differ [] = Unit {0}
Differ (x ∷ xs) = (Contains xs x → ⊥) × Differ xs

Differ-put : (passes : ℕ → Bool) (x : ℕ) (xs : List ℕ) → (Contains xs x → ⊥) → Differ xs → Differ (put_behind passes x xs)
Differ-put passes x [] new differ = ((λ has. Contains-nil has), tt)
Differ-put passes x (z ∷ zs) new differ = by (passes z) (Differ-put passes x zs (λ has. new (Contains-there z x zs has)) differ.1)
  where
    other : x ≡ z → ⊥
    other same = new (subst (Contains (z ∷ zs)) (sym same) (Contains-here z zs))

    by : (b : Bool) → Differ (put_behind passes x zs) → Differ (cond b (z ∷ x ∷ zs) (z ∷ put_behind passes x zs))
    by true rest = (
      λ has. elim (Contains-cons_cases x z zs has) [ inl same ↦ other same | inr there ↦ differ.0 there ],
      ((λ has. new (Contains-there z x zs has)), differ.1),
    )
    by false rest = (λ has. elim (put_has passes x zs z has) [ inl same ↦ other same | inr there ↦ differ.0 there ], rest)

IsDistinct-from_differ : (xs : List ℕ) → Differ xs → IsDistinct nat_eq xs
unfolding IsDistinct
IsDistinct-from_differ [] differ = tt
IsDistinct-from_differ (x ∷ xs) differ = (each xs differ.0, IsDistinct-from_differ xs differ.1)
  where
    each : (ys : List ℕ) → (Contains ys x → ⊥) → AllByRecursion (λ y. nat_eq x y ≡ false) ys
    each [] none = tt
    each (y ∷ ys) none = (ne_eqb x y (λ same. none (subst (Contains (y ∷ ys)) (sym same) (Contains-here y ys))), each ys (λ has. none (Contains-there y x ys has)))

index-has : (i : ℕ) (o : Option ℕ) (order : List ℕ) (y : ℕ) → Contains (put_index i o order) y → (i ≡ y) ⊎ Contains order y
index-has i None order y has = Contains-cons_cases i y order has
index-has i (Some g) order y has = put_has (nat_eq g) i order y has

index-in : (i : ℕ) (o : Option ℕ) (order : List ℕ) → Contains (put_index i o order) i
index-in i None order = Contains-here i order
index-in i (Some g) order = put_in (nat_eq g) i order

index-keeps : (i : ℕ) (o : Option ℕ) (order : List ℕ) (y : ℕ) → Contains order y → Contains (put_index i o order) y
index-keeps i None order y has = Contains-there i y order has
index-keeps i (Some g) order y has = put_keeps (nat_eq g) i order y has

index-differ : (i : ℕ) (o : Option ℕ) (order : List ℕ) → (Contains order i → ⊥) → Differ order → Differ (put_index i o order)
index-differ i None order new differ = (new, differ)
index-differ i (Some g) order new differ = Differ-put (nat_eq g) i order new differ

pub order-bounds : (i : ℕ) (getters : List (Option ℕ)) (y : ℕ) → Contains (order_from i getters) y → (i ≤ y) × (y < i + length getters)
order-bounds i [] y has = absurd (Contains-nil has)
order-bounds i (o ∷ os) y has = elim (index-has i o (order_from (i + 1) os) y has) [
  | inl same ↦ (omega arith, omega arith)
  | inr there ↦ let rest = order-bounds (i + 1) os y there in (omega (arith, rest.0), omega (arith, rest.1))
]

pub order-has : (i : ℕ) (getters : List (Option ℕ)) (y : ℕ) → i ≤ y → y < i + length getters → Contains (order_from i getters) y
order-has i [] y low high = absurd (omega (arith, low, high))
order-has i (o ∷ os) y low high = elim (first_or_later i y low) [
  | inl same ↦ subst (Contains (put_index i o (order_from (i + 1) os))) same (index-in i o (order_from (i + 1) os))
  | inr later ↦ index-keeps i o (order_from (i + 1) os) y (order-has (i + 1) os y later (omega (arith, high)))
]
  where
    first_or_later : (m n : ℕ) → m ≤ n → (m ≡ n) ⊎ (m + 1 ≤ n)
    first_or_later m n within = grind arith

order-differ : (i : ℕ) (getters : List (Option ℕ)) → Differ (order_from i getters)
order-differ i [] = tt
order-differ i (o ∷ os) = index-differ i o (order_from (i + 1) os) (λ has. let low = (order-bounds (i + 1) os i has).0 in omega (arith, low)) (order-differ (i + 1) os)

pub order-once : (getters : List (Option ℕ)) → IsDistinct nat_eq (order_after_getters getters)
order-once getters = IsDistinct-from_differ (order_after_getters getters) (order-differ 0 getters)

pub order-below : (getters : List (Option ℕ)) → All (λ place. place < length getters) (order_after_getters getters)
order-below getters k d within =
    let bounds = order-bounds 0 getters (get_or (order_after_getters getters) k d) (Contains-get_or (order_after_getters getters) k d within) in
    omega (arith, bounds.1)

order-long : (i : ℕ) (getters : List (Option ℕ)) → length (order_from i getters) ≡ length getters
order-long i [] = refl
order-long i (o ∷ os) = one o ∙ ap suc (order-long (i + 1) os)
  where
    put_long : (passes : ℕ → Bool) (xs : List ℕ) → length (put_behind passes i xs) ≡ suc (length xs)
    put_long passes [] = refl
    put_long passes (z ∷ zs) = by (passes z) (put_long passes zs)
      where
        by : (b : Bool) → length (put_behind passes i zs) ≡ suc (length zs) → length (cond b (z ∷ i ∷ zs) (z ∷ put_behind passes i zs)) ≡ suc (suc (length zs))
        by true rest = refl
        by false rest = ap suc rest

    one : (p : Option ℕ) → length (put_index i p (order_from (i + 1) os)) ≡ suc (length (order_from (i + 1) os))
    one None = refl
    one (Some g) = put_long (nat_eq g) (order_from (i + 1) os)

-- ---- the ring

leads-same : (next new : List ℕ) (i : ℕ) (order : List ℕ) (end : ℕ) → ((x : ℕ) → Contains order x → get_or new x 0 ≡ get_or next x 0) → Leads next i order end → Leads new i order end
leads-same next new i [] end same leads = leads
leads-same next new i (o ∷ order) end same leads = (
  leads.0,
  subst (λ (n : ℕ). Leads new n order end) (sym (same o (Contains-here o order))) (leads-same next new (get_or next o 0) order end (λ x has. same x (Contains-there o x order has)) leads.1),
)

-- what comes after each index when i is put behind another
record IsPut (next new : List ℕ) (before i : ℕ) : Type 0 where
  pub before_is : get_or new before 0 ≡ i
  pub after_is : get_or new i 0 ≡ get_or next before 0
  pub others : (x : ℕ) → (x ≡ before → ⊥) → (x ≡ i → ⊥) → get_or new x 0 ≡ get_or next x 0

leads-put : (next new : List ℕ) (g i : ℕ) → IsPut next new g i → (at : ℕ) (order : List ℕ) (end : ℕ) → Contains order g → (Contains order i → ⊥) → Differ order
    → Leads next at order end → Leads new at (put_behind (nat_eq g) i order) end
leads-put next new g i put at [] end has none differ leads = absurd (Contains-nil has)
leads-put next new g i put at (o ∷ order) end has none differ leads =
    by (nat_eq g o) refl (λ there apart. leads-put next new g i put (get_or next o 0) order end there apart differ.1 leads.1)
  where
    apart : o ≡ i → ⊥
    apart same = none (subst (Contains (o ∷ order)) same (Contains-here o order))

    by : (b : Bool) → nat_eq g o ≡ b → (Contains order g → (Contains order i → ⊥) → Leads new (get_or next o 0) (put_behind (nat_eq g) i order) end) → Leads new at (cond b (o ∷ i ∷ order) (o ∷ put_behind (nat_eq g) i order)) end
    by true test later =
        let same : g ≡ o = eqb-true g o test in
        let rest = leads-same next new (get_or next o 0) order end (λ x there. put.others x
        (λ is. differ.0 (subst (Contains order) (is ∙ same) there))
        (λ is. none (Contains-there o i order (subst (Contains order) is there)))) leads.1 in
        let next_is : get_or new i 0 ≡ get_or next o 0 = put.after_is ∙ ap (λ (x : ℕ). get_or next x 0) same in (
          leads.0,
          (ap (λ (x : ℕ). get_or new x 0) (sym same) ∙ put.before_is, subst (λ (n : ℕ). Leads new n order end) (sym next_is) rest),
        )
    by false test later =
        let other : o ≡ g → ⊥ = λ is. true≢false (sym (eq-eqb g o (sym is)) ∙ test) in
        let there : Contains order g = elim (Contains-cons_cases o g order has) [ inl is ↦ absurd (other is) | inr behind ↦ behind ] in
        let rest = later there (λ h. none (Contains-there o i order h)) in
        (leads.0, subst (λ (n : ℕ). Leads new n (put_behind (nat_eq g) i order) end) (sym (put.others o other apart)) rest)

-- the ring of no index
pub ring-none : (next : List ℕ) (end : ℕ) (getters : List (Option ℕ)) → end ≡ length getters → next ≡ replicate end end ++ end ∷ [] → IsRing next (order_from end (drop end getters)) end
ring-none next end getters ended is =
    let wide : length (replicate end end) ≡ end = length-replicate end end in
    let none : drop end getters ≡ [] = drop_all end getters (omega arith) in
    let at : get_or next end 0 ≡ end = ap (λ (l : List ℕ). get_or l end 0) is ∙ get_or-append_right (replicate end end) (end ∷ []) end end 0 wide (omega arith) ∙ last end in
    subst (λ (os : List (Option ℕ)). IsRing next (order_from end os) end) (sym none) (record {
      long = ap length is ∙ length-append (replicate end end) (end ∷ []) ∙ ap (λ (n : ℕ). n + 1) wide;
      leads = at;
    })
  where
    last : (n : ℕ) → get_or (n ∷ []) (n - n) 0 ≡ n
    last n = let zero_is : n - n ≡ 0 = omega arith in ap (λ (m : ℕ). get_or (n ∷ []) m 0) zero_is

drop_at : (os : List (Option ℕ)) (k : ℕ) (o : Option ℕ) → slice_get os k ≡ Some o → drop k os ≡ o ∷ drop (k + 1) os
drop_at os k o at =
    drop-cons os k o (slice_get_within os k o at) ∙ ap (λ (p : Option ℕ). p ∷ drop (suc k) os) (get_at os k o o at)
    ∙ ap (λ (m : ℕ). o ∷ drop m os) (sym (add-one k))

put-is : (next new : List ℕ) (before i : ℕ) → before < length next → i < length next → (before ≡ i → ⊥) → new ≡ slice_set (slice_set next before i) i (get_or next before 0) → IsPut next new before i
put-is next new before i low within apart is =
    let long : length (slice_set next before i) ≡ length next = length-set next before i in
    record {
      before_is = ap (λ (l : List ℕ). get_or l before 0) is ∙ get_or-set_other (slice_set next before i) i before (get_or next before 0) 0 apart ∙ get_or-set_same next before i 0 low;
      after_is = ap (λ (l : List ℕ). get_or l i 0) is ∙ get_or-set_same (slice_set next before i) i (get_or next before 0) 0 (omega arith);
      others = λ x not_before not_i. ap (λ (l : List ℕ). get_or l x 0) is ∙ get_or-set_other (slice_set next before i) i x (get_or next before 0) 0 not_i ∙ get_or-set_other next before x i 0 not_before;
    }

-- one index more
pub ring-next : (getters : List (Option ℕ)) (n k : ℕ) (o : Option ℕ) (next new : List ℕ) → n ≡ suc k → k < length getters → slice_get getters k ≡ Some o → AreLater getters
    → IsRing next (order_from n (drop n getters)) (length getters)
    → new ≡ slice_set (slice_set next (unwrap_or o (length getters)) k) k (get_or next (unwrap_or o (length getters)) 0) → IsRing new (order_from k (drop k getters)) (length getters)
ring-next getters n k o next new is below at later ring made =
    subst (λ (os : List (Option ℕ)). IsRing new (order_from k os) (length getters)) (sym (drop_at getters k o at)) (record {
      long = ap length made ∙ length-set (slice_set next before k) k (get_or next before 0) ∙ length-set next before k ∙ ring.long;
      leads = by o at made;
    })
  where
    before : ℕ
    before = unwrap_or o (length getters)

    behind : List ℕ
    behind = order_from (k + 1) (drop (k + 1) getters)

    leads : Leads next (get_or next (length getters) 0) behind (length getters)
    leads = let same : n ≡ k + 1 = omega arith in subst (λ (m : ℕ). Leads next (get_or next (length getters) 0) (order_from m (drop m getters)) (length getters)) same ring.leads

    bounds : (x : ℕ) → Contains behind x → (k + 1 ≤ x) × (x < length getters)
    bounds x has =
        let are = order-bounds (k + 1) (drop (k + 1) getters) x has in
        let rest : length (drop (k + 1) getters) ≡ length getters - (k + 1) = length-drop (k + 1) getters in
        (are.0, omega (arith, are.1, rest, below))

    not_k : Contains behind k → ⊥
    not_k has = let low = (bounds k has).0 in omega (arith, low)

    by : (p : Option ℕ) → slice_get getters k ≡ Some p → new ≡ slice_set (slice_set next (unwrap_or p (length getters)) k) k (get_or next (unwrap_or p (length getters)) 0)
        → Leads new (get_or new (length getters) 0) (put_index k p behind) (length getters)
    by None there is_made =
        let put = put-is next new (length getters) k (omega (arith, ring.long)) (omega (arith, ring.long, below)) (λ same. omega (arith, same, below)) is_made in (
          put.before_is,
          subst (λ (m : ℕ). Leads new m behind (length getters)) (sym put.after_is)
              (leads-same next new (get_or next (length getters) 0) behind (length getters) (λ x has. put.others x
              (λ same. let high = (bounds x has).1 in omega (arith, high, same)) (λ same. not_k (subst (Contains behind) same has))) leads),
        )
    by (Some g) there is_made =
        let wait = later k g there in
        let put = put-is next new g k (omega (arith, wait.1, ring.long)) (omega (arith, ring.long, below)) (λ same. omega (arith, wait.0, same)) is_made in
        let has : Contains behind g = order-has (k + 1) (drop (k + 1) getters) g (omega (arith, wait.0))
        (let rest : length (drop (k + 1) getters) ≡ length getters - (k + 1) = length-drop (k + 1) getters in omega (arith, wait.0, wait.1, rest)) in
        let first : get_or new (length getters) 0 ≡ get_or next (length getters) 0 = put.others (length getters) (λ same. omega (arith, wait.1, same)) (λ same. omega (arith, below, same)) in
        subst (λ (m : ℕ). Leads new m (put_behind (nat_eq g) k behind) (length getters)) (sym first)
        (leads-put next new g k put (get_or next (length getters) 0) behind (length getters) has not_k (order-differ (k + 1) (drop (k + 1) getters)) leads)

-- ---- the ring gone round

-- some indices are listed, and the ring leads on to the others
pub record IsListing (next whole order : List ℕ) (i count end : ℕ) : Type 0 where
  pub left : List ℕ
  pub all : order ++ left ≡ whole
  pub counted : length order ≡ count
  pub leads : Leads next i left end

pub listing-none : (next whole : List ℕ) (i end : ℕ) → IsRing next whole end → slice_get next end ≡ Some i → IsListing next whole [] i 0 end
listing-none next whole i end ring at =
    let is : get_or next end 0 ≡ i = get_at next end i 0 at in
    record { left = whole; all = refl; counted = refl; leads = subst (λ (m : ℕ). Leads next m whole end) is ring.leads }

pub listing-next : (getters : List (Option ℕ)) (next order new : List ℕ) (i j count : ℕ) → IsListing next (order_after_getters getters) order i count (length getters)
    → new ≡ order ++ i ∷ [] → count < length getters → slice_get next i ≡ Some j → IsListing next (order_after_getters getters) new j (count + 1) (length getters)
listing-next getters next order new i j count is made more at = by is.left is.all is.leads
  where
    by : (left : List ℕ) → order ++ left ≡ order_after_getters getters → Leads next i left (length getters) → IsListing next (order_after_getters getters) new j (count + 1) (length getters)
    by [] all leads =
        let long = order-long 0 getters in
        let sum : length (order ++ []) ≡ length (order_after_getters getters) = ap length all in
        let ended : length order ≡ length (order_after_getters getters) = ap length (sym (append-nil order)) ∙ sum in
        absurd (omega (arith, ended, long, is.counted, more))
    by (o ∷ left) all leads =
        let next_is : get_or next o 0 ≡ j = ap (λ (x : ℕ). get_or next x 0) (sym leads.0) ∙ get_at next i j 0 at in
        record {
          left = left;
          all = ap (λ (l : List ℕ). l ++ left) made ∙ append_assoc order (i ∷ []) left ∙ ap (λ (x : ℕ). order ++ x ∷ left) leads.0 ∙ all;
          counted = ap length made ∙ length-append order (i ∷ []) ∙ ap (λ (n : ℕ). n + 1) is.counted;
          leads = subst (λ (m : ℕ). Leads next m left (length getters)) next_is leads.1;
        }

pub listing-within : (getters : List (Option ℕ)) (next order : List ℕ) (i count : ℕ) → IsListing next (order_after_getters getters) order i count (length getters)
    → IsRing next (order_after_getters getters) (length getters) → i < length next
listing-within getters next order i count is ring = by is.left is.all is.leads
  where
    by : (left : List ℕ) → order ++ left ≡ order_after_getters getters → Leads next i left (length getters) → i < length next
    by [] all leads = omega (arith, leads, ring.long)
    by (o ∷ left) all leads =
        let has : Contains (order_after_getters getters) o = subst (λ (l : List ℕ). Contains l o) all (Contains-append_right order (o ∷ left) o (Contains-here o left)) in
        let high = (order-bounds 0 getters o has).1 in
        omega (arith, high, leads.0, ring.long)

pub listing-all : (getters : List (Option ℕ)) (next order : List ℕ) (i count : ℕ) → IsListing next (order_after_getters getters) order i count (length getters) → length getters ≤ count → order ≡ order_after_getters getters
listing-all getters next order i count is reached = by is.left is.all
  where
    by : (left : List ℕ) → order ++ left ≡ order_after_getters getters → order ≡ order_after_getters getters
    by [] all = sym (append-nil order) ∙ all
    by (o ∷ left) all =
        let long = order-long 0 getters in
        let sum : length order + length (o ∷ left) ≡ length (order_after_getters getters) = sym (length-append order (o ∷ left)) ∙ ap length all in
        absurd (omega (arith, sum, long, is.counted, reached))
