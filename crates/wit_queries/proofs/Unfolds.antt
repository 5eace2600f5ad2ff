-- How what types hold is unfolded, one type after another.
use Rattle.std.proofs.Common.{◌≡◌, ℕ, ◌+◌, ◌<◌, ◌≤◌, ◌∙◌, ◌⊎◌, Bool, true, false, inl, inr, zero, suc, List, [], ◌∷◌, ◌++◌, length, filter, reverse, get_or, take, Option, ap, sym, subst, refl, append_assoc, arith, nat_eq, nat_lt, Contains, All}
use Rattle.std.specs.List.{flat_map, list_any}
use Rattle.std.proofs.lemmas.Bool.{cases_Bool, cond-true, cond-false, false≢true, ltb-false, ltb-true}
use Rattle.std.proofs.lemmas.Grind.{flat_map-append}
use Rattle.std.proofs.lemmas.List.{append-nil, get_or_past, length-append, reverse-append}
use Rattle.std.proofs.lemmas.Option.{slice_get_past}
use Rattle.std.specs.Option.{option_map_or}
use Rattle.std.proofs.lemmas.List.Elements.{All-contains, Contains-append_cases, Contains-append_left, Contains-get_or, Contains-push, Contains-push_cases, filter-append, filter_more}
use Rattle.wit_digraph.specs.facts.FreshFacts.{any_from_contains, contains_from_any, fresh_all, fresh_in, no_any_from, UsesFirst-fresh}
use Rattle.wit_digraph.specs.facts.MemberFacts.{Contains-nil, Contains-here, Contains-there, Contains-cons_cases, Contains-flat_map, Contains-flat_map_cases}
use Rattle.wit_digraph.specs.Relation.{direct, IsAcyclic, IsPath}
use Rattle.wit_digraph.specs.PostOrder.{first_of_each, post_order, post_order_within}
use Rattle.wit_digraph.specs.steps.PostOrder.{UsesFirst}
use Rattle.wit_digraph.specs.facts.PostOrderFacts.{post_order_is, Contains-post_order_end, Reaches-from_post_order, UsesFirst-flat_map, UsesFirst-use, UsesFirst-post_order}
use Rattle.wit_data.specs.declared.types.TypeDef.{TypeDef}
use Rattle.wit_graph_data.specs.Queries.{is_future_kind}
use Rattle.wit_queries.specs.steps.Unfolding.{futures_of, KeepsOthers, OthersHoldNone, places_within}
use Rattle.wit_graph_data.specs.steps.Parts.{is_future}

-- what was told and what the types on the stack still tell is what the roots tell
pub record IsUnfolding (types : List TypeDef) (held : List (List ℕ)) (roots stack told : List ℕ) : Type 0 where
  pub in_range : (t : ℕ) → Contains stack t → t < length held
  pub reached : (t : ℕ) → Contains stack t
      → Contains (first_of_each (flat_map (post_order held) roots)) t
  pub tells : flat_map (futures_of types held) stack ++ reverse told
      ≡ flat_map (futures_of types held) roots

-- ---- the order of what roots reach

path_below : (uses : List (List ℕ)) → IsAcyclic uses → (i : ℕ) (path : List ℕ) (m : ℕ) → i < length uses → IsPath uses i path m → m < length uses
path_below uses acyclic i [] m here same = subst (λ n. n < length uses) same here
path_below uses acyclic i (k ∷ path) m here leads =
    path_below uses acyclic k path m (All-contains (λ n. n < length uses) (direct uses i) k (acyclic.in_range i) leads.0) leads.1

module _ (uses : List (List ℕ)) (acyclic : IsAcyclic uses) (roots : List ℕ) (in_range : All (λ t. t < length uses) roots) where
  pub root_below : (t : ℕ) → Contains roots t → t < length uses
  root_below t has = All-contains (λ n. n < length uses) roots t in_range has

  -- a root is in the order
  pub root_reached : (t : ℕ) → Contains roots t → Contains (first_of_each (flat_map (post_order uses) roots)) t
  root_reached t has = fresh_all [] (flat_map (post_order uses) roots) t (Contains-flat_map (post_order uses) roots t t has (Contains-post_order_end uses acyclic t (root_below t has)))

  -- each stands there after what it uses
  pub order_uses_first : UsesFirst uses [] (first_of_each (flat_map (post_order uses) roots))
  order_uses_first =
      UsesFirst-fresh uses (flat_map (post_order uses) roots) [] [] (λ j has. has)
      (UsesFirst-flat_map uses roots [] (λ j has more. UsesFirst-post_order uses acyclic j (root_below j has) more))

  -- so what one in the order uses is in it
  pub use_reached : (t u : ℕ) → Contains (first_of_each (flat_map (post_order uses) roots)) t → Contains (direct uses t) u → Contains (first_of_each (flat_map (post_order uses) roots)) u
  use_reached t u among edge = UsesFirst-use uses (first_of_each (flat_map (post_order uses) roots)) [] t u order_uses_first among edge

  -- and each is there
  pub reached_below : (t : ℕ) → Contains (first_of_each (flat_map (post_order uses) roots)) t → t < length uses
  reached_below t has =
      let from = Contains-flat_map_cases (post_order uses) roots t (fresh_in [] (flat_map (post_order uses) roots) t has) in
      let on = Reaches-from_post_order uses acyclic from.0 (root_below from.0 from.1.0) t from.1.1 in
      path_below uses acyclic from.0 on.0 t (root_below from.0 from.1.0) on.1

  pub order_below : All (λ t. t < length uses) (first_of_each (flat_map (post_order uses) roots))
  order_below k d below = reached_below (get_or (first_of_each (flat_map (post_order uses) roots)) k d) (Contains-get_or (first_of_each (flat_map (post_order uses) roots)) k d below)

-- ---- lists that a test picks from

-- one more is picked
pub picked : (p : ℕ → Bool) (xs : List ℕ) (i : ℕ) (start old new : List ℕ) → i < length xs → p (get_or xs i 0) ≡ true
    → old ≡ start ++ filter p (take i xs) → new ≡ old ++ get_or xs i 0 ∷ [] → new ≡ start ++ filter p (take (i + 1) xs)
picked p xs i start old new below pass old_is new_is =
    let x : ℕ = get_or xs i 0 in
    new_is ∙ ap (λ (us : List ℕ). us ++ x ∷ []) old_is ∙ append_assoc start (filter p (take i xs)) (x ∷ [])
    ∙ ap (λ (us : List ℕ). start ++ (filter p (take i xs) ++ us)) (sym (cond-true (p x) (x ∷ []) [] pass))
    ∙ ap (λ (us : List ℕ). start ++ us) (sym (filter_more p xs i 0 below))

-- or isn't
pub passed_over : (p : ℕ → Bool) (xs : List ℕ) (i : ℕ) (start old new : List ℕ) → i < length xs → p (get_or xs i 0) ≡ false
    → old ≡ start ++ filter p (take i xs) → new ≡ old → new ≡ start ++ filter p (take (i + 1) xs)
passed_over p xs i start old new below fails old_is new_is =
    let x : ℕ = get_or xs i 0 in
    new_is ∙ old_is ∙ ap (λ (us : List ℕ). start ++ us) (sym (append-nil (filter p (take i xs))))
    ∙ ap (λ (us : List ℕ). start ++ (filter p (take i xs) ++ us)) (sym (cond-false (p x) (x ∷ []) [] fails))
    ∙ ap (λ (us : List ℕ). start ++ us) (sym (filter_more p xs i 0 below))

Contains-filter : (p : ℕ → Bool) (xs : List ℕ) (x : ℕ) → Contains (filter p xs) x → Contains xs x
Contains-filter p [] x has = absurd (Contains-nil has)
Contains-filter p (y ∷ xs) x has =
    elim (cases_Bool (p y)) [
      | inl pass ↦ elim (Contains-cons_cases y x (filter p xs) (rw (cond-true (p y) (y ∷ filter p xs) (filter p xs) pass) at has)) [
        | inl same ↦ subst (λ z. Contains (y ∷ xs) z) same (Contains-here y xs)
        | inr there ↦ Contains-there y x xs (Contains-filter p xs x there)
      ]
      | inr fails ↦ Contains-there y x xs (Contains-filter p xs x (rw (cond-false (p y) (y ∷ filter p xs) (filter p xs) fails) at has))
    ]

-- what a test picks passes it
Contains-passed : (p : ℕ → Bool) (xs : List ℕ) (x : ℕ) → Contains (filter p xs) x → p x ≡ true
Contains-passed p [] x has = absurd (Contains-nil has)
Contains-passed p (y ∷ xs) x has =
    elim (cases_Bool (p y)) [
      | inl pass ↦ elim (Contains-cons_cases y x (filter p xs) (rw (cond-true (p y) (y ∷ filter p xs) (filter p xs) pass) at has)) [
        | inl same ↦ subst (λ z. p z ≡ true) same pass
        | inr there ↦ Contains-passed p xs x there
      ]
      | inr fails ↦ Contains-passed p xs x (rw (cond-false (p y) (y ∷ filter p xs) (filter p xs) fails) at has)
    ]

-- and what passes it is picked
Contains-picked : (p : ℕ → Bool) (xs : List ℕ) (x : ℕ) → p x ≡ true → Contains xs x → Contains (filter p xs) x
Contains-picked p [] x pass has = absurd (Contains-nil has)
Contains-picked p (y ∷ xs) x pass has =
    elim (Contains-cons_cases y x xs has) [
      | inl same ↦
          let is : filter p (y ∷ xs) ≡ y ∷ filter p xs = cond-true (p y) (y ∷ filter p xs) (filter p xs) (ap p same ∙ pass) in
          subst (λ (us : List ℕ). Contains us x) (sym is) (subst (λ z. Contains (y ∷ filter p xs) z) same (Contains-here y (filter p xs)))
      | inr there ↦
          elim (cases_Bool (p y)) [
            | inl kept ↦ subst (λ (us : List ℕ). Contains us x) (sym (cond-true (p y) (y ∷ filter p xs) (filter p xs) kept)) (Contains-there y x (filter p xs) (Contains-picked p xs x pass there))
            | inr left ↦ subst (λ (us : List ℕ). Contains us x) (sym (cond-false (p y) (y ∷ filter p xs) (filter p xs) left)) (Contains-picked p xs x pass there)
          ]
    ]

-- what fails it is not among those that it picks
pub none_picked : (p : ℕ → Bool) (xs : List ℕ) (x : ℕ) → p x ≡ false → list_any (nat_eq x) (filter p xs) ≡ false
none_picked p xs x fails = no_any_from x (filter p xs) (λ has. false≢true (sym fails ∙ Contains-passed p xs x has))

-- what passes it is among them where it is among the first of each
pub picked_once : (p : ℕ → Bool) (xs : List ℕ) (x : ℕ) → p x ≡ true → list_any (nat_eq x) (first_of_each xs) ≡ list_any (nat_eq x) (filter p xs)
picked_once p xs x pass =
    elim (cases_Bool (list_any (nat_eq x) (first_of_each xs))) [
      | inl has ↦ has ∙ sym (any_from_contains x (filter p xs) (Contains-picked p xs x pass (fresh_in [] xs x (contains_from_any x (first_of_each xs) has))))
      | inr none ↦ none ∙ sym (no_any_from x (filter p xs) (λ has. false≢true (sym none ∙ any_from_contains x (first_of_each xs) (fresh_all [] xs x (Contains-filter p xs x has)))))
    ]

pub filter-post_orders : (p : ℕ → Bool) (f : ℕ → List ℕ) (ts : List ℕ) → filter p (flat_map f ts) ≡ flat_map (λ t. filter p (f t)) ts
filter-post_orders p f [] = refl
filter-post_orders p f (t ∷ ts) = filter-append p (f t) (flat_map f ts) ∙ ap (λ us. filter p (f t) ++ us) (filter-post_orders p f ts)

-- what gives nothing may be left out
pub flat_map-kept : (f : ℕ → List ℕ) (keep : ℕ → Bool) (ts : List ℕ) → ((t : ℕ) → Contains ts t → keep t ≡ false → f t ≡ []) → flat_map f (filter keep ts) ≡ flat_map f ts
flat_map-kept f keep [] none = refl
flat_map-kept f keep (t ∷ ts) none =
    let rest : flat_map f (filter keep ts) ≡ flat_map f ts = flat_map-kept f keep ts (λ u has. none u (Contains-there t u ts has)) in
    elim (cases_Bool (keep t)) [
      | inl kept ↦ ap (flat_map f) (cond-true (keep t) (t ∷ filter keep ts) (filter keep ts) kept) ∙ ap (λ us. f t ++ us) rest
      | inr left ↦
          ap (flat_map f) (cond-false (keep t) (t ∷ filter keep ts) (filter keep ts) left) ∙ rest
          ∙ sym (ap (λ us. us ++ flat_map f ts) (none t (Contains-here t ts) left))
    ]

-- and what is left is no longer
flat_map-shorter : (f : ℕ → List ℕ) (keep : ℕ → Bool) (ts : List ℕ) → length (flat_map f (filter keep ts)) ≤ length (flat_map f ts)
flat_map-shorter f keep [] = omega arith
flat_map-shorter f keep (t ∷ ts) =
    let rest = flat_map-shorter f keep ts in
    let whole = length-append (f t) (flat_map f ts) in
    elim (cases_Bool (keep t)) [
      | inl kept ↦
          let is = ap (λ (us : List ℕ). length (flat_map f us)) (cond-true (keep t) (t ∷ filter keep ts) (filter keep ts) kept) in
          omega (arith, is, rest, whole, length-append (f t) (flat_map f (filter keep ts)))
      | inr left ↦
          let is = ap (λ (us : List ℕ). length (flat_map f us)) (cond-false (keep t) (t ∷ filter keep ts) (filter keep ts) left) in
          omega (arith, is, rest, whole)
    ]

-- what isn't picked by the marks isn't marked
pub unmarked : (marked : List ℕ) (t : ℕ) → list_any (nat_eq t) marked ≡ false → Contains marked t → ⊥
unmarked marked t fails has = false≢true (sym fails ∙ any_from_contains t marked has)

-- ---- which types hold some

module _ (types : List TypeDef) (held : List (List ℕ)) (acyclic : IsAcyclic held) where
  -- what a type holds: what is held by what it holds, and then the type itself
  futures_is : (t : ℕ) → t < length held → futures_of types held t ≡ flat_map (futures_of types held) (direct held t) ++ filter (is_future types) (t ∷ [])
  futures_is t here =
      ap (filter (is_future types)) (post_order_is held acyclic t here)
      ∙ filter-append (is_future types) (flat_map (post_order held) (direct held t)) (t ∷ [])
      ∙ ap (λ (us : List ℕ). us ++ filter (is_future types) (t ∷ [])) (filter-post_orders (is_future types) (post_order held) (direct held t))

  nothing : (us : List ℕ) → ((u : ℕ) → Contains us u → futures_of types held u ≡ []) → flat_map (futures_of types held) us ≡ []
  nothing [] each = refl
  nothing (u ∷ us) each =
      ap (λ (vs : List ℕ). vs ++ flat_map (futures_of types held) us) (each u (Contains-here u us)) ∙ nothing us (λ v has. each v (Contains-there u v us has))

  -- one type more of the order, that was marked before
  pub KeepsOthers-was : (marked : List ℕ) (t : ℕ) → Contains marked t → KeepsOthers types held marked marked t
  KeepsOthers-was marked t was order parts others u among not =
      elim (Contains-push_cases order t u among) [
        | inl earlier ↦ others u earlier not
        | inr same ↦ absurd (not (subst (λ v. Contains marked v) same was))
      ]

  -- that is marked now
  pub KeepsOthers-marked : (marked : List ℕ) (t : ℕ) → KeepsOthers types held marked (marked ++ t ∷ []) t
  KeepsOthers-marked marked t order parts others u among not =
      elim (Contains-push_cases order t u among) [
        | inl earlier ↦ others u earlier (λ has. not (Contains-append_left marked (t ∷ []) u has))
        | inr same ↦ absurd (not (subst (λ v. Contains (marked ++ t ∷ []) v) same (Contains-push marked t)))
      ]

  -- that is neither a future nor a stream, and no part of it is marked
  pub KeepsOthers-none : (marked : List ℕ) (t : ℕ) → t < length held → is_future types t ≡ false → ((u : ℕ) → Contains (direct held t) u → Contains marked u → ⊥) → KeepsOthers types held marked marked t
  KeepsOthers-none marked t here fails none order parts others u among not =
      let empty : futures_of types held t ≡ [] =
      futures_is t here
      ∙ ap (λ (us : List ℕ). flat_map (futures_of types held) (direct held t) ++ us) (cond-false (is_future types t) (t ∷ []) [] fails)
      ∙ append-nil (flat_map (futures_of types held) (direct held t))
      ∙ nothing (direct held t) (λ v edge. others v (All-contains (Contains order) (direct held t) v parts edge) (none v edge)) in
      elim (Contains-push_cases order t u among) [
        | inl earlier ↦ others u earlier not
        | inr same ↦ subst (λ v. futures_of types held v ≡ []) same empty
      ]

  -- ---- the steps of unfolding

  module _ (roots : List ℕ) (in_range : All (λ t. t < length held) roots) (marked : List ℕ)
      (others : OthersHoldNone types held (first_of_each (flat_map (post_order held) roots)) marked) where
    -- the roots, but those that hold none
    pub IsUnfolding-begun : (stack : List ℕ) → stack ≡ filter (λ t. list_any (nat_eq t) marked) roots → IsUnfolding types held roots stack []
    IsUnfolding-begun stack is = record {
      in_range = λ t has. root_below held acyclic roots in_range t (root t has);
      reached = λ t has. root_reached held acyclic roots in_range t (root t has);
      tells = append-nil (flat_map (futures_of types held) stack) ∙ ap (flat_map (futures_of types held)) is
          ∙ flat_map-kept (futures_of types held) (λ t. list_any (nat_eq t) marked) roots
          (λ t has fails. others t (root_reached held acyclic roots in_range t has) (unmarked marked t fails));
    }
      where
        root : (t : ℕ) → Contains stack t → Contains roots t
        root t has = Contains-filter (λ u. list_any (nat_eq u) marked) roots t (subst (λ (us : List ℕ). Contains us t) is has)

    -- the last type gives way to those that it holds
    pub IsUnfolding-step : (stack rest row new told more : List ℕ) (t : ℕ) → stack ≡ rest ++ t ∷ [] → row ≡ direct held t → new ≡ rest ++ filter (λ u. list_any (nat_eq u) marked) row
        → reverse more ≡ filter (is_future types) (t ∷ []) ++ reverse told → IsUnfolding types held roots stack told → IsUnfolding types held roots new more
    IsUnfolding-step stack rest row new told more t stack_is row_is new_is more_is so_far = record {
      in_range = λ u has. elim (from u has) [
        | inl old ↦ so_far.in_range u old
        | inr edge ↦ All-contains (λ n. n < length held) (direct held t) u (acyclic.in_range t) edge
      ];
      reached = λ u has. elim (from u has) [
        | inl old ↦ so_far.reached u old
        | inr edge ↦ use_reached held acyclic roots in_range t u (so_far.reached t last) edge
      ];
      tells = tells;
    }
      where
        last : Contains stack t
        last = subst (λ (us : List ℕ). Contains us t) (sym stack_is) (Contains-push rest t)

        from : (u : ℕ) → Contains new u → Contains stack u ⊎ Contains (direct held t) u
        from u has =
            elim (Contains-append_cases rest (filter (λ v. list_any (nat_eq v) marked) row) u (subst (λ (us : List ℕ). Contains us u) new_is has)) [
              | inl old ↦ inl (subst (λ (us : List ℕ). Contains us u) (sym stack_is) (Contains-append_left rest (t ∷ []) u old))
              | inr part ↦ inr (subst (λ (us : List ℕ). Contains us u) row_is (Contains-filter (λ v. list_any (nat_eq v) marked) row u part))
            ]

        tells : flat_map (futures_of types held) new ++ reverse more ≡ flat_map (futures_of types held) roots
        tells =
            let f : ℕ → List ℕ = futures_of types held in
            let p : ℕ → Bool = λ u. list_any (nat_eq u) marked in
            let used : List ℕ = direct held t in
            let own : List ℕ = filter (is_future types) (t ∷ []) in
            let below : flat_map f (filter p used) ≡ flat_map f used =
            flat_map-kept f p used (λ u edge fails. others u (use_reached held acyclic roots in_range t u (so_far.reached t last) edge) (unmarked marked u fails)) in
            let whole : f t ≡ flat_map f used ++ own = futures_is t (so_far.in_range t last) in
            ap (λ (us : List ℕ). flat_map f us ++ reverse more) (new_is ∙ ap (λ (us : List ℕ). rest ++ filter p us) row_is)
            ∙ ap (λ (us : List ℕ). us ++ reverse more) (flat_map-append f rest (filter p used))
            ∙ append_assoc (flat_map f rest) (flat_map f (filter p used)) (reverse more)
            ∙ ap (λ (us : List ℕ). flat_map f rest ++ (us ++ reverse more)) below
            ∙ ap (λ (us : List ℕ). flat_map f rest ++ (flat_map f used ++ us)) more_is
            ∙ ap (λ (us : List ℕ). flat_map f rest ++ us) (sym (append_assoc (flat_map f used) own (reverse told)))
            ∙ ap (λ (us : List ℕ). flat_map f rest ++ (us ++ reverse told)) (sym whole)
            ∙ sym (append_assoc (flat_map f rest) (f t) (reverse told))
            ∙ ap (λ (us : List ℕ). (flat_map f rest ++ us) ++ reverse told) (sym (append-nil (f t)))
            ∙ ap (λ (us : List ℕ). us ++ reverse told) (sym (flat_map-append f rest (t ∷ [])))
            ∙ ap (λ (us : List ℕ). flat_map f us ++ reverse told) (sym stack_is)
            ∙ so_far.tells

    -- and has a shorter walk
    pub step-shorter : (stack rest row new : List ℕ) (t : ℕ) → stack ≡ rest ++ t ∷ [] → row ≡ direct held t → new ≡ rest ++ filter (λ u. list_any (nat_eq u) marked) row → t < length held
        → length (flat_map (post_order held) new) < length (flat_map (post_order held) stack)
    step-shorter stack rest row new t stack_is row_is new_is here =
        let p : ℕ → Bool = λ u. list_any (nat_eq u) marked in
        let used : List ℕ = direct held t in
        let below = flat_map-shorter (post_order held) p used in
        let after : length (flat_map (post_order held) new) ≡ length (flat_map (post_order held) rest) + length (flat_map (post_order held) (filter p used)) =
        ap (λ (us : List ℕ). length (flat_map (post_order held) us)) (new_is ∙ ap (λ (us : List ℕ). rest ++ filter p us) row_is)
        ∙ ap length (flat_map-append (post_order held) rest (filter p used)) ∙ length-append (flat_map (post_order held) rest) (flat_map (post_order held) (filter p used)) in
        let before : length (flat_map (post_order held) stack) ≡ length (flat_map (post_order held) rest) + length (post_order held t ++ []) =
        ap (λ (us : List ℕ). length (flat_map (post_order held) us)) stack_is
        ∙ ap length (flat_map-append (post_order held) rest (t ∷ [])) ∙ length-append (flat_map (post_order held) rest) (post_order held t ++ []) in
        let one : length (post_order held t ++ []) ≡ length (post_order held t) = ap length (append-nil (post_order held t)) in
        let own : length (post_order held t) ≡ length (flat_map (post_order held) used) + 1 =
        ap length (post_order_is held acyclic t here) ∙ length-append (flat_map (post_order held) used) (t ∷ []) in
        omega (arith, below, after, before, one, own)

-- one more is told, last first
pub told-more : (types : List TypeDef) (t : ℕ) (told more : List ℕ) → is_future types t ≡ true → more ≡ told ++ t ∷ [] → reverse more ≡ filter (is_future types) (t ∷ []) ++ reverse told
told-more types t told more is more_is =
    ap reverse more_is ∙ reverse-append told (t ∷ []) ∙ ap (λ (us : List ℕ). us ++ reverse told) (sym (cond-true (is_future types t) (t ∷ []) [] is))

pub told-same : (types : List TypeDef) (t : ℕ) (told more : List ℕ) → is_future types t ≡ false → more ≡ told → reverse more ≡ filter (is_future types) (t ∷ []) ++ reverse told
told-same types t told more not more_is =
    ap reverse more_is ∙ ap (λ (us : List ℕ). us ++ reverse told) (sym (cond-false (is_future types t) (t ∷ []) [] not))

-- ---- what isn't there holds none

module _ (types : List TypeDef) (held : List (List ℕ)) where
  outside_within : (members t : ℕ) → direct held t ≡ [] → is_future types t ≡ false → filter (is_future types) (post_order_within held members t) ≡ []
  unfolding post_order_within
  outside_within zero t none fails = refl
  outside_within (suc members) t none fails =
      ap (λ (us : List ℕ). filter (is_future types) (flat_map (post_order_within held members) us ++ t ∷ [])) none ∙ cond-false (is_future types t) (t ∷ []) [] fails

  outside : (t : ℕ) → length types ≤ t → length held ≤ t → futures_of types held t ≡ []
  unfolding post_order
  outside t no_type no_row =
      outside_within (length held) t (get_or_past held t [] no_row)
      (ap (λ (o : Option TypeDef). option_map_or (λ (def : TypeDef). is_future_kind def.kind) o false) (slice_get_past types t no_type))

  -- so only those that are there are told
  pub told_within : (ts : List ℕ) → length held ≡ length types → flat_map (futures_of types held) (places_within (length types) ts) ≡ filter (is_future types) (flat_map (post_order held) ts)
  told_within ts same =
      flat_map-kept (futures_of types held) (λ t. nat_lt t (length types)) ts
      (λ t has fails. let past : length types ≤ t = ltb-false t (length types) fails in outside t past (omega arith))
      ∙ sym (filter-post_orders (is_future types) (post_order held) ts)

  -- and they are in range
  pub within_below : (ts : List ℕ) → All (λ t. t < length types) (places_within (length types) ts)
  within_below ts k d below =
      let one = Contains-passed (λ t. nat_lt t (length types)) ts (get_or (places_within (length types) ts) k d) (Contains-get_or (places_within (length types) ts) k d below) in
      ltb-true (get_or (places_within (length types) ts) k d) (length types) one
