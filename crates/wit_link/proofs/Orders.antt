-- Which unresolved package depends on which, and what an order of them lists.
use Rattle.std.proofs.Common.{◌≡◌, ◌∙◌, ◌⊎◌, ◌<◌, ◌+◌, ℕ, zero, suc, false, List, [], ◌∷◌, ◌++◌, length, refl, ap, sym, subst, inl, inr, arith, Option, Some, None, map, slice_get, get_or, Contains, All, IsPermutation, nat_eq}
use Rattle.std.proofs.lemmas.Bool.{cases_lt, false≢true}
use Rattle.std.proofs.lemmas.List.{get_or_past, length-map}
use Rattle.std.proofs.lemmas.List.Elements.{All-contains, Contains-get_or, filter_map-append}
use Rattle.std.proofs.lemmas.List.Quantifiers.{position-Some}
use Rattle.std.proofs.lemmas.List.Sorted.{All-permutation}
use Rattle.std.specs.Prelude.{position, option_to_list, filter_map, flat_map}
use Rattle.std.specs.List.{IsDistinct, cons_option, range_with_len}
use Rattle.std.specs.Map.{keys_of}
use Rattle.wit_digraph.specs.Cycles.{IsOnCycle}
use Rattle.wit_digraph.specs.facts.FreshFacts.{IsDistinct-fresh, fresh_in}
use Rattle.wit_digraph.specs.facts.MemberFacts.{Contains-cons_cases, Contains-flat_map_cases, Contains-here, Contains-nil, Contains-there}
use Rattle.wit_digraph.specs.Relation.{IsAcyclic, IsInRange, IsPath, direct}
use Rattle.wit_digraph.specs.facts.PostOrderFacts.{Reaches-from_post_order}
use Rattle.wit_digraph.specs.PostOrder.{first_of_each, post_order}
use Rattle.wit_data.specs.Foreign.{ForeignItem}
use Rattle.wit_names.specs.PackageName.{same_package}
use Rattle.wit_names.specs.declared.package_name.PackageName.{PackageName}
use Rattle.wit_data.specs.declared.unresolved.UnresolvedPackage.{UnresolvedPackage}
use Rattle.wit_link.proofs.NameOrders.{apart, keys-places, lookup-places, roots-all, roots-by_name}
use Rattle.wit_names.specs.facts.PackageNameFacts.{own_name, same_name}
use Rattle.wit_link_spec.specs.facts.RangeFacts.{range-below}
use Rattle.wit_link.specs.GroupOrder.{IsGroupOrder, Unresolved, group_uses, names_of}
use Rattle.wit_link.specs.steps.GroupOrderSteps.{AreByName, IsOrdered, found_deps, indices_of_names}
use Rattle.wit_link.specs.steps.Parts.{group_deps}

module _ {X Y : Type 0} where
  -- what stands at a place, mapped
  pub slice_get-map : (f : X → Y) (xs : List X) (i : ℕ) (x : X) → slice_get xs i ≡ Some x → slice_get (map f xs) i ≡ Some (f x)
  slice_get-map f [] i x at = cc
  slice_get-map f (y ∷ ys) zero x at = let same : y ≡ x = cc in ap (λ z. Some (f z)) same
  slice_get-map f (y ∷ ys) (suc i) x at = slice_get-map f ys i x at

  get_or-mapped : (f : X → Y) (xs : List X) (i : ℕ) (x : X) (d : Y) → slice_get xs i ≡ Some x → get_or (map f xs) i d ≡ f x
  get_or-mapped f [] i x d at = cc
  get_or-mapped f (y ∷ ys) zero x d at = let same : y ≡ x = cc in ap f same
  get_or-mapped f (y ∷ ys) (suc i) x d at = get_or-mapped f ys i x d at

  -- what comes of a member
  filter_map-cases : (f : X → Option Y) (xs : List X) (y : Y) → Contains (filter_map f xs) y → (x : X) × Contains xs x × (f x ≡ Some y)
  filter_map-cases f [] y has = absurd (Contains-nil has)
  filter_map-cases f (x ∷ xs) y has = by (f x) refl (filter_map-cases f xs y) has
    where
      by : (o : Option Y) → f x ≡ o → (Contains (filter_map f xs) y → (z : X) × Contains xs z × (f z ≡ Some y)) → Contains (cons_option o (filter_map f xs)) y → (z : X) × Contains (x ∷ xs) z × (f z ≡ Some y)
      by None is others has = let rest = others has in (rest.0, Contains-there x rest.0 xs rest.1, rest.2)
      by (Some z) is others has = elim (Contains-cons_cases z y (filter_map f xs) has) [
        | inl same ↦ (x, Contains-here x xs, is ∙ ap (λ (w : Y). Some w) same)
        | inr there ↦ let rest = others there in (rest.0, Contains-there x rest.0 xs rest.1, rest.2)
      ]

pub some_at : {X : Type 0} (xs : List X) (i : ℕ) → i < length xs → (x : X) × (slice_get xs i ≡ Some x)
some_at [] i within = absurd (omega arith)
some_at (x ∷ xs) zero within = (x, refl)
some_at (x ∷ xs) (suc i) within = some_at xs i (omega arith)

-- the look-ups of the code find what a package depends on
pub found_deps-are : (names : List PackageName) (u : UnresolvedPackage) → found_deps (indices_of_names names) u ≡ group_deps names u
found_deps-are names u = ap (λ (f : PackageName × List ForeignItem → Option ℕ). filter_map f u.foreign_deps) (λ i e. lookup-places e.0 names i)

-- ---- members of rows

-- package `user` depends on package `used`, of this name
pub record Depends (unresolved : List Unresolved) (user used : ℕ) : Type 0 where
  pub p : Unresolved
  pub q : Unresolved
  pub user_is : slice_get unresolved user ≡ Some p
  pub used_is : slice_get unresolved used ≡ Some q
  pub named : Contains (keys_of p.0.foreign_deps) q.0.name

key_among : (es : List (PackageName × List ForeignItem)) (e : PackageName × List ForeignItem) → Contains es e → Contains (keys_of es) e.0
key_among [] e has = absurd (Contains-nil has)
key_among (f ∷ es) e has = elim (Contains-cons_cases f e es has) [
  | inl same ↦ subst (λ (x : PackageName). Contains (f.0 ∷ keys_of es) x) (ap (λ (x : PackageName × List ForeignItem). x.0) same) (Contains-here f.0 (keys_of es))
  | inr there ↦ Contains-there f.0 e.0 (keys_of es) (key_among es e there)
]

name_at : (unresolved : List Unresolved) (i : ℕ) (d : PackageName) → i < length (names_of unresolved) → (q : Unresolved) × (slice_get unresolved i ≡ Some q) × (get_or (names_of unresolved) i d ≡ q.0.name)
name_at unresolved i d within =
    let long : length (names_of unresolved) ≡ length unresolved = length-map unresolved (λ (p : Unresolved). p.0.name) in
    let q = some_at unresolved i (omega arith) in
    (q.0, q.1, get_or-mapped (λ (p : Unresolved). p.0.name) unresolved i q.0 d q.1)

pub depends : (unresolved : List Unresolved) (user used : ℕ) → Contains (direct (group_uses unresolved) user) used → Depends unresolved user used
depends unresolved user used has = elim (cases_lt user (length unresolved)) [
  | inl within ↦
      let p = some_at unresolved user within in
      let names = names_of unresolved in
      let row : direct (group_uses unresolved) user ≡ group_deps names p.0.0 = get_or-mapped (λ (p : Unresolved). group_deps (names_of unresolved) p.0) unresolved user p.0 [] p.1 in
      let dep = filter_map-cases (λ (e : PackageName × List ForeignItem). position (same_package e.0) names) p.0.0.foreign_deps used (subst (λ (r : List ℕ). Contains r used) row has) in
      let place = position-Some (same_package dep.0.0) names used dep.0.0 dep.2 in
      let q = name_at unresolved used dep.0.0 place.0 in
      let same : dep.0.0 ≡ q.0.0.name = same_name dep.0.0 (get_or names used dep.0.0) place.1 ∙ q.2 in
      record {
        p = p.0;
        q = q.0;
        user_is = p.1;
        used_is = q.1;
        named = subst (λ (x : PackageName). Contains (keys_of p.0.0.foreign_deps) x) same (key_among p.0.0.foreign_deps dep.0 dep.1);
      }
  | inr past ↦
      let long : length (group_uses unresolved) ≡ length unresolved = length-map unresolved (λ (p : Unresolved). group_deps (names_of unresolved) p.0) in
      let none : direct (group_uses unresolved) user ≡ [] = get_or_past (group_uses unresolved) user [] (omega arith) in
      absurd (Contains-nil (subst (λ (r : List ℕ). Contains r used) none has))
]

pub within_at : {X : Type 0} (xs : List X) (i : ℕ) (x : X) → slice_get xs i ≡ Some x → i < length xs
within_at [] i x at = cc
within_at (y ∷ ys) zero x at = omega arith
within_at (y ∷ ys) (suc i) x at = let rest = within_at ys i x at in omega arith

pub uses-in_range : (unresolved : List Unresolved) → IsInRange (group_uses unresolved)
uses-in_range unresolved i k d below =
    let long : length (group_uses unresolved) ≡ length unresolved = length-map unresolved (λ (p : Unresolved). group_deps (names_of unresolved) p.0) in
    let used = get_or (direct (group_uses unresolved) i) k d in
    let on = depends unresolved i used (Contains-get_or (direct (group_uses unresolved) i) k d below) in
    let inside = within_at unresolved used on.q on.used_is in
    omega arith

-- ---- cycles

pub no_cycle : (uses : List (List ℕ)) (user used : ℕ) → IsAcyclic uses → IsOnCycle uses user used → ⊥
no_cycle uses user used acyclic on = acyclic.no_cycle user used on.leads_back.0 (on.is_used, on.leads_back.1)

-- ---- what an order lists

pub roots-below : (n : ℕ) (roots : List ℕ) → IsPermutation (range_with_len 0 n) roots → All (λ i. i < n) roots
roots-below n roots all = All-permutation (λ i. i < n) (range_with_len 0 n) roots all (range-below n)

pub order-once : (unresolved : List Unresolved) (order : List ℕ) → IsGroupOrder unresolved order → IsDistinct nat_eq order
order-once unresolved order is = subst (IsDistinct nat_eq) (sym is.is) (IsDistinct-fresh [] (flat_map (post_order (group_uses unresolved)) is.roots))

pub order-below : (unresolved : List Unresolved) (order : List ℕ) → IsAcyclic (group_uses unresolved) → IsGroupOrder unresolved order → All (λ i. i < length unresolved) order
order-below unresolved order acyclic is k d below =
    let uses = group_uses unresolved in
    let long : length uses ≡ length unresolved = length-map unresolved (λ (p : Unresolved). group_deps (names_of unresolved) p.0) in
    let x = get_or order k d in
    let has : Contains (first_of_each (flat_map (post_order uses) is.roots)) x = subst (λ (l : List ℕ). Contains l x) is.is (Contains-get_or order k d below) in
    let part = Contains-flat_map_cases (post_order uses) is.roots x (fresh_in [] (flat_map (post_order uses) is.roots) x has) in
    let root : part.0 < length unresolved = All-contains (λ i. i < length unresolved) is.roots part.0 (roots-below (length unresolved) is.roots is.all) part.1.0 in
    let leads = Reaches-from_post_order uses acyclic part.0 (omega (arith, root)) x part.1.1 in
    let inside : x < length uses = to_end uses acyclic part.0 leads.0 x (omega (arith, root)) leads.1 in
    omega arith
  where
    to_end : (uses : List (List ℕ)) → IsAcyclic uses → (i : ℕ) (path : List ℕ) (j : ℕ) → i < length uses → IsPath uses i path j → j < length uses
    to_end uses acyclic i [] j here same = omega arith
    to_end uses acyclic i (m ∷ path) j here leads = to_end uses acyclic m path j (All-contains (λ x. x < length uses) (direct uses i) m (acyclic.in_range i) leads.0) leads.1

-- ---- from the steps to the order

-- what the steps of the code have found: the adjacency lists, which are acyclic, and the roots
pub record IsFound (unresolved : List Unresolved) (uses : List (List ℕ)) (roots : List ℕ) : Type 0 where
  pub uses_are : uses ≡ group_uses unresolved
  pub acyclic : IsAcyclic uses
  pub by_name : AreByName (indices_of_names (names_of unresolved)) roots
  pub differ : IsDistinct same_package (keys_of (indices_of_names (names_of unresolved)))

pub found-below : (unresolved : List Unresolved) (uses : List (List ℕ)) (roots : List ℕ) → uses ≡ group_uses unresolved → AreByName (indices_of_names (names_of unresolved)) roots → All (λ i. i < length uses) roots
found-below unresolved uses roots uses_are by_name =
    let long : length uses ≡ length unresolved = ap length uses_are ∙ length-map unresolved (λ (p : Unresolved). group_deps (names_of unresolved) p.0) in
    let wide : length (names_of unresolved) ≡ length uses = length-map unresolved (λ (p : Unresolved). p.0.name) ∙ sym long in
    subst (λ (n : ℕ). All (λ i. i < n) roots) wide (roots-below (length (names_of unresolved)) roots (roots-all (names_of unresolved) roots by_name))

pub found-order : (unresolved : List Unresolved) (uses : List (List ℕ)) (roots order : List ℕ) → IsFound unresolved uses roots → order ≡ first_of_each (flat_map (post_order uses) roots) → IsOrdered unresolved order
found-order unresolved uses roots order is listed =
    let names = names_of unresolved in
    let wide : length names ≡ length unresolved = length-map unresolved (λ (p : Unresolved). p.0.name) in
    record {
      is = record {
        roots = roots;
        all = subst (λ (n : ℕ). IsPermutation (range_with_len 0 n) roots) wide (roots-all names roots is.by_name);
        by_name = roots-by_name names roots is.by_name;
        is = listed ∙ ap (λ (rows : List (List ℕ)). first_of_each (flat_map (post_order rows) roots)) is.uses_are;
      };
      acyclic = subst IsAcyclic is.uses_are is.acyclic;
      differ = apart names (subst (IsDistinct same_package) (keys-places names) is.differ);
    }

-- those that are found of the first package, and of the others
one_found : (o : Option ℕ) → cons_option o [] ≡ option_to_list o
one_found None = refl
one_found (Some x) = refl

pub found-first : (f : PackageName × List ForeignItem → Option ℕ) (es : List (PackageName × List ForeignItem)) (x : PackageName × List ForeignItem) (xs : List (PackageName × List ForeignItem)) → es ≡ x ∷ xs
    → filter_map f es ≡ option_to_list (f x) ++ filter_map f xs
found-first f es x xs first = ap (filter_map f) first ∙ (filter_map-append f (x ∷ []) xs ∙ ap (λ (l : List ℕ). l ++ filter_map f xs) (one_found (f x)))

-- where one more hasn't the name either
pub unnamed-next : (es : List (PackageName × List ForeignItem)) (n : ℕ) (name : PackageName) (x : PackageName × List ForeignItem) → slice_get es n ≡ Some x → same_package x.0 name ≡ false
    → ((k : ℕ) (e : PackageName × List ForeignItem) → k < n → slice_get es k ≡ Some e → e.0 ≡ name → ⊥)
    → (k : ℕ) (e : PackageName × List ForeignItem) → k < n + 1 → slice_get es k ≡ Some e → e.0 ≡ name → ⊥
unnamed-next es n name x at other none k e within there is = elim (below_or_same k n within) [
  | inl earlier ↦ none k e earlier there is
  | inr same ↦
      let one : Some x ≡ Some e = sym at ∙ ap (slice_get es) (sym same) ∙ there in
      let equal : x ≡ e = cc in
      false≢true (sym other ∙ ap (λ (d : PackageName × List ForeignItem). same_package d.0 name) equal ∙ ap (λ (m : PackageName). same_package m name) is ∙ own_name name)
]
  where
    below_or_same : (i m : ℕ) → i < m + 1 → (i < m) ⊎ (i ≡ m)
    below_or_same i m within = grind arith
