-- The examples of groups and orders.
use Rattle.std.proofs.Common.{◌≡◌, ◌⊎◌, ◌∙◌, ℕ, ◌<◌, zero, suc, List, [], ◌∷◌, length, flat_map, Some, slice_get, IsPermutation, refl, ap, sym, subst, inl, inr, lit<, lit≤, Contains, arith}
use Rattle.std.proofs.lemmas.Bool.{false≢true}
use Rattle.std.proofs.lemmas.List.Sorted.{Contains-permutation, length_permutation}
use Rattle.std.specs.Prelude.{IsSortedByKey}
use Rattle.std.specs.Option.{option_cmp}
use Rattle.wit_digraph.specs.Relation.{IsPath, direct}
use Rattle.wit_digraph.specs.PostOrder.{first_of_each, post_order, post_order_within}
use Rattle.wit_names.specs.PackageName.{package_cmp}
use Rattle.wit_sources.specs.Span.{end_of, moved_by}
use Rattle.wit_data.specs.Each.{SomeAt}
use Rattle.wit_names.specs.declared.package_name.PackageName.{PackageName}
use Rattle.wit_data.specs.declared.stability.Stability.TheVariants.{Unknown}
use Rattle.wit_graph_data.specs.examples.Samples.{foo_bar}
use Rattle.wit_graph_data.specs.declared.error_kind.ResolveErrorKind.{ResolveErrorKind}
use Rattle.wit_graph_data.specs.declared.error_kind.ResolveErrorKind.TheVariants.{DuplicatePackage, OffsetOverflow, PackageCycle}
use Rattle.wit_graph_theory.specs.examples.TestFacts.{none_in, one_of_two, only_one}
use Rattle.wit_link_spec.specs.Gates.{OptionalSpan}
use Rattle.wit_link.specs.GroupOrder.{AreSorted, IsDefinedTwice, IsGroupOrder, IsSortCause, PassesLastPosition, Unresolved, group_uses, names_of}
use Rattle.examples_resolve.specs.graph.Orders.{ExamplesOfGroups, ExamplesOfOrders, dep_on_main, main_and_dep, one_alone, twice_at, two_alone}
use Rattle.examples_resolve.specs.graph.Packages.{bare, dep_name, main_name, naming}
use Rattle.wit_link.specs.steps.Parts.{HasSpanOverflow}

-- ---- two roots

zero_apart : ◌≡◌ {A = ℕ} 0 1 → ⊥
zero_apart same = absurd (omega (arith, same))

both_orders : (a b : ℕ) → Contains (a ∷ b ∷ []) 0 → Contains (a ∷ b ∷ []) 1 → (0 ∷ 1 ∷ [] ≡ a ∷ b ∷ []) ⊎ (1 ∷ 0 ∷ [] ≡ a ∷ b ∷ [])
both_orders a b has_zero has_one =
    elim (one_of_two a b 0 has_zero) [
      | inl first ↦ elim (one_of_two a b 1 has_one) [
        | inl again ↦ absurd (zero_apart (sym first ∙ again))
        | inr second ↦ inl cc
      ]
      | inr first ↦ elim (one_of_two a b 1 has_one) [
        | inl second ↦ inr cc
        | inr again ↦ absurd (zero_apart (sym first ∙ again))
      ]
    ]

roots_are : (roots : List ℕ) → IsPermutation (0 ∷ 1 ∷ []) roots → (0 ∷ 1 ∷ [] ≡ roots) ⊎ (1 ∷ 0 ∷ [] ≡ roots)
roots_are [] moved = absurd (omega (arith, length_permutation (0 ∷ 1 ∷ []) [] moved))
roots_are (a ∷ []) moved = absurd (omega (arith, length_permutation (0 ∷ 1 ∷ []) (a ∷ []) moved))
roots_are (a ∷ b ∷ []) moved =
    both_orders a b (Contains-permutation (0 ∷ 1 ∷ []) (a ∷ b ∷ []) 0 moved (0, lit< tt, refl)) (Contains-permutation (0 ∷ 1 ∷ []) (a ∷ b ∷ []) 1 moved (1, lit< tt, refl))
roots_are (a ∷ b ∷ c ∷ roots) moved = absurd (omega (arith, length_permutation (0 ∷ 1 ∷ []) (a ∷ b ∷ c ∷ roots) moved))

-- what holds of both orders holds of each
of_both : (P : List ℕ → Type 0) → P (0 ∷ 1 ∷ []) → P (1 ∷ 0 ∷ []) → (roots : List ℕ) → IsPermutation (0 ∷ 1 ∷ []) roots → P roots
of_both P first second roots moved = elim (roots_are roots moved) [ inl same ↦ subst P same first | inr same ↦ subst P same second ]

-- ---- orders

abbrev order_of : List Unresolved → List ℕ → List ℕ
order_of unresolved roots = first_of_each (flat_map (post_order (group_uses unresolved)) roots)

-- whatever the roots are, dep comes before main
main_last : (roots order : List ℕ) → IsPermutation (0 ∷ 1 ∷ []) roots → order ≡ order_of main_and_dep roots → 1 ∷ 0 ∷ [] ≡ order
unfolding post_order post_order_within
main_last roots order moved = of_both (λ (r : List ℕ). order ≡ order_of main_and_dep r → 1 ∷ 0 ∷ [] ≡ order) (λ is. sym is) (λ is. sym is) roots moved

-- and where dep names main, main comes before it
dep_last : (roots order : List ℕ) → IsPermutation (0 ∷ 1 ∷ []) roots → order ≡ order_of dep_on_main roots → 1 ∷ 0 ∷ [] ≡ order
unfolding post_order post_order_within
dep_last roots order moved = of_both (λ (r : List ℕ). order ≡ order_of dep_on_main r → 1 ∷ 0 ∷ [] ≡ order) (λ is. sym is) (λ is. sym is) roots moved

abbrev AreByName : List Unresolved → List ℕ → Type 0
AreByName unresolved roots = IsSortedByKey (slice_get (names_of unresolved)) (option_cmp package_cmp) roots

-- foo:main isn't before foo:dep by name
not_by_name : AreByName two_alone (0 ∷ 1 ∷ []) → ⊥
not_by_name rises = false≢true (sym (rises 0 0 (lit≤ tt) (lit< tt)))

by_name : (roots order : List ℕ) → IsPermutation (0 ∷ 1 ∷ []) roots → AreByName two_alone roots → order ≡ order_of two_alone roots → 1 ∷ 0 ∷ [] ≡ order
unfolding post_order post_order_within
by_name roots order moved =
    of_both (λ (r : List ℕ). AreByName two_alone r → order ≡ order_of two_alone r → 1 ∷ 0 ∷ [] ≡ order) (λ rises is. absurd (not_by_name rises)) (λ rises is. sym is) roots moved

first_is : (a b : ℕ) (xs ys : List ℕ) → a ∷ xs ≡ b ∷ ys → a ≡ b
first_is a b xs ys same = cc

backwards : ◌≡◌ {A = List ℕ} (1 ∷ 0 ∷ []) (0 ∷ 1 ∷ []) → ⊥
backwards same = zero_apart (sym (first_is 1 0 (0 ∷ []) (1 ∷ []) same))

two_not_one : ◌≡◌ {A = List ℕ} (1 ∷ 0 ∷ []) (1 ∷ []) → ⊥
two_not_one same = absurd (omega (arith, ap (λ (xs : List ℕ). length xs) same))

sorted_two : AreByName two_alone (1 ∷ 0 ∷ [])
sorted_two zero d low high = refl
sorted_two (suc k) d low high = absurd (omega (arith, high))

sorted_dep : AreByName dep_on_main (0 ∷ 1 ∷ [])
sorted_dep zero d low high = refl
sorted_dep (suc k) d low high = absurd (omega (arith, high))

sorted_main : AreByName main_and_dep (1 ∷ 0 ∷ [])
sorted_main zero d low high = refl
sorted_main (suc k) d low high = absurd (omega (arith, high))

main_order : IsGroupOrder main_and_dep (1 ∷ 0 ∷ [])
unfolding post_order post_order_within
main_order = record { roots = 1 ∷ 0 ∷ []; all = record { moves = (0, 1) ∷ []; below = (lit< tt, lit< tt, tt); is = refl }; by_name = sorted_main; is = refl }

dep_order : IsGroupOrder dep_on_main (1 ∷ 0 ∷ [])
unfolding post_order post_order_within
dep_order = record { roots = 0 ∷ 1 ∷ []; all = record { moves = []; below = tt; is = refl }; by_name = sorted_dep; is = refl }

two_order : IsGroupOrder two_alone (1 ∷ 0 ∷ [])
unfolding post_order post_order_within
two_order = record { roots = 1 ∷ 0 ∷ []; all = record { moves = (0, 1) ∷ []; below = (lit< tt, lit< tt, tt); is = refl }; by_name = sorted_two; is = refl }

-- dep isn't main
unsorted : AreSorted main_and_dep (1 ∷ 0 ∷ []) main_and_dep → ⊥
unsorted sorted =
    let first : Unresolved = (bare dep_name, 20) in
    let other : Unresolved = (naming main_name dep_name Unknown, 0) in
    let is : Some first ≡ Some other = sorted.are.0 in
    let same : first ≡ other = cc in
    let place : 20 ≡ 0 = ap (λ (p : Unresolved). p.1) same in
    absurd (omega (arith, place))

-- ---- one package alone

one_not_twice : (name : PackageName) (span1 span2 : OptionalSpan) → IsDefinedTwice one_alone name span1 span2 → ⊥
one_not_twice name span1 span2 t = not_later t.earlier t.later t.before t.second
  where
    not_later : (earlier later : ℕ) → earlier < later → SomeAt one_alone later (λ (p : Unresolved). (p.0.name ≡ name) × (span1 ≡ moved_by p.1 p.0.package_name_span)) → ⊥
    not_later earlier zero before second = absurd (omega (arith, before))
    not_later earlier (suc later) before second = second

one_uses_none : (user used : ℕ) → Contains (direct (group_uses one_alone) user) used → ⊥
one_uses_none zero used inside = none_in used inside
one_uses_none (suc user) used inside = none_in used inside

one_sorts : (error : ResolveErrorKind) → IsSortCause one_alone error → ⊥
one_sorts (DuplicatePackage name span1 span2) t = one_not_twice name span1 span2 t
one_sorts (PackageCycle span home) c = one_uses_none c.user c.used c.on_cycle.is_used
one_sorts OffsetOverflow (inl twice) = one_not_twice twice.0 twice.1 twice.2 twice.3
one_sorts OffsetOverflow (inr cycle) = one_uses_none cycle.2.user cycle.2.used cycle.2.on_cycle.is_used
one_sorts _ none = none

one_by_name : AreByName one_alone (0 ∷ [])
one_by_name k d low high = absurd (omega (arith, high))

one_order : IsGroupOrder one_alone (0 ∷ [])
unfolding post_order post_order_within
one_order = record { roots = 0 ∷ []; all = record { moves = []; below = tt; is = refl }; by_name = one_by_name; is = refl }

-- ---- places that end just before the last position

two_use_none : (offset user used : ℕ) → Contains (direct (group_uses (twice_at offset)) user) used → ⊥
two_use_none offset zero used inside = none_in used inside
two_use_none offset (suc zero) used inside = none_in used inside
two_use_none offset (suc (suc user)) used inside = none_in used inside

ends_before : (name : PackageName) (span : OptionalSpan) (k : ℕ) → SomeAt (twice_at 4294967282) k (λ (p : Unresolved). (p.0.name ≡ name) × (span ≡ moved_by p.1 p.0.package_name_span)) → PassesLastPosition span → ⊥
ends_before name span zero there far =
    let end : end_of span ≡ 13 = ap (λ (p : OptionalSpan). end_of p) there.1 in
    let to : end_of span ≡ far.1 = ap (λ (p : OptionalSpan). end_of p) far.2 in
    absurd (omega (arith, end, to, far.3))
ends_before name span (suc zero) there far =
    let end : end_of span ≡ 4294967295 = ap (λ (p : OptionalSpan). end_of p) there.1 in
    let to : end_of span ≡ far.1 = ap (λ (p : OptionalSpan). end_of p) far.2 in
    absurd (omega (arith, end, to, far.3))
ends_before name span (suc (suc k)) there far = there

just_told : HasSpanOverflow (twice_at 4294967282) → ⊥
just_told (inl (name, span1, span2, twice, inl far)) = ends_before name span1 twice.later twice.second far
just_told (inl (name, span1, span2, twice, inr far)) = ends_before name span2 twice.earlier twice.first far
just_told (inr (span, home, cycle, far)) = two_use_none 4294967282 cycle.user cycle.used cycle.on_cycle.is_used

pub orders : ExamplesOfOrders
orders = record {
  user_first = λ o. backwards (main_last o.roots (0 ∷ 1 ∷ []) o.all o.is);
  left_out = λ o. two_not_one (main_last o.roots (1 ∷ []) o.all o.is);
  against_names = dep_order;
  user_before = λ o. backwards (dep_last o.roots (0 ∷ 1 ∷ []) o.all o.is);
  by_names = two_order;
  as_unresolved = λ o. backwards (by_name o.roots (0 ∷ 1 ∷ []) o.all o.by_name o.is);
  sorted = record { is_order = main_order; are = (refl, (refl, tt)) };
  unsorted = unsorted;
  one = record { is_order = one_order; are = (refl, tt) };
  too_far = inl (foo_bar, _, _, record { earlier = 0; later = 1; before = lit< tt; first = (refl, refl); second = (refl, refl) }, inl (_, _, refl, lit≤ tt));
  just_told = just_told;
}

-- ---- groups

only_unresolved : (name : PackageName) (earlier later : ℕ) → earlier < later → SomeAt ((bare foo_bar, 0) ∷ []) later (λ (p : Unresolved). (p.0.name ≡ name) × (Some (8, 13) ≡ moved_by p.1 p.0.package_name_span)) → ⊥
only_unresolved name earlier zero before second = absurd (omega (arith, before))
only_unresolved name earlier (suc later) before second = second

no_way_back : (user used : ℕ) → Contains (direct (group_uses main_and_dep) user) used → (path : List ℕ) → IsPath (group_uses main_and_dep) used path user → ⊥
no_way_back zero used uses [] same = absurd (omega (arith, only_one 1 used uses, same))
no_way_back zero used uses (k ∷ path) leads = none_in k (subst (λ (x : ℕ). Contains (direct (group_uses main_and_dep) x) k) (sym (only_one 1 used uses)) leads.0)
no_way_back (suc zero) used uses path leads = none_in used uses
no_way_back (suc (suc user)) used uses path leads = none_in used uses

pub groups : ExamplesOfGroups
groups = record {
  uses = refl;
  itself = refl;
  dependency_first = main_order;
  twice = record { earlier = 0; later = 1; before = lit< tt; first = (refl, refl); second = (refl, refl) };
  not_twice = λ name t. only_unresolved name t.earlier t.later t.before t.second;
  cycle = record {
    user = 1;
    used = 0;
    told = 0;
    on_cycle = record { is_used = (0, lit< tt, refl); leads_back = (1 ∷ [], ((0, lit< tt, refl), refl)) };
    depends = record { p = _; place = 0; name = main_name; items = _; is = refl; names = refl; used_is = refl; span_is = refl };
    to_told = ([], refl);
    from_told = (1 ∷ [], ((0, lit< tt, refl), refl));
    is = refl;
  };
  own_cycle = record {
    user = 0;
    used = 0;
    told = 0;
    on_cycle = record { is_used = (0, lit< tt, refl); leads_back = ([], refl) };
    depends = record { p = _; place = 0; name = main_name; items = _; is = refl; names = refl; used_is = refl; span_is = refl };
    to_told = ([], refl);
    from_told = ([], refl);
    is = refl;
  };
  no_cycle = λ home c. no_way_back c.user c.used c.on_cycle.is_used c.on_cycle.leads_back.0 c.on_cycle.leads_back.1;
  alone = one_sorts;
}
