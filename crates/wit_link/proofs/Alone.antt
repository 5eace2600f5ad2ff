-- One package that doesn't name things of itself is its own order.
use Rattle.std.proofs.Common.{◌≡◌, ◌∙◌, ◌<◌, ◌+◌, ℕ, inl, inr, zero, suc, true, false, List, [], ◌∷◌, ◌++◌, length, refl, ap, sym, subst, arith, IsTrue, Option, Some, None, is_some, not, slice_get, Contains}
use Rattle.std.proofs.lemmas.Bool.{cases_Bool, false≢true}
use Rattle.std.proofs.lemmas.List.Elements.{All-nil}
use Rattle.std.proofs.lemmas.List.Sorted.{IsPermutation-refl}
use Rattle.std.specs.Prelude.{position, filter_map, flat_map}
use Rattle.std.specs.Map.{lookup}
use Rattle.wit_digraph.specs.facts.MemberFacts.{Contains-nil}
use Rattle.wit_digraph.specs.facts.PostOrderFacts.{post_order_is}
use Rattle.wit_digraph.specs.Relation.{IsAcyclic, direct}
use Rattle.wit_digraph.specs.PostOrder.{first_of_each, post_order}
use Rattle.wit_data.specs.Foreign.{ForeignItem}
use Rattle.wit_names.specs.PackageName.{same_package}
use Rattle.wit_names.specs.declared.package_name.PackageName.{PackageName}
use Rattle.wit_names.specs.facts.PackageNameFacts.{own_name, same_name}
use Rattle.wit_link.specs.GroupOrder.{AreSorted, Unresolved, group_uses}
use Rattle.wit_link.specs.steps.GroupOrderSteps.{IsAlone, IsOrdered}

-- a list of one
pub one_of : {X : Type 0} (xs : List X) (x : X) → length xs ≡ 1 → slice_get xs 0 ≡ Some x → xs ≡ x ∷ []
one_of [] x long first = cc
one_of (y ∷ []) x long first = let same : y ≡ x = cc in ap (λ z. z ∷ []) same
one_of (y ∷ z ∷ xs) x long first = absurd (omega (arith, long))

pub none_of : {X : Type 0} (o : Option X) → IsTrue (not (is_some o)) → o ≡ None
none_of None so = refl
none_of (Some x) so = absurd (false≢true so)

-- a name that differs from the one package's isn't found
name_absent : (name other : PackageName) → same_package name other ≡ false → position (same_package other) (name ∷ []) ≡ None
name_absent name other differs =
    elim (cases_Bool (same_package other name)) [
      | inl test ↦
          let same : other ≡ name = same_name other name test in
          absurd (false≢true (sym differs ∙ subst (λ (x : PackageName). same_package name x ≡ true) (sym same) (own_name name)))
      | inr test ↦ rw test refl
    ]

none_first : (name : PackageName) (e : PackageName × List ForeignItem) (es : List (PackageName × List ForeignItem)) → lookup (same_package name) (e ∷ es) ≡ None → (same_package name e.0 ≡ false) × (lookup (same_package name) es ≡ None)
none_first name e es none =
    elim (cases_Bool (same_package name e.0)) [
      | inl test ↦ let found : Some e.1 ≡ None = rw test at none in absurd (cc)
      | inr test ↦ (test, rw test at none)
    ]

pub names_none : (name : PackageName) (es : List (PackageName × List ForeignItem)) → lookup (same_package name) es ≡ None → filter_map (λ (e : PackageName × List ForeignItem). position (same_package e.0) (name ∷ [])) es ≡ []
names_none name [] none = refl
names_none name (e ∷ es) none =
    let first = none_first name e es none in
    rw (name_absent name e.0 first.0) (names_none name es first.1)

no_uses : (i : ℕ) → direct ([] ∷ []) i ≡ []
no_uses zero = refl
no_uses (suc i) = refl

one_acyclic : IsAcyclic ([] ∷ [])
one_acyclic = record {
  in_range = λ i. rw (no_uses i) (All-nil (λ j. j < 1));
  no_cycle = λ i k path is. Contains-nil (subst (λ (row : List ℕ). Contains row k) (no_uses i) is.0);
}

one_walk : first_of_each (flat_map (post_order ([] ∷ [])) (0 ∷ [])) ≡ 0 ∷ []
one_walk =
    let one : post_order ([] ∷ []) 0 ≡ 0 ∷ [] = post_order_is ([] ∷ []) one_acyclic 0 (omega arith) in
    let walked : flat_map (post_order ([] ∷ [])) (0 ∷ []) ≡ 0 ∷ [] = ap (λ (row : List ℕ). row ++ []) one in
    ap first_of_each walked

past_one : (own : PackageName) (i j : ℕ) (name : PackageName) → i < j → slice_get (own ∷ []) j ≡ Some name → ⊥
past_one own i zero name before at = omega (arith, before)
past_one own i (suc j) name before at = cc

pub alone-ordered : (unresolved : List Unresolved) → IsAlone unresolved → IsOrdered unresolved (0 ∷ [])
alone-ordered unresolved alone =
    let uses_are : group_uses (alone.0 ∷ []) ≡ [] ∷ [] = ap (λ (row : List ℕ). row ∷ []) (names_none alone.0.0.name alone.0.0.foreign_deps alone.2) in
    rw alone.1 (record {
      is = record {
        roots = 0 ∷ [];
        all = IsPermutation-refl (0 ∷ []);
        by_name = λ k d low high. absurd (omega (arith, high));
        is = sym (ap (λ (rows : List (List ℕ)). first_of_each (flat_map (post_order rows) (0 ∷ []))) uses_are ∙ one_walk);
      };
      acyclic = subst IsAcyclic (sym uses_are) one_acyclic;
      differ = λ i j name before first second. absurd (past_one alone.0.0.name i j name before second);
    })

pub alone-sorted : (unresolved : List Unresolved) → IsAlone unresolved → AreSorted unresolved (0 ∷ []) unresolved
alone-sorted unresolved alone = record {
  is_order = (alone-ordered unresolved alone).is;
  are = rw alone.1 (refl, tt);
}
