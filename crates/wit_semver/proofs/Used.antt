-- Types that lack what they use, one after another; interfaces that disagree with what replaces them.
use Rattle.std.proofs.Common.{◌≡◌, ◌∙◌, ◌<◌, ◌++◌, ◌∷◌, [], ℕ, Bool, true, false, List, None, Some, get_or, length, nat_eq, slice_get, inl, inr, refl, sym, ap, subst, if◌then◌else◌}
use Rattle.std.specs.Map.{lookup}
use Rattle.std.proofs.lemmas.List.Elements.{Contains-append_cases}
use Rattle.std.proofs.lemmas.Option.{slice_get_read}
use Rattle.wit_digraph.specs.facts.MemberFacts.{Contains-cons_cases, Contains-nil}
use Rattle.wit_data.specs.declared.interface.Interface.{Interface}
use Rattle.wit_remap_spec.specs.FunctionMismatch.{HaveFunctionMismatch}
use Rattle.wit_semver.specs.SemverMerged.{Disagrees, LacksType, SemverMerge, is_replaced, newest, semver_merge_text}
use Rattle.wit_semver.specs.steps.Replacing.{AreReplacements, LackTypes}
use Rattle.wit_semver.specs.steps.Parts.{disagreement_text}

-- what is read at a place of a list that is lent stands there
pub stands : (ids lent : List ℕ) (i id : ℕ) → lent ≡ ids → i < length lent → id ≡ get_or lent i id → slice_get ids i ≡ Some id
stands ids lent i id same within is = subst (λ (xs : List ℕ). slice_get xs i ≡ Some id) same (slice_get_read lent _ i id refl within is)

-- one type more, which lacks nothing
pub none_lacks-next : (u : SemverMerge) (ids : List ℕ) (t : ℕ) (message : List ℕ) → ((message : List ℕ) → LackTypes u ids message → ⊥) → ((message : List ℕ) → LacksType u t message → ⊥) → LackTypes u (ids ++ t ∷ []) message → ⊥
none_lacks-next u ids t message before here lacks = elim (Contains-append_cases ids (t ∷ []) lacks.0 lacks.1) [
  | inl among ↦ before message (lacks.0, among, lacks.2)
  | inr last ↦ elim (Contains-cons_cases t lacks.0 [] last) [
    | inl same ↦ here message (subst (λ (x : ℕ). LacksType u x message) (sym same) lacks.2)
    | inr none ↦ absurd (Contains-nil none)
  ]
]

-- ---- functions that disagree

some_apart : (x : ℕ) → Some x ≡ None → ⊥
some_apart x same = cc

same_id : (x y : ℕ) → Some x ≡ Some y → x ≡ y
same_id x y same = cc

same_interface : (x y : Interface) → Some x ≡ Some y → x ≡ y
same_interface x y same = cc

module _ (u : SemverMerge) (found : List (ℕ × ℕ)) (are : AreReplacements u found) (f n : ℕ) (told : Some n ≡ lookup (nat_eq f) found) where
  test_is : (b : Bool) → is_replaced u f ≡ b → Some n ≡ (if b then Some (newest u f) else None)
  test_is b is = told ∙ are f ∙ ap (λ (c : Bool). if c then Some (newest u f) else None) is

  pub told_replaced : (is_replaced u f ≡ true) × (n ≡ newest u f)
  told_replaced = by (is_replaced u f) refl
    where
      by : (b : Bool) → is_replaced u f ≡ b → (is_replaced u f ≡ true) × (n ≡ newest u f)
      by true is = (is, same_id n (newest u f) (test_is true is))
      by false is = absurd (some_apart n (test_is false is))

  module _ (from into : Interface) (from_is : slice_get u.graph.interfaces f ≡ Some from) (into_is : slice_get u.graph.interfaces n ≡ Some into) where
    pub they_disagree : (mismatch : List ℕ) → HaveFunctionMismatch from into mismatch
        → Disagrees u f (semver_merge_text u.graph f n (disagreement_text mismatch))
    they_disagree mismatch have = record {
      old = from;
      new = into;
      mismatch = mismatch;
      replaced = told_replaced.0;
      old_is = from_is;
      new_is = ap (slice_get u.graph.interfaces) (sym told_replaced.1) ∙ into_is;
      have = have;
      message_is = ap (λ (m : ℕ). semver_merge_text u.graph f m (disagreement_text mismatch)) told_replaced.1;
    }

    pub they_agree : ((text : List ℕ) → HaveFunctionMismatch from into text → ⊥) → (message : List ℕ) → Disagrees u f message → ⊥
    they_agree agree message differ =
        let first : differ.old ≡ from = same_interface differ.old from (sym differ.old_is ∙ from_is) in
        let second : differ.new ≡ into = same_interface differ.new into (sym differ.new_is ∙ ap (slice_get u.graph.interfaces) (sym told_replaced.1) ∙ into_is) in
        agree differ.mismatch (subst (λ (x : Interface). HaveFunctionMismatch from x differ.mismatch) second (subst (λ (x : Interface). HaveFunctionMismatch x differ.new differ.mismatch) first differ.have))
