-- The entries of the first classes, as a loop over the classes comes to them.
use Rattle.std.proofs.Common.{◌≡◌, ℕ, zero, suc, ◌+◌, ◌<◌, ◌≤◌, Bool, true, false, List, [], ◌∷◌, ◌++◌, take, get_or, nat_eq, refl, sym, ap, ◌∙◌, subst, arith, inl, inr, Contains}
use Rattle.std.specs.Cmp.{nat_eq_equiv}
use Rattle.std.specs.List.{flat_map, IsDistinct, AllByRecursion}
use Rattle.std.specs.Map.{keys_of}
use Rattle.std.proofs.lemmas.Bool.{false≢true}
use Rattle.std.proofs.lemmas.List.{append-nil, take_more, take_all}
use Rattle.std.proofs.lemmas.List.Concat.{flat_map-append}
use Rattle.std.proofs.lemmas.List.Elements.{Contains-append_cases}
use Rattle.wit_data.specs.declared.types.TypeDef.{TypeDef}
use Rattle.wit_data.specs.declared.world.WorldKey.{WorldKey}
use Rattle.wit_data.specs.contracts.world.WorldKeyPartialEq.TheImpl.{eq-value}
use Rattle.wit_digraph.specs.facts.MemberFacts.{Contains-nil, Contains-cons_cases, Contains-here, Contains-there}
use Rattle.wit_elaboration.specs.Entries.{Entry, same_key, role_of, elaboration_class, by_class, fresh_entries}
use Rattle.wit_elaboration.specs.facts.Classes.{by_class-new}
use Rattle.wit_elaboration.specs.facts.Filters.{filter-pass}
use Rattle.wit_elaboration.specs.facts.FreshEntries.{AllNew, same_key-refl, absent_from, fresh_entries-next, fresh_entries-all_new}
use Rattle.wit_elaboration.specs.facts.Keys.{key_eq-same}
use Rattle.wit_elaboration.proofs.Roles.{each_member}
use Rattle.wit_elaboration.specs.steps.Parts.{of_class}

abbrev classes : List ℕ
classes = 0 ∷ 1 ∷ 2 ∷ 3 ∷ 4 ∷ []

-- the entries of the first `count` classes
abbrev pub first_classes : List TypeDef → ℕ → List Entry → List Entry
first_classes types count entries = flat_map (λ c. of_class types c entries) (take count classes)

class_at : (c : ℕ) → c < 5 → get_or classes c 0 ≡ c
class_at zero below = refl
class_at (suc zero) below = refl
class_at (suc (suc zero)) below = refl
class_at (suc (suc (suc zero))) below = refl
class_at (suc (suc (suc (suc zero)))) below = refl
class_at (suc (suc (suc (suc (suc c))))) below = absurd (omega arith)

module _ (types : List TypeDef) where
  pub first_classes-next : (c : ℕ) (entries : List Entry) → c < 5 → first_classes types (c + 1) entries ≡ first_classes types c entries ++ of_class types c entries
  first_classes-next c entries below =
      rw (take_more classes c 0 below, class_at c below, flat_map-append (λ d. of_class types d entries) (take c classes) (c ∷ []), append-nil (of_class types c entries)) refl

  pub first_classes-all : (c : ℕ) (entries : List Entry) → 5 ≤ c → first_classes types c entries ≡ by_class types entries
  first_classes-all c entries all = ap (λ cs. flat_map (λ d. of_class types d entries) cs) (take_all c classes all)

  -- entries of which some are left, and the first of these is of the class
  pub class_first : (c : ℕ) {left others : List Entry} {e : Entry} → left ≡ e ∷ others → elaboration_class (role_of types e.1) ≡ c → of_class types c left ≡ e ∷ of_class types c others
  class_first c {left} {others} {e} first same =
      ap (of_class types c) first
      ∙ filter-pass (λ (f : Entry). nat_eq (elaboration_class (role_of types f.1)) c) e others (subst (λ d. nat_eq (elaboration_class (role_of types e.1)) d ≡ true) same (nat_eq_equiv.refl (elaboration_class (role_of types e.1))))

  -- one class more
  pub classes_walked : (f : Entry → List Entry) (c : ℕ) (es now new : List Entry) → c < 5 → now ≡ fresh_entries [] (flat_map f (first_classes types c es)) →
      new ≡ now ++ fresh_entries (keys_of now) (flat_map f (of_class types c es)) → new ≡ fresh_entries [] (flat_map f (first_classes types (c + 1) es))
  classes_walked f c es now new below first then =
      rw (first_classes-next c es below, flat_map-append f (first_classes types c es) (of_class types c es))
      (fresh_entries-next [] now new (flat_map f (first_classes types c es)) (flat_map f (of_class types c es)) first then)

  pub classes_copied : (c : ℕ) (es now new : List Entry) → c < 5 → now ≡ fresh_entries [] (first_classes types c es) →
      new ≡ now ++ fresh_entries (keys_of now) (of_class types c es) → new ≡ fresh_entries [] (first_classes types (c + 1) es)
  classes_copied c es now new below first then =
      rw (first_classes-next c es below) (fresh_entries-next [] now new (first_classes types c es) (of_class types c es) first then)

-- ---- entries of a table have keys that differ

apart_from : (k : WorldKey) (ks : List WorldKey) (l : WorldKey) → AllByRecursion (λ y. eq-value.it k y ≡ false) ks → Contains ks l → k ≡ l → ⊥
apart_from k ks l differ has same =
    false≢true (sym (each_member (λ y. eq-value.it k y ≡ false) ks l differ has) ∙ ap (λ (eq : WorldKey → WorldKey → Bool). eq k l) key_eq-same ∙ subst (λ m. same_key k m ≡ true) same (same_key-refl k))

all_new : (es : List Entry) (seen : List WorldKey) → IsDistinct eq-value.it (keys_of es) → ((k : WorldKey) → Contains (keys_of es) k → Contains seen k → ⊥) → AllNew seen es
unfolding IsDistinct
all_new [] seen distinct apart = tt
all_new (e ∷ es) seen distinct apart = (
  absent_from e.0 seen (apart e.0 (Contains-here e.0 (keys_of es))),
  all_new es (seen ++ e.0 ∷ []) distinct.1 (λ k has had. elim (Contains-append_cases seen (e.0 ∷ []) k had) [
    | inl old ↦ apart k (Contains-there e.0 k (keys_of es) has) old
    | inr own ↦ elim (Contains-cons_cases e.0 k [] own) [ inl same ↦ apart_from e.0 (keys_of es) k distinct.0 has same | inr none ↦ Contains-nil none ]
  ]),
)

pub AllNew-from_distinct : (es : List Entry) → IsDistinct eq-value.it (keys_of es) → AllNew [] es
AllNew-from_distinct es distinct = all_new es [] distinct (λ k has had. Contains-nil had)

-- and sorted they still do
pub sorted_all : (types : List TypeDef) (es : List Entry) → IsDistinct eq-value.it (keys_of es) → fresh_entries [] (by_class types es) ≡ by_class types es
sorted_all types es distinct = fresh_entries-all_new [] (by_class types es) (by_class-new types es (AllNew-from_distinct es distinct)).new
