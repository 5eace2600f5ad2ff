-- A world whose imports stand in order, and that exports no interface, is its own elaboration.
use Rattle.std.proofs.Common.{◌≡◌, ℕ, zero, suc, ◌+◌, arith, map, take, get_or, ◌<◌, ◌≤◌, true, false, Bool, not, inl, inr, List, [], ◌∷◌, ◌++◌, Option, None, Some, length, refl, sym, ap, subst, ◌∙◌, Contains, All, filter}
use Rattle.std.specs.Prelude.{◌↔◌, IsTrue, is_some, flat_map, option_to_list}
use Rattle.std.specs.List.{IsDistinct, list_any}
use Rattle.std.specs.Map.{keys_of}
use Rattle.std.proofs.lemmas.List.{append-nil, take_all, take_more}
use Rattle.std.proofs.lemmas.List.Elements.{All-get_or, All-push}
use Rattle.wit_data.specs.Each.{Each}
use Rattle.wit_data.specs.facts.EachFacts.{EachAt-cons, EachAt-nil}
use Rattle.wit_data.specs.declared.types.TypeDef.{TypeDef}
use Rattle.wit_data.specs.declared.world.WorldItem.{WorldItem}
use Rattle.wit_data.specs.declared.world.WorldKey.{WorldKey}
use Rattle.wit_data.specs.declared.world.WorldItem.TheVariants as item
use Rattle.wit_data.specs.declared.world.WorldKey.TheVariants.{Name, Interface}
use Rattle.wit_data.specs.contracts.world.WorldKeyPartialEq.TheImpl.{eq-value}
use Rattle.wit_digraph.specs.facts.MemberFacts.{Contains-nil, Contains-cons_cases}
use Rattle.wit_digraph.specs.Relation.{IsAcyclic}
use Rattle.wit_elaboration.specs.Elaborated.{dependencies_before, dependency_of, elaborated_exports, elaborated_imports, export_needs, import_with_needs, inherited_by_export, inherited_by_import, without_span}
use Rattle.wit_elaboration.specs.laws.ElaborationLaws.{DependenciesFirst, stands_on}
use Rattle.wit_elaboration.specs.Entries.{Entry, Instance, by_class, fresh_entries, item_interface, key_interface, role_of, same_key}
use Rattle.wit_elaboration.specs.Imported.{HasTransitiveConflict, is_exported}
use Rattle.wit_elaboration.specs.Sound.{AreSound, IsRoleInRange, IsUnderOwnKey}
use Rattle.wit_elaboration.proofs.Absorbed.{absorbed}
use Rattle.wit_elaboration.specs.facts.Filters.{filter-all, filter-none}
use Rattle.wit_elaboration.proofs.FirstClasses.{AllNew-from_distinct}
use Rattle.wit_elaboration.specs.facts.FreshEntries.{AllNew, id_known, ids-push, interfaces_of_keys}
use Rattle.wit_elaboration.proofs.Roles.{in_order, role_from_instance}
use Rattle.wit_elaboration.specs.steps.Parts.{export_with_needs, is_interface, exported_interfaces}

-- the import of an entry leaves it as it is
abbrev pub IsSettled : Entry → Type 0
IsSettled e = without_span e.1 ≡ e.1

-- ---- exports without interfaces

abbrev pub HoldsNone : Entry → Type 0
HoldsNone e = item_interface e.1 ≡ []

pub holds_none : (o : Option ℕ) (ids : List ℕ) (b : Bool) → option_to_list o ≡ ids → b ≡ is_some o → IsTrue (not b) ↔ (ids ≡ [])
holds_none None ids false are is = (λ _. sym are, λ _. refl)
holds_none None ids true are is = cc
holds_none (Some i) ids true are is = (λ h. cc, λ none. cc (are, none))
holds_none (Some i) ids false are is = cc

not_interface : (e : Entry) → HoldsNone e → is_interface e ≡ false
not_interface e = of e.1
  where
    of : (x : WorldItem) → item_interface x ≡ [] → is_interface (e.0, x) ≡ false
    of (item.Interface i stability docs span external_id) none = cc
    of (item.Function function) none = refl
    of (item.Type_ id span) none = refl

each_has : {P : Entry → Type 0} (es : List Entry) (e : Entry) → Each P es → Contains es e → P e
each_has [] e each has = absurd (Contains-nil has)
each_has {P} (x ∷ es) e each has = elim (Contains-cons_cases x e es has) [ inl same ↦ subst P same (each 0 x refl) | inr there ↦ each_has es e (λ i y at. each (suc i) y at) there ]

module _ (uses : List (List ℕ)) (exports : List Entry) (none : Each HoldsNone exports) where
  abbrev outside : ℕ → Bool
  outside j = not (is_exported exports j)

  nothing_exported : exported_interfaces exports ≡ []
  nothing_exported = of exports none
    where
      of : (es : List Entry) → Each HoldsNone es → exported_interfaces es ≡ []
      of [] each = refl
      of (e ∷ es) each = let here : item_interface e.1 ≡ [] = each 0 e refl in ap (λ (ids : List ℕ). ids ++ exported_interfaces es) here ∙ of es (λ i x at. each (suc i) x at)

  pub no_conflict : HasTransitiveConflict uses exports → ⊥
  no_conflict conflict = Contains-nil (subst (λ (ids : List ℕ). Contains ids conflict.0) nothing_exported conflict.2)

  pub exports_stay : elaborated_exports uses exports ≡ exports
  exports_stay =
      let functions : filter (λ (e : Entry). not (is_interface e)) exports ≡ exports =
      filter-all (λ (e : Entry). not (is_interface e)) exports (λ e has. ap not (not_interface e (each_has exports e none has))) in
      let interfaces : filter is_interface exports ≡ [] = filter-none is_interface exports (λ e has. not_interface e (each_has exports e none has)) in
      ap (λ (es : List Entry). es ++ fresh_entries [] (flat_map (export_with_needs uses (is_exported exports)) (filter is_interface exports))) functions
      ∙ ap (λ (es : List Entry). exports ++ fresh_entries [] (flat_map (export_with_needs uses (is_exported exports)) es)) interfaces
      ∙ append-nil exports

  pub imports_stay : (types : List TypeDef) (imports : List Entry) → by_class types imports ≡ imports → fresh_entries [] (flat_map (import_with_needs types uses) (by_class types imports)) ≡ imports → elaborated_imports types uses imports exports ≡ imports
  imports_stay types imports sorted complete =
      let nothing : flat_map (export_needs uses outside) exports ≡ [] = steps exports none in
      ap (λ (es : List Entry). by_class types (fresh_entries [] (flat_map (import_with_needs types uses) (by_class types imports) ++ es))) nothing
      ∙ ap (λ (es : List Entry). by_class types (fresh_entries [] es)) (append-nil (flat_map (import_with_needs types uses) (by_class types imports)))
      ∙ ap (by_class types) complete
      ∙ sorted
    where
      steps : (es : List Entry) → Each HoldsNone es → flat_map (export_needs uses outside) es ≡ []
      steps [] each = refl
      steps (e ∷ es) each =
          let here : item_interface e.1 ≡ [] = each 0 e refl in
          ap (λ (ids : List ℕ). map (dependency_of (inherited_by_export e.1)) (filter outside (flat_map (λ i. dependencies_before uses (Instance i)) ids)) ++ flat_map (export_needs uses outside) es) here
          ∙ steps es (λ i x at. each (suc i) x at)

-- ---- imports in order

all_one : (P : ℕ → Type 0) (i : ℕ) → P i → All P (i ∷ [])
all_one P i holds zero d below = holds
all_one P i holds (suc k) d below = absurd (omega arith)

module _ (types : List TypeDef) (uses : List (List ℕ)) where
  -- where the imports that are left stand in order, all do
  pub record StandOn (order : List ℕ) (left all : List Entry) : Type 0 where
    pub seen : List WorldKey
    pub order_is : order ≡ interfaces_of_keys seen
    pub new : AllNew seen left
    pub sound : AreSound types (length uses) left
    pub whole : DependenciesFirst types uses order left → Each IsSettled left
        → DependenciesFirst types uses [] all × Each IsSettled all

  pub stand-start : (order : List ℕ) (left all : List Entry) → order ≡ [] → left ≡ all → AreSound types (length uses) all → IsDistinct eq-value.it (keys_of all) → StandOn order left all
  stand-start order left all none is sound distinct =
      subst (λ (ids : List ℕ). StandOn ids left all) (sym none) (subst (λ (es : List Entry). StandOn [] es all) (sym is) (record {
        seen = [];
        order_is = refl;
        new = AllNew-from_distinct all distinct;
        sound = sound;
        whole = λ first settled. (first, settled);
      }))

  module _ {order : List ℕ} {left others all : List Entry} {k : WorldKey} {x : WorldItem} (first : left ≡ (k, x) ∷ others) (on : StandOn order left all) where
    sound_here : AreSound types (length uses) ((k, x) ∷ others)
    sound_here = subst (AreSound types (length uses)) first on.sound

    new_here : AllNew on.seen ((k, x) ∷ others)
    new_here = subst (AllNew on.seen) first on.new

    pub role_here : IsRoleInRange (length uses) (role_of types x)
    role_here = sound_here.in_range.0

    pub key_here : All (λ i. i < length uses) (key_interface k)
    key_here = of k sound_here.own_keys.0
      where
        of : (key : WorldKey) → IsUnderOwnKey key x → All (λ i. i < length uses) (key_interface key)
        of (Name label) own = λ i d below. absurd (below_nothing i below)
          where
            below_nothing : (n : ℕ) → n < 0 → ⊥
            below_nothing n less = omega arith
        of (Interface i) own = all_one (λ j. j < length uses) i (subst (IsRoleInRange (length uses)) (role_from_instance types x i own) role_here)

    pub key_new : (i : ℕ) → Contains (key_interface k) i → Contains order i → ⊥
    key_new i names listed = of k names new_here.0
      where
        of : (key : WorldKey) → Contains (key_interface key) i → list_any (same_key key) on.seen ≡ false → ⊥
        of (Name label) has fresh = Contains-nil has
        of (Interface j) has fresh =
            let same : j ≡ i = one has in
            let known : list_any (same_key (Interface i)) on.seen ≡ true = id_known i on.seen (subst (λ (ids : List ℕ). Contains ids i) on.order_is listed) in
            let old : list_any (same_key (Interface i)) on.seen ≡ false = subst (λ n. list_any (same_key (Interface n)) on.seen ≡ false) same fresh in
            cc (known, old)
          where
            one : Contains (j ∷ []) i → j ≡ i
            one has = elim (Contains-cons_cases j i [] has) [ inl same ↦ same | inr there ↦ absurd (Contains-nil there) ]

    pub stand-more : (new : List ℕ) → new ≡ order ++ key_interface k → (without_span x ≡ x) × All (Contains order) (stands_on uses (role_of types x)) → StandOn new others all
    stand-more new new_is here = subst (λ (ids : List ℕ). StandOn ids others all) (sym new_is) (record {
      seen = on.seen ++ k ∷ [];
      order_is = ap (λ (ids : List ℕ). ids ++ key_interface k) on.order_is ∙ sym (ids-push on.seen k);
      new = new_here.1;
      sound = record { own_keys = sound_here.own_keys.1; in_range = sound_here.in_range.1 };
      whole = λ df settled. on.whole
          (subst (DependenciesFirst types uses order) (sym first) (here.1, df))
          (subst (λ (es : List Entry). Each IsSettled es) (sym first) (EachAt-cons (λ _. IsSettled) (k, x) others here.0 settled));
    })

  pub stand-all : {order : List ℕ} {left all : List Entry} → left ≡ [] → StandOn order left all → DependenciesFirst types uses [] all × Each IsSettled all
  stand-all {order} {left} none on =
      on.whole (subst (DependenciesFirst types uses order) (sym none) tt) (subst (λ (es : List Entry). Each IsSettled es) (sym none) (EachAt-nil (λ _. IsSettled)))

  -- such imports, sorted, are what elaboration makes of them
  pub complete : (imports : List Entry) → IsAcyclic uses → AreSound types (length uses) imports → IsDistinct eq-value.it (keys_of imports) → by_class types imports ≡ imports
      → DependenciesFirst types uses [] imports → Each IsSettled imports → fresh_entries [] (flat_map (import_with_needs types uses) (by_class types imports)) ≡ imports
  complete imports acyclic sound distinct sorted first settled =
      let order = in_order types (length uses) imports [] (record { of_imports = sound; of_exports = record { own_keys = tt; in_range = tt } }) in
      ap (λ (es : List Entry). fresh_entries [] (flat_map (import_with_needs types uses) es)) sorted
      ∙ absorbed types uses acyclic (inherited_by_import types) without_span imports [] (AllNew-from_distinct imports distinct) first tt order.own_imports order.imports_in_range
      (λ e has. each_has imports e settled has)

-- ---- nodes that are all listed

module _ (P : ℕ → Type 0) (xs : List ℕ) (i : ℕ) where
  pub listed_more : i < length xs → All P (take i xs) → P (get_or xs i 0) → All P (take (i + 1) xs)
  listed_more below all here = subst (All P) (sym (take_more xs i 0 below)) (All-push P (take i xs) (get_or xs i 0) all here)

  pub listed_all : length xs ≤ i → All P (take i xs) → All P xs
  listed_all past all = subst (All P) (take_all i xs past) all

  pub listed_not : i < length xs → (P (get_or xs i 0) → ⊥) → (false ≡ true) ↔ All P xs
  listed_not below none = (λ is. cc, λ all. absurd (none (All-get_or P xs i 0 below all)))
