-- One step of the exports.
use Rattle.std.proofs.Common.{◌≡◌, ℕ, Bool, true, false, not, inl, inr, List, [], ◌∷◌, ◌++◌, map, filter, drop, length, refl, ap, ◌∙◌, subst, Contains}
use Rattle.std.specs.Map.{keys_of}
use Rattle.std.proofs.lemmas.Bool.{false≢true}
use Rattle.std.proofs.lemmas.List.{append-nil, drop_at}
use Rattle.std.proofs.lemmas.List.Elements.{Contains-append_cases}
use Rattle.wit_data.specs.declared.world.WorldItem.{WorldItem}
use Rattle.wit_data.specs.declared.world.WorldItem.TheVariants as item
use Rattle.wit_data.specs.declared.world.WorldKey.TheVariants.{Interface}
use Rattle.wit_digraph.specs.facts.FreshFacts.{fresh_in}
use Rattle.wit_digraph.specs.PostOrder.{fresh}
use Rattle.wit_digraph.specs.steps.PostOrder.{Listed}
use Rattle.wit_elaboration.specs.Elaborated.{InheritedData, dependencies_before, dependency_of, export_needs, inherited_by_export}
use Rattle.wit_elaboration.specs.steps.Elaborating.{IsPostOrder, IsExporting}
use Rattle.wit_elaboration.specs.steps.Parts.{export_with_needs, interface_needs}
use Rattle.wit_elaboration.specs.Entries.{Entry, Instance, item_interface, is_instance, fresh_entries}
use Rattle.wit_elaboration.specs.facts.Filters.{Contains-filtered}
use Rattle.wit_elaboration.specs.facts.FreshEntries.{fresh_entries-next, fresh_entries-filter, dependency_added, key_stays}

-- those of a walk that pass a test, as entries
pub filtered_entries : (p : ℕ → Bool) (s : InheritedData) (walked before after slice : List ℕ) (old added : List Entry) → after ≡ before ++ fresh before walked → slice ≡ drop (length before) after →
    ((i : ℕ) → Contains before i → p i ≡ true → Contains (keys_of old) (Interface i)) → added ≡ old ++ fresh_entries (keys_of old) (map (dependency_of s) (filter p slice)) →
    added ≡ old ++ fresh_entries (keys_of old) (map (dependency_of s) (filter p walked))
filtered_entries p s walked before after slice old added after_is slice_is covers added_is =
    let new : slice ≡ fresh before walked = slice_is ∙ ap (λ (xs : List ℕ). drop (length before) xs) after_is ∙ drop_at before (fresh before walked) (length before) refl in
    added_is ∙ rw (new, fresh_entries-filter p s walked before (keys_of old) covers) refl

-- what was walked before, or now, is among the entries where it passes
pub filtered_there : (p : ℕ → Bool) (s : InheritedData) (walked before after : List ℕ) (old added : List Entry) → after ≡ before ++ fresh before walked →
    ((i : ℕ) → Contains before i → p i ≡ true → Contains (keys_of old) (Interface i)) → added ≡ old ++ fresh_entries (keys_of old) (map (dependency_of s) (filter p walked)) →
    (i : ℕ) → Contains after i → p i ≡ true → Contains (keys_of added) (Interface i)
filtered_there p s walked before after old added after_is covers added_is i has pass =
    rw added_is (elim (Contains-append_cases before (fresh before walked) i (subst (λ xs. Contains xs i) after_is has)) [
      | inl earlier ↦ key_stays old _ (Interface i) (covers i earlier pass)
      | inr new ↦ dependency_added s (filter p walked) old i (Contains-filtered p walked i (fresh_in before walked i new) pass)
    ])

not_of : (b : Bool) → b ≡ false → not b ≡ true
not_of b is = ap not is

of_not : (b : Bool) → not b ≡ true → b ≡ false
of_not true is = absurd (false≢true is)
of_not false is = refl

-- an exported interface with what it needs
module _ (uses : List (List ℕ)) (exported : ℕ → Bool) (e : Entry) (s : InheritedData) (needed : List ℕ) (before after : Listed) (slice : List ℕ) (imports added_imports exports added_exports : List Entry)
    (state : IsExporting uses exported before imports exports)
    (after_is : after.order ≡ before.order ++ fresh before.order needed)
    (slice_is : slice ≡ drop (length before.order) after.order)
    (imports_are : added_imports ≡ imports ++ fresh_entries (keys_of imports) (map (dependency_of s) (filter (λ i. not (exported i)) slice)))
    (exports_are : added_exports ≡ exports ++ fresh_entries (keys_of exports) (map (dependency_of s) (filter exported slice))) where
  pub imports_added : added_imports ≡ imports ++ fresh_entries (keys_of imports) (map (dependency_of s) (filter (λ i. not (exported i)) needed))
  imports_added = filtered_entries (λ i. not (exported i)) s needed before.order after.order slice imports added_imports after_is slice_is (λ i has pass. state.are_imported i has (of_not (exported i) pass)) imports_are

  exports_added : added_exports ≡ exports ++ fresh_entries (keys_of exports) (map (dependency_of s) (filter exported needed))
  exports_added = filtered_entries exported s needed before.order after.order slice exports added_exports after_is slice_is state.are_exported exports_are

  pub entry_exported_after : (done : List Entry) → done ≡ added_exports ++ fresh_entries (keys_of added_exports) (e ∷ []) → done ≡ exports ++ fresh_entries (keys_of exports) (map (dependency_of s) (filter exported needed) ++ e ∷ [])
  entry_exported_after done done_is = fresh_entries-next exports added_exports done (map (dependency_of s) (filter exported needed)) (e ∷ []) exports_added done_is

  pub exporting_entry : (done : List Entry) → done ≡ added_exports ++ fresh_entries (keys_of added_exports) (e ∷ []) → IsPostOrder uses after → IsExporting uses exported after added_imports done
  exporting_entry done done_is is_walk = record {
    post_order = is_walk;
    are_exported = λ i has pass. rw done_is (key_stays added_exports _ (Interface i) (filtered_there exported s needed before.order after.order exports added_exports after_is state.are_exported exports_added i has pass));
    are_imported = λ i has off.
        filtered_there (λ j. not (exported j)) s needed before.order after.order imports added_imports after_is (λ j earlier pass. state.are_imported j earlier (of_not (exported j) pass)) imports_added i has (not_of (exported i) off);
  }

-- ---- one more entry of a list

pub instance_is : (x : WorldItem) (i : ℕ) → i ∷ [] ≡ item_interface x → is_instance x ≡ true
instance_is (item.Interface j stability docs span external_id) i gives = refl
instance_is (item.Function function) i gives = cc
instance_is (item.Type_ id span) i gives = cc

-- what an entry adds
module _ (uses : List (List ℕ)) (exported : ℕ → Bool) (e : Entry) where
  needed_is : (i : ℕ) → i ∷ [] ≡ item_interface e.1 → dependencies_before uses (Instance i) ≡ interface_needs uses e
  needed_is i gives = rw (← gives, append-nil (dependencies_before uses (Instance i))) refl

  pub exports_of : (i : ℕ) → i ∷ [] ≡ item_interface e.1 → map (dependency_of (inherited_by_export e.1)) (filter exported (dependencies_before uses (Instance i))) ++ e ∷ [] ≡ export_with_needs uses exported e
  exports_of i gives = ap (λ (xs : List ℕ). map (dependency_of (inherited_by_export e.1)) (filter exported xs) ++ e ∷ []) (needed_is i gives)

  pub imports_of : (i : ℕ) → i ∷ [] ≡ item_interface e.1 → map (dependency_of (inherited_by_export e.1)) (filter (λ j. not (exported j)) (dependencies_before uses (Instance i))) ≡ export_needs uses (λ j. not (exported j)) e
  imports_of i gives = ap (λ (xs : List ℕ). map (dependency_of (inherited_by_export e.1)) (filter (λ j. not (exported j)) xs)) (needed_is i gives)
