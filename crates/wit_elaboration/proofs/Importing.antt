-- One step of the imports.
use Rattle.std.proofs.Common.{◌≡◌, ℕ, ◌+◌, ◌<◌, ◌≤◌, arith, length-append, List, [], ◌∷◌, ◌++◌, inl, inr, map, take, drop, get_or, length, refl, ap, ◌∙◌, subst, append_assoc, Contains}
use Rattle.std.specs.List.{flat_map}
use Rattle.std.specs.Map.{keys_of}
use Rattle.std.proofs.lemmas.List.{append-nil, drop_at, take_more}
use Rattle.std.proofs.lemmas.List.Concat.{flat_map-append}
use Rattle.std.proofs.lemmas.List.Elements.{Contains-append_cases}
use Rattle.wit_data.specs.declared.types.TypeDef.{TypeDef}
use Rattle.wit_data.specs.declared.world.WorldKey.TheVariants.{Interface}
use Rattle.wit_digraph.specs.facts.FreshFacts.{fresh-append, fresh_in}
use Rattle.wit_digraph.specs.PostOrder.{fresh, post_order}
use Rattle.wit_digraph.specs.steps.PostOrder.{Listed}
use Rattle.wit_elaboration.specs.Elaborated.{InheritedData, dependency_of, inherited_by_import, dependencies_before, without_span, import_with_needs}
use Rattle.wit_elaboration.specs.steps.Elaborating.{IsPostOrder, IsImporting}
use Rattle.wit_elaboration.specs.Entries.{Entry, role_of, fresh_entries}
use Rattle.wit_elaboration.specs.facts.FreshEntries.{fresh_entries-next, fresh_entries-fresh, dependency_added, key_stays}

-- what is listed after what was listed
pub fresh-next : (old now new xs ys : List ℕ) → now ≡ old ++ fresh old xs → new ≡ now ++ fresh now ys → new ≡ old ++ fresh old (xs ++ ys)
fresh-next old now new xs ys first then =
    then ∙ rw (first, append_assoc old (fresh old xs) (fresh (old ++ fresh old xs) ys), fresh-append old xs ys) refl

pub post_orders-next : (uses : List (List ℕ)) (js : List ℕ) (at : ℕ) (old now new : List ℕ) → at < length js → now ≡ old ++ fresh old (flat_map (post_order uses) (take at js)) → new ≡ now ++ fresh now (post_order uses (get_or js at 0)) →
    new ≡ old ++ fresh old (flat_map (post_order uses) (take (at + 1) js))
post_orders-next uses js at old now new below first then =
    rw (take_more js at 0 below, flat_map-append (post_order uses) (take at js) (get_or js at 0 ∷ []), append-nil (post_order uses (get_or js at 0)))
    (fresh-next old now new (flat_map (post_order uses) (take at js)) (post_order uses (get_or js at 0)) first then)

-- where a list grew, its former length is within it
pub grown : (start before after more : List ℕ) → start ≡ before → after ≡ before ++ more → length start ≤ length after
grown start before after more start_is after_is = omega (arith, ap length start_is, ap length after_is, length-append before more)

-- the interfaces that a walk listed, as entries
pub walked_entries : (s : InheritedData) (walked before after slice : List ℕ) (imports added : List Entry) → after ≡ before ++ fresh before walked → slice ≡ drop (length before) after →
    ((i : ℕ) → Contains before i → Contains (keys_of imports) (Interface i)) → added ≡ imports ++ fresh_entries (keys_of imports) (map (dependency_of s) slice) →
    added ≡ imports ++ fresh_entries (keys_of imports) (map (dependency_of s) walked)
walked_entries s walked before after slice imports added after_is slice_is covers added_is =
    let new : slice ≡ fresh before walked = slice_is ∙ ap (λ (xs : List ℕ). drop (length before) xs) after_is ∙ drop_at before (fresh before walked) (length before) refl in
    added_is ∙ rw (new, fresh_entries-fresh s walked before (keys_of imports) covers) refl

-- an entry after what it needs
module _ (types : List TypeDef) (uses : List (List ℕ)) where
  pub entry_imported : (e : Entry) (before after slice : List ℕ) (imports added done : List Entry) → after ≡ before ++ fresh before (dependencies_before uses (role_of types e.1)) → slice ≡ drop (length before) after →
      ((i : ℕ) → Contains before i → Contains (keys_of imports) (Interface i)) → added ≡ imports ++ fresh_entries (keys_of imports) (map (dependency_of (inherited_by_import types e.1)) slice) →
      done ≡ added ++ fresh_entries (keys_of added) ((e.0, without_span e.1) ∷ []) → done ≡ imports ++ fresh_entries (keys_of imports) (import_with_needs types uses e)
  entry_imported e before after slice imports added done after_is slice_is covers added_is done_is =
      let s : InheritedData = inherited_by_import types e.1 in
      let walked : List ℕ = dependencies_before uses (role_of types e.1) in
      fresh_entries-next imports added done (map (dependency_of s) walked) ((e.0, without_span e.1) ∷ []) (walked_entries s walked before after slice imports added after_is slice_is covers added_is) done_is

  -- what was walked is imported
  pub importing_entry : (e : Entry) (before after : Listed) (imports done : List Entry) → IsImporting uses before imports → IsPostOrder uses after → after.order ≡ before.order ++ fresh before.order (dependencies_before uses (role_of types e.1)) →
      done ≡ imports ++ fresh_entries (keys_of imports) (import_with_needs types uses e) → IsImporting uses after done
  importing_entry e before after imports done is is_walk after_is done_is =
      let s : InheritedData = inherited_by_import types e.1 in
      let walked : List ℕ = dependencies_before uses (role_of types e.1) in record {
        post_order = is_walk;
        imported = λ i has. rw done_is (elim (Contains-append_cases before.order (fresh before.order walked) i (subst (λ xs. Contains xs i) after_is has)) [
          | inl old ↦ key_stays imports _ (Interface i) (is.imported i old)
          | inr new ↦ entry_added s walked e imports i (fresh_in before.order walked i new)
        ]);
      }
    where
      entry_added : (s : InheritedData) (walked : List ℕ) (f : Entry) (old : List Entry) (i : ℕ) → Contains walked i → Contains (keys_of (old ++ fresh_entries (keys_of old) (map (dependency_of s) walked ++ (f.0, without_span f.1) ∷ []))) (Interface i)
      entry_added s walked f old i has =
          let now : List Entry = old ++ fresh_entries (keys_of old) (map (dependency_of s) walked) in
          subst (λ es. Contains (keys_of es) (Interface i)) (fresh_entries-next old now (now ++ fresh_entries (keys_of now) ((f.0, without_span f.1) ∷ [])) (map (dependency_of s) walked) ((f.0, without_span f.1) ∷ []) refl refl)
          (key_stays now _ (Interface i) (dependency_added s walked old i has))
