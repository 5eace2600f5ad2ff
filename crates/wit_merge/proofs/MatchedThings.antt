-- What is joined to an entry of a world is told by the counterpart of the interface of its key.
use Rattle.std.proofs.Common.{◌≡◌, ◌∙◌, ℕ, ◌<◌, Bool, true, false, cond, List, [], ◌∷◌, filter, get_or, length, map, option_and_then, Option, None, Some, inl, inr, arith, refl, sym, ap}
use Rattle.std.proofs.lemmas.Bool.{cases_Bool, false_from_ne_true, true≢false}
use Rattle.std.proofs.lemmas.List.FromFn.{get_or-map-range_with_len}
use Rattle.std.specs.Map.{lookup}
use Rattle.std.specs.Option.{option_map, option_map_or}
use Rattle.wit_data.specs.Entries.{Entry}
use Rattle.wit_data.specs.facts.WorldKeyFacts.{key_is, same_key}
use Rattle.wit_data.specs.declared.world.WorldItem.{WorldItem}
use Rattle.wit_data.specs.declared.world.WorldKey.{WorldKey}
use Rattle.wit_data.specs.declared.world.WorldItem.TheVariants as item
use Rattle.wit_data.specs.declared.world.WorldKey.TheVariants as key
use Rattle.wit_elaboration.specs.Valid.{IsValid}
use Rattle.wit_remap_spec.specs.Image.{entry_image, item_image}
use Rattle.wit_remap_spec.specs.Joined.{joined_entry, joined_item}
use Rattle.wit_merge_spec.specs.Merged.{is_under_id, merge_maps, merged_interface}
use Rattle.wit_merge_spec.specs.Matches.{GraphMerge, counterpart_interface}
use Rattle.wit_merge_laws.specs.facts.InterfacesStand.{moved_interface_remapped}
use Rattle.wit_merge_laws.specs.facts.ListedStand.{interfaces_apart}
use Rattle.wit_merge_laws.specs.facts.MatchFacts.{goes_to}
use Rattle.wit_merge_laws.specs.facts.TypesStand.{matched_some}
use Rattle.wit_merge.specs.steps.MergeSteps.{KeyWithin, KnowsCounterparts, entry_joined, stability_joined, stability_of, stability_under, CanMerge, first_from, merging_of}
use Rattle.wit_merge.specs.declared.merge_plan.MergePlan.{MergePlan}
use Rattle.wit_merge.proofs.CounterpartSteps.{is_matched, none_matched}
use Rattle.wit_merge_spec.specs.steps.Parts.{moves_interface}

-- two items, where the first stands under the key of the second
item_joined : (from : Option WorldItem) (held : WorldItem) → option_map_or (λ (d : WorldItem). joined_item false d held) from held ≡ stability_joined (option_and_then stability_of from) held
item_joined None held = refl
item_joined (Some (item.Interface i stability docs span external_id)) (item.Interface i' stability' docs' span' external_id') = refl
item_joined (Some (item.Interface i stability docs span external_id)) (item.Function f) = refl
item_joined (Some (item.Interface i stability docs span external_id)) (item.Type_ t span') = refl
item_joined (Some (item.Function f)) held = refl
item_joined (Some (item.Type_ t span)) held = refl

-- an image tells the same stability
image_tells : (m : GraphMerge) (w : ℕ) (from : Option WorldItem) → option_and_then stability_of (option_map (item_image (merge_maps m) w) from) ≡ option_and_then stability_of from
image_tells m w None = refl
image_tells m w (Some (item.Interface i stability docs span external_id)) = refl
image_tells m w (Some (item.Function f)) = refl
image_tells m w (Some (item.Type_ t span)) = refl

module _ (m : GraphMerge) (valid : IsValid m.graph) (valid_other : IsValid m.other) (w : ℕ) where
  -- the images of the entries under keys of interfaces
  abbrev brought : List Entry → List Entry
  brought from = map (entry_image (merge_maps m) w) (filter (λ (e : Entry). is_under_id e.0) from)

  one_of : {a b : ℕ} → key.Interface a ≡ key.Interface b → a ≡ b
  one_of same = cc

  same_test : (i i' j : ℕ) → merged_interface m i ≡ i' → same_key (key.Interface i') (key.Interface (merged_interface m j)) ≡ same_key (key.Interface i) (key.Interface j)
  same_test i i' j goes = by (same_key (key.Interface i) (key.Interface j)) refl
    where
      by : (b : Bool) → same_key (key.Interface i) (key.Interface j) ≡ b → same_key (key.Interface i') (key.Interface (merged_interface m j)) ≡ b
      by true is =
          let same : i ≡ j = one_of ((key_is (key.Interface i) (key.Interface j)).0 is) in
          (key_is (key.Interface i') (key.Interface (merged_interface m j))).1 (ap (λ (x : ℕ). key.Interface x) (sym goes ∙ ap (merged_interface m) same))
      by false is =
          false_from_ne_true _ (λ told.
          let there : i' ≡ merged_interface m j = one_of ((key_is (key.Interface i') (key.Interface (merged_interface m j))).0 told) in
          let same : i ≡ j = interfaces_apart m valid valid_other i j (goes ∙ there) in
          true≢false (sym ((key_is (key.Interface i) (key.Interface j)).1 (ap (λ (x : ℕ). key.Interface x) same)) ∙ is))

  -- what stands under the place of interface i there is the image of what stands under it
  under : (i i' : ℕ) → merged_interface m i ≡ i' → (from : List Entry) → lookup (same_key (key.Interface i')) (brought from) ≡ option_map (item_image (merge_maps m) w) (lookup (same_key (key.Interface i)) from)
  under i i' goes [] = refl
  under i i' goes ((key.Name label, held) ∷ from) = under i i' goes from
  under i i' goes ((key.Interface j, held) ∷ from) =
      ap (λ (b : Bool). cond b (Some (item_image (merge_maps m) w held)) (lookup (same_key (key.Interface i')) (brought from))) (same_test i i' j goes)
      ∙ fused (same_key (key.Interface i) (key.Interface j)) (under i i' goes from)
    where
      fused : (b : Bool) → lookup (same_key (key.Interface i')) (brought from) ≡ option_map (item_image (merge_maps m) w) (lookup (same_key (key.Interface i)) from)
          → cond b (Some (item_image (merge_maps m) w held)) (lookup (same_key (key.Interface i')) (brought from)) ≡ option_map (item_image (merge_maps m) w) (cond b (Some held) (lookup (same_key (key.Interface i)) from))
      fused true rest = refl
      fused false rest = rest

  -- nothing stands under an interface to which none goes
  none_under : (i' : ℕ) → ((j : ℕ) → merged_interface m j ≡ i' → ⊥) → (from : List Entry) → lookup (same_key (key.Interface i')) (brought from) ≡ None
  none_under i' none [] = refl
  none_under i' none ((key.Name label, held) ∷ from) = none_under i' none from
  none_under i' none ((key.Interface j, held) ∷ from) =
      let apart : same_key (key.Interface i') (key.Interface (merged_interface m j)) ≡ false =
      false_from_ne_true _ (λ told. none j (sym (one_of ((key_is (key.Interface i') (key.Interface (merged_interface m j))).0 told)))) in
      ap (λ (b : Bool). cond b (Some (item_image (merge_maps m) w held)) (lookup (same_key (key.Interface i')) (brought from))) apart ∙ none_under i' none from

  -- nor under a label
  label_under : (label : List ℕ) (from : List Entry) → lookup (same_key (key.Name label)) (brought from) ≡ None
  label_under label [] = refl
  label_under label ((key.Name other, held) ∷ from) = label_under label from
  label_under label ((key.Interface j, held) ∷ from) = label_under label from

module _ (u : MergePlan) (ready : CanMerge u) (counterparts : List (Option ℕ)) (known : KnowsCounterparts u counterparts) (w : ℕ) (from : List Entry) where
  abbrev m : GraphMerge
  m = merging_of u

  abbrev list : List (Option ℕ)
  list = u.matches.now.interfaces

  told : (i' : ℕ) → i' < length u.graph.now.interfaces → get_or counterparts i' None ≡ first_from 0 list i'
  told i' below =
      ap (λ (l : List (Option ℕ)). get_or l i' None) known ∙ get_or-map-range_with_len (first_from 0 list) 0 (length u.graph.now.interfaces) i' i' None below (omega arith)

  -- an interface that goes to one of the graph is matched with it
  goes_back : (i' j : ℕ) → i' < length u.graph.now.interfaces → merged_interface m j ≡ i' → get_or list j None ≡ Some i'
  goes_back i' j below goes = elim (cases_Bool (moves_interface m j)) [
    | inl moves ↦ let past = moved_interface_remapped m j moves in absurd (omega (arith, past, goes, below))
    | inr stays ↦
        let found = matched_some (counterpart_interface m j) stays in
        let place = goes_to (counterpart_interface m j) _ found.0 found.1 in
        let same : found.0 ≡ i' = sym place ∙ goes in
        ready.matches.interfaces.each j ∙ found.1 ∙ ap (λ (x : ℕ). Some x) same
  ]

  abbrev Same : WorldKey → WorldItem → Type 0
  Same k held = joined_entry false (brought m ready.valid ready.valid_other w from) (k, held) ≡ entry_joined counterparts from (k, held)

  pub entry_is : (k : WorldKey) (held : WorldItem) → KeyWithin (length u.graph.now.interfaces) k → Same k held
  entry_is (key.Name label) held within =
      ap (λ (o : Option WorldItem). let r : Entry = (key.Name label, option_map_or (λ (d : WorldItem). joined_item false d held) o held) in r) (label_under m ready.valid ready.valid_other w label from)
  entry_is (key.Interface i') held within = by (first_from 0 list i') refl
    where
      joined : (o : Option WorldItem) → lookup (same_key (key.Interface i')) (brought m ready.valid ready.valid_other w from) ≡ option_map (item_image (merge_maps m) w) o
          → stability_under counterparts from (key.Interface i') ≡ option_and_then stability_of o → Same (key.Interface i') held
      joined o there tells =
          ap (λ (x : Option WorldItem). let r : Entry = (key.Interface i', option_map_or (λ (d : WorldItem). joined_item false d held) x held) in r) there
          ∙ ap (λ (h : WorldItem). let r : Entry = (key.Interface i', h) in r)
          (item_joined (option_map (item_image (merge_maps m) w) o) held ∙ ap (λ s. stability_joined s held) (image_tells m w o ∙ sym tells))

      by : (o : Option ℕ) → first_from 0 list i' ≡ o → Same (key.Interface i') held
      by None is =
          let none : (j : ℕ) → merged_interface m j ≡ i' → ⊥ = λ j goes. none_matched list i' is j (goes_back i' j within goes) in
          joined None (none_under m ready.valid ready.valid_other w i' none from) (ap (option_and_then (λ i. option_and_then stability_of (lookup (same_key (key.Interface i)) from))) (told i' within ∙ is))
      by (Some i) is =
          let found = sym (ready.matches.interfaces.each i) ∙ is_matched list i' i is in
          let goes = goes_to (counterpart_interface m i) _ i' found in
          joined (lookup (same_key (key.Interface i)) from) (under m ready.valid ready.valid_other w i i' goes from)
          (ap (option_and_then (λ x. option_and_then stability_of (lookup (same_key (key.Interface x)) from))) (told i' within ∙ is))
