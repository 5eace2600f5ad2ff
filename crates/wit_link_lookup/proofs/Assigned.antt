-- What things are remapped to, one after another.
use Rattle.std.proofs.Common.{◌≡◌, ◌∙◌, ◌+◌, ◌≤◌, ℕ, Bool, List, [], ◌∷◌, ◌++◌, length, drop, Option, Some, slice_get, sym, ap, append_assoc}
use Rattle.std.proofs.lemmas.List.{append-nil, at_drop_all, at_drop_more}
use Rattle.std.proofs.lemmas.Option.{get_or_from_slice_get, slice_get_within}
use Rattle.wit_link_spec.specs.facts.RankFacts.{after}
use Rattle.wit_link_lookup.specs.steps.ForeignItems.{assigned_ids, goes, has_new_id}

drop-next : {X : Type 0} (xs : List X) (i : ℕ) (x : X) → slice_get xs i ≡ Some x → drop i xs ≡ x ∷ drop (i + 1) xs
drop-next {X} xs i x at = at_drop_more (λ (l : List X). l) xs i x (slice_get_within xs i x at) ∙ ap (λ (y : X). y ∷ drop (i + 1) xs) (get_or_from_slice_get xs i x x at)

module _ (flags : List Bool) (found : List (Option ℕ)) (i : ℕ) (ids whole : List (Option ℕ)) (next : ℕ) (so_far : ids ++ assigned_ids next (drop i flags) (drop i found) ≡ whole) where
  -- one thing more
  pub assigned-more : (b : Bool) (o place : Option ℕ) (new : ℕ) (pushed : List (Option ℕ)) → slice_get flags i ≡ Some b → slice_get found i ≡ Some o → place ≡ goes b o next → new ≡ after (has_new_id b o) next → pushed ≡ ids ++ place ∷ []
      → pushed ++ assigned_ids new (drop (i + 1) flags) (drop (i + 1) found) ≡ whole
  assigned-more b o place new pushed flag_at found_at place_is new_is pushed_is =
      let left = λ (n : ℕ). assigned_ids n (drop (i + 1) flags) (drop (i + 1) found) in
      let first : assigned_ids next (drop i flags) (drop i found) ≡ goes b o next ∷ left (after (has_new_id b o) next) =
      ap (λ (l : List Bool). assigned_ids next l (drop i found)) (drop-next flags i b flag_at) ∙ ap (assigned_ids next (b ∷ drop (i + 1) flags)) (drop-next found i o found_at) in
      ap (λ (l : List (Option ℕ)). l ++ left new) pushed_is ∙ append_assoc ids (place ∷ []) (left new) ∙ ap (λ (p : Option ℕ). ids ++ p ∷ left new) place_is
      ∙ ap (λ (n : ℕ). ids ++ goes b o next ∷ left n) new_is ∙ ap (λ (l : List (Option ℕ)). ids ++ l) (sym first) ∙ so_far

  -- all things
  pub assigned-all : length flags ≤ i → ids ≡ whole
  assigned-all all = sym (append-nil ids) ∙ ap (λ (l : List (Option ℕ)). ids ++ l) (sym (at_drop_all (λ (l : List Bool). assigned_ids next l (drop i found)) flags i all)) ∙ so_far
