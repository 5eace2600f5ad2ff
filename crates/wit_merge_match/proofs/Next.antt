-- One thing more of those that find their places.
use Rattle.std.proofs.Common.{◌≡◌, ◌∙◌, ◌+◌, ℕ, zero, suc, Bool, true, false, not, List, Option, None, Some, get_or, is_some, length, map, unwrap_or, add-one, ap, arith, refl, sym}
use Rattle.std.specs.List.{range_with_len}
use Rattle.wit_link_spec.specs.facts.RankFacts.{after, rank-suc}
use Rattle.wit_link_spec.specs.facts.RangeFacts.{range-same}
use Rattle.wit_remap_spec.specs.Selected.{rank}
use Rattle.wit_merge_match.specs.steps.Matched.{AreFound, moves, new_id_from}

module _ (found : List (Option ℕ)) (first i : ℕ) where
  -- where it goes
  pub one_place : (o : Option ℕ) (next place : ℕ) → o ≡ get_or found i None → next ≡ first + rank (moves found) i → place ≡ unwrap_or o next → place ≡ new_id_from found first i
  one_place o next place at next_is place_is = place_is ∙ ap (λ (n : ℕ). unwrap_or o n) next_is ∙ ap (λ (p : Option ℕ). unwrap_or p (first + rank (moves found) i)) at

  -- the next id behind it
  pub one_next : (o : Option ℕ) (next new : ℕ) → o ≡ get_or found i None → next ≡ first + rank (moves found) i → new ≡ after (not (is_some o)) next → new ≡ first + rank (moves found) (i + 1)
  one_next o next new at next_is new_is =
      new_is ∙ ap (λ (p : Option ℕ). after (not (is_some p)) next) at ∙ ap (after (moves found i)) next_is ∙ inside (moves found i) first (rank (moves found) i)
      ∙ ap (λ (r : ℕ). first + r) (sym (rank-suc (moves found) i)) ∙ ap (λ (k : ℕ). first + rank (moves found) k) (sym (add-one i))
    where
      inside : (b : Bool) (m n : ℕ) → after b (m + n) ≡ m + after b n
      inside true m n = omega arith
      inside false m n = refl

-- what things are remapped to by a list of what is found is where they go by what is found of each
module _ (found : ℕ → Option ℕ) (count first : ℕ) (list : List (Option ℕ)) (known : AreFound found count list) where
  rank_same : (i : ℕ) → rank (moves list) i ≡ rank (λ (j : ℕ). not (is_some (found j))) i
  rank_same zero = refl
  rank_same (suc i) =
      rank-suc (moves list) i ∙ ap (λ (o : Option ℕ). after (not (is_some o)) (rank (moves list) i)) (known.each i)
      ∙ ap (after (not (is_some (found i)))) (rank_same i) ∙ sym (rank-suc (λ (j : ℕ). not (is_some (found j))) i)

  pub place_same : (i : ℕ) → new_id_from list first i ≡ unwrap_or (found i) (first + rank (λ (j : ℕ). not (is_some (found j))) i)
  place_same i = ap (λ (o : Option ℕ). unwrap_or o (first + rank (moves list) i)) (known.each i) ∙ ap (λ (r : ℕ). unwrap_or (found i) (first + r)) (rank_same i)

  pub all_same : {X : Type 0} (shown : ℕ → X)
      → map (λ (i : ℕ). shown (new_id_from list first i)) (range_with_len 0 (length list)) ≡ map (λ (i : ℕ). shown (unwrap_or (found i) (first + rank (λ (j : ℕ). not (is_some (found j))) i))) (range_with_len 0 count)
  all_same shown =
      range-same (λ (i : ℕ). shown (new_id_from list first i)) (λ (i : ℕ). shown (unwrap_or (found i) (first + rank (λ (j : ℕ). not (is_some (found j))) i))) (length list) (λ j. ap shown (place_same j))
      ∙ ap (λ (n : ℕ). map (λ (i : ℕ). shown (unwrap_or (found i) (first + rank (λ (j : ℕ). not (is_some (found j))) i))) (range_with_len 0 n)) known.long

-- counted from the same place on
pub counted_same : (list : List (Option ℕ)) {first start : ℕ} → first ≡ start
    → map (λ (i : ℕ). Some (new_id_from list first i)) (range_with_len 0 (length list)) ≡ map (λ (i : ℕ). Some (new_id_from list start i)) (range_with_len 0 (length list))
counted_same list same = ap (λ (n : ℕ). map (λ (i : ℕ). Some (new_id_from list n i)) (range_with_len 0 (length list))) same
