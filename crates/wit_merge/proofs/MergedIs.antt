-- What is made of two lists by a list of what is found is what the definitions make of them.
use Rattle.std.proofs.Common.{◌≡◌, ℕ, Bool, List, [], ◌∷◌, ◌++◌, Option, None, get_or, is_some, map, not, refl, ap}
use Rattle.std.specs.List.{enumerate_from}
use Rattle.std.specs.Option.{option_map_or}
use Rattle.wit_remap_spec.specs.Selected.{selected_with_index}
use Rattle.wit_merge_match.specs.steps.Matched.{AreFound, moves}
use Rattle.wit_merge_spec.specs.Matches.{counterpart_of}

-- without places
pub without_places : {X Y : Type 0} (f : X → Y) (es : List (ℕ × X)) → map (λ (e : ℕ × X). f e.1) es ≡ map f (map (λ (e : ℕ × X). e.1) es)
without_places f [] = refl
without_places {X} {Y} f (e ∷ es) = ap (λ (l : List Y). f e.1 ∷ l) (without_places f es)

module _ (found : ℕ → Option ℕ) (count : ℕ) (list : List (Option ℕ)) (known : AreFound found count list) where
  pub found_is : (λ (x : ℕ). get_or list x None) ≡ found
  found_is = λ j x. known.each x j

  pub moves_is : moves list ≡ (λ (x : ℕ). not (is_some (found x)))
  moves_is = λ j x. not (is_some (known.each x j))

  module _ {X : Type 0} (with_matched : ℕ × X → X → X) (image : ℕ × X → X) (others ours : List X) where
    abbrev made : (ℕ → Option ℕ) → (ℕ → Bool) → List X
    made look kept = map (λ (e : ℕ × X). option_map_or (λ (p : ℕ × X). with_matched p e.1) (counterpart_of look others e.0) e.1) (enumerate_from 0 ours) ++ map image (selected_with_index kept others)

    pub merged_is : made (λ (x : ℕ). get_or list x None) (moves list) ≡ made found (λ (x : ℕ). not (is_some (found x)))
    merged_is = λ j. made (found_is j) (moves_is j)
