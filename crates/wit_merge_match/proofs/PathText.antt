-- The text of a path, step by step.
use Rattle.std.proofs.Common.{◌≡◌, ◌∙◌, ℕ, ◌<◌, ◌+◌, zero, suc, List, [], ◌∷◌, ◌++◌, length, map, take, codes, Some, slice_get, refl, sym, ap, arith, append_assoc}
use Rattle.std.proofs.lemmas.List.{append-nil, length-map, map-append, take_all}
use Rattle.wit_values.specs.facts.Lists.{take-next_at}
use Rattle.wit_merge_match.specs.steps.ComparisonSteps.{frame_step, path_of}
use Rattle.wit_merge_spec.specs.Structure.{dotted, path_text}
use Rattle.wit_merge_match.specs.declared.comparison.Sides.{Sides}
use Rattle.wit_merge_match.specs.declared.frames.Frame.{Frame}

-- one step more
dotted_push : (first : List ℕ) (steps : List (List ℕ)) (step : List ℕ) → dotted ((first ∷ steps) ++ step ∷ []) ≡ dotted (first ∷ steps) ++ (codes "." ++ step)
dotted_push first [] step = refl
dotted_push first (next ∷ steps) step =
    ap (λ (l : List ℕ). first ++ (codes "." ++ l)) (dotted_push next steps step)
    ∙ (ap (λ (l : List ℕ). first ++ l) (sym (append_assoc (codes ".") (dotted (next ∷ steps)) (codes "." ++ step))) ∙ sym (append_assoc first (codes "." ++ dotted (next ∷ steps)) (codes "." ++ step)))

dotted_more : (steps : List (List ℕ)) (step : List ℕ) → 0 < length steps → dotted (steps ++ step ∷ []) ≡ dotted steps ++ (codes "." ++ step)
dotted_more [] step some = absurd (omega (arith, some))
dotted_more (first ∷ steps) step some = dotted_push first steps step

selected_long : {X : Type 0} (xs : List X) (i : ℕ) (x : X) → slice_get xs i ≡ Some x → length (take i xs) ≡ i
selected_long [] i x at = cc
selected_long (z ∷ zs) zero x at = refl
selected_long (z ∷ zs) (suc i) x at = ap suc (selected_long zs i x at)

module _ (s : Sides) (stack : List Frame) (i : ℕ) (f : Frame) (at : slice_get stack i ≡ Some f) where
  path_next : path_of s (take (i + 1) stack) ≡ path_of s (take i stack) ++ frame_step s f ∷ []
  path_next = ap (path_of s) (take-next_at stack i f at) ∙ map-append (frame_step s) (take i stack) (f ∷ [])

  -- the first step
  pub first_step : (i ≡ 0) → dotted (path_of s (take (i + 1) stack)) ≡ dotted (path_of s (take i stack)) ++ frame_step s f
  first_step none =
      let nothing : take i stack ≡ [] = ap (λ (n : ℕ). take n stack) none in
      ap dotted path_next ∙ (ap (λ (l : List Frame). dotted (path_of s l ++ frame_step s f ∷ [])) nothing ∙ ap (λ (l : List Frame). dotted (path_of s l) ++ frame_step s f) (sym nothing))

  -- a step behind others
  pub step_behind : 0 < i → dotted (path_of s (take (i + 1) stack)) ≡ dotted (path_of s (take i stack)) ++ (codes "." ++ frame_step s f)
  step_behind some =
      ap dotted path_next ∙ dotted_more (path_of s (take i stack)) (frame_step s f) (omega (arith, some, selected_long stack i f at, length-map (take i stack) (frame_step s)))

module _ (s : Sides) (stack : List Frame) (i : ℕ) (f : Frame) (at : slice_get stack i ≡ Some f) (old mid new : List ℕ) where
  -- the text with one step more
  pub told_first : old ≡ codes "at " ++ dotted (path_of s (take i stack)) → mid ≡ old → new ≡ mid ++ frame_step s f → i ≡ 0 → new ≡ codes "at " ++ dotted (path_of s (take (i + 1) stack))
  told_first so same more none =
      more
      ∙ (ap (λ (l : List ℕ). l ++ frame_step s f) (same ∙ so)
      ∙ (append_assoc (codes "at ") (dotted (path_of s (take i stack))) (frame_step s f) ∙ ap (λ (l : List ℕ). codes "at " ++ l) (sym (first_step s stack i f at none))))

  pub told_behind : old ≡ codes "at " ++ dotted (path_of s (take i stack)) → mid ≡ old ++ codes "." → new ≡ mid ++ frame_step s f → 0 < i → new ≡ codes "at " ++ dotted (path_of s (take (i + 1) stack))
  told_behind so point more some =
      more
      ∙ (ap (λ (l : List ℕ). l ++ frame_step s f) (point ∙ ap (λ (l : List ℕ). l ++ codes ".") so)
      ∙ (append_assoc (codes "at " ++ dotted (path_of s (take i stack))) (codes ".") (frame_step s f)
      ∙ (append_assoc (codes "at ") (dotted (path_of s (take i stack))) (codes "." ++ frame_step s f) ∙ ap (λ (l : List ℕ). codes "at " ++ l) (sym (step_behind s stack i f at some)))))

-- the whole of a path that isn't empty
pub path_whole : (steps : List (List ℕ)) → 0 < length steps → path_text steps ≡ codes "at " ++ (dotted steps ++ codes ": ")
path_whole [] some = absurd (omega (arith, some))
path_whole (step ∷ steps) some = refl
