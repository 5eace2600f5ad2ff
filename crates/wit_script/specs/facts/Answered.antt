-- Texts one after another.
use Rattle.std.proofs.Common.{ℕ, List, [], ◌∷◌, ◌++◌, refl, sym, ap, ◌∙◌, subst, append_assoc}
use Rattle.std.proofs.lemmas.List.{append-nil}
use Rattle.wit_script.specs.Answer.{InTurn}

module _ {S X : Type 0} (Tells : S → X → List ℕ → S → Type 0) where
  -- one more text
  pub InTurn-more : (before between after : S) (xs : List X) (x : X) (text more : List ℕ) → InTurn Tells before xs text between → Tells between x more after
      → InTurn Tells before (xs ++ x ∷ []) (text ++ more) after
  InTurn-more before between after [] x text more all one =
      (after, more, [], subst (λ (s : S). Tells s x more after) all.1 one, (refl, refl), ap (λ (t : List ℕ). t ++ more) all.0 ∙ sym (append-nil more))
  InTurn-more before between after (first ∷ xs) x text more all one = (
    all.0,
    all.1,
    all.2 ++ more,
    all.3,
    InTurn-more all.0 between after xs x all.2 more all.4 one,
    ap (λ (t : List ℕ). t ++ more) all.5 ∙ append_assoc all.1 all.2 more,
  )
