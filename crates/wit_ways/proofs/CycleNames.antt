-- The name that the message of a cycle tells.
use Rattle.std.proofs.Common.{◌≡◌, ◌∙◌, ◌+◌, ◌-◌, ◌++◌, ℕ, List, Bor, Option, None, Some, ap, drop, length, sym, take}
use Rattle.std.specs.Prelude.{MatchOption}
use Rattle.std.specs.Str.Pattern.{FindsTextPrefix, FindsTextSuffix}
use Rattle.std.proofs.lemmas.List.{append_cancel_left, append_cancel_right}

-- what is left of a text without its front
pub front_is : (s front rest : List ℕ) → (k : ℕ) × FindsTextPrefix front s (Some k) × (rest ≡ drop k s) × (length rest + k ≡ length s) → s ≡ front ++ rest
front_is s front rest found = found.1.1 ∙ ap (λ (t : List ℕ). front ++ t) (sym found.2)

-- what stands before an end in what is left
pub named_before : (s front end rest : List ℕ) (r : Option (Bor (List ℕ))) → s ≡ front ++ rest
    → MatchOption r (FindsTextSuffix end rest None) (λ x. (k : ℕ) × FindsTextSuffix end rest (Some k) × (x.now ≡ take (length rest - k) rest) × (length x.now + k ≡ length rest))
    → MatchOption r ((name : List ℕ) → s ≡ front ++ (name ++ end) → ⊥) (λ x. s ≡ front ++ (x.now ++ end))
named_before s front end rest None is none = λ name whole. none name (append_cancel_left front rest (name ++ end) (sym is ∙ whole))
named_before s front end rest (Some x) is found = is ∙ ap (λ (t : List ℕ). front ++ t) (found.1.1 ∙ ap (λ (t : List ℕ). t ++ end) (sym found.2))

-- between two ends stands one name
pub one_name : (front end a b : List ℕ) → front ++ (a ++ end) ≡ front ++ (b ++ end) → a ≡ b
one_name front end a b same = append_cancel_right a b end (append_cancel_left front (a ++ end) (b ++ end) same)
