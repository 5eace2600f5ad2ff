-- Words at the front and at the end of a text.
use Rattle.std.proofs.Common.{◌≡◌, ℕ, ◌+◌, ◌-◌, List, Bor, Option, None, Some, true, false, if◌then◌else◌, length, take, drop, nat_eq, codes, sym, subst, refl, ◌≤◌, arith}
use Rattle.std.proofs.lemmas.Str.Pattern.{ends_text, starts_text}
use Rattle.std.specs.List.{ends_with, starts_with}
use Rattle.std.specs.Prelude.{MatchOption, option_copied, IsCharBoundary}
use Rattle.std.specs.Str.Pattern.{FindsTextPrefix, FindsTextSuffix}
use Rattle.wit_script_lines.specs.Token.{after_prefix}

-- what a word at the front of a text leaves
pub stripped_front : (n s : List ℕ) (r : Option (Bor (List ℕ)))
    → MatchOption r (FindsTextPrefix n s None) (λ x. (k : ℕ) × FindsTextPrefix n s (Some k) × (x.now ≡ drop k s) × (length x.now + k ≡ length s))
    → option_copied r ≡ after_prefix n s
stripped_front n s None h = rw (← starts_text false n s h) refl
stripped_front n s (Some x) h =
    let yes : true ≡ starts_with nat_eq s n = starts_text true n s (h.0, h.1, subst (IsCharBoundary s) (sym h.1.0) h.1.2) in
    rw (← yes, h.2, h.1.0) refl

-- what stands before a `>` at the end of a text
abbrev before_end : List ℕ → Option (List ℕ)
before_end text = if ends_with nat_eq text (codes ">") then Some (take (length text - 1) text) else None

-- what a `>` at the end of a text leaves
pub stripped_end : (s : List ℕ) (r : Option (Bor (List ℕ)))
    → MatchOption r (FindsTextSuffix (codes ">") s None) (λ x. (k : ℕ) × FindsTextSuffix (codes ">") s (Some k) × (x.now ≡ take (length s - k) s) × (length x.now + k ≡ length s))
    → option_copied r ≡ before_end s
stripped_end s None h = rw (← ends_text false (codes ">") s h) refl
stripped_end s (Some x) h =
    let within : h.0 ≤ length s = omega (arith, h.3) in
    let yes : true ≡ ends_with nat_eq s (codes ">") = ends_text true (codes ">") s (h.0, h.1, within, subst (λ k. IsCharBoundary s (length s - k)) (sym h.1.0) h.1.2) in
    rw (← yes, h.2, h.1.0) refl
