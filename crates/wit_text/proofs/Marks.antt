-- A byte order mark at the front of a text.
use Rattle.std.proofs.Common.{◌≡◌, ◌∙◌, ◌+◌, ℕ, List, Bor, Option, None, Some, true, false, cond, length, drop, nat_eq, sym, ap, subst}
use Rattle.std.proofs.lemmas.Str.Pattern.{starts_text}
use Rattle.std.specs.List.{starts_with}
use Rattle.std.specs.Option.{unwrap_or}
use Rattle.std.specs.Prelude.{IsCharBoundary, MatchOption}
use Rattle.std.specs.Str.Pattern.{FindsTextPrefix}
use Rattle.wit_text.specs.Tokens.{after_mark, mark}

-- what is left behind the mark, and all of a text that has none
pub stripped_mark : (s : List ℕ) (text : Bor (List ℕ)) (r : Option (Bor (List ℕ))) → text.now ≡ s
    → MatchOption r (FindsTextPrefix mark s None) (λ x. (k : ℕ) × FindsTextPrefix mark s (Some k) × (x.now ≡ drop k s) × (length x.now + k ≡ length s))
    → (unwrap_or r text).now ≡ after_mark s
stripped_mark s text None same h =
    let no : false ≡ starts_with nat_eq s mark = starts_text false mark s h in
    same ∙ ap (λ v. cond v (drop 3 s) s) no
stripped_mark s text (Some x) same h =
    let yes : true ≡ starts_with nat_eq s mark = starts_text true mark s (h.0, h.1, subst (λ k. IsCharBoundary s k) (sym h.1.0) h.1.2) in
    h.2 ∙ ap (λ k. drop k s) h.1.0 ∙ ap (λ v. cond v (drop 3 s) s) yes

pub none_from : {X : Type 0} (o : Option X) → ((x : X) → o ≡ Some x → ⊥) → o ≡ None
none_from None not = λ i. None
none_from (Some x) not = absurd (not x (λ i. Some x))
