-- Marks of a text, one after another.
use Rattle.std.proofs.Common.{◌≡◌, ◌∙◌, ℕ, zero, suc, ◌+◌, ◌-◌, ◌*◌, ◌≤◌, List, [], ◌∷◌, ◌++◌, length, take, drop, cond, Some, slice_get, count_by, is_some, unwrap_or, sym, ap, length-take, take-add, arith}
use Rattle.std.proofs.lemmas.Bool.{false≢true}
use Rattle.std.proofs.lemmas.List.Sums.{count_by-le-length, sum_by-append}
use Rattle.wit_sources.specs.Lines.{is_line_feed}
use Rattle.wit_sources.specs.steps.Marks.{AreMarks, feeds_before}

-- no more line feeds than bytes
pub feeds_within : (text : List ℕ) (position : ℕ) → feeds_before text position ≤ position
feeds_within text position =
    let short : length (take position text) ≤ position = rw (length-take position text) (omega arith) in
    omega (arith, count_by-le-length is_line_feed (take position text), short)

-- those before a position are those before an earlier one and those between both
pub feeds_more : (text : List ℕ) (from to : ℕ) → from ≤ to → feeds_before text to ≡ feeds_before text from + count_by is_line_feed (take (to - from) (drop from text))
feeds_more text from to before =
    let whole : from + (to - from) ≡ to = omega arith in
    ap (λ n. count_by is_line_feed (take n text)) (sym whole) ∙ ap (count_by is_line_feed) (take-add from (to - from) text)
    ∙ sum_by-append (λ b. cond (is_line_feed b) 1 0) (take from text) (take (to - from) (drop from text))

-- one more mark
pub AreMarks-push : (text : List ℕ) (from : ℕ) (marks : List ℕ) (mark : ℕ) → AreMarks text from marks → mark ≡ feeds_before text (from + length marks * 128 + 128) → AreMarks text from (marks ++ mark ∷ [])
AreMarks-push text from [] mark are is =
    let same : from + length {A = ℕ} [] * 128 + 128 ≡ from + 128 = omega arith in
    (is ∙ ap (feeds_before text) same, tt)
AreMarks-push text from (first ∷ marks) mark are is =
    let same : from + length (first ∷ marks) * 128 + 128 ≡ from + 128 + length marks * 128 + 128 = omega arith in
    (are.0, AreMarks-push text (from + 128) marks mark are.1 (is ∙ ap (feeds_before text) same))

-- each mark tells of where it stands
pub mark_at : (text : List ℕ) (from : ℕ) (marks : List ℕ) (k : ℕ) (mark : ℕ) → AreMarks text from marks → slice_get marks k ≡ Some mark → mark ≡ feeds_before text (from + (k + 1) * 128)
mark_at text from [] k mark are at = absurd (false≢true (ap is_some at))
mark_at text from (first ∷ marks) zero mark are at = sym (ap (λ o. unwrap_or o first) at) ∙ are.0
mark_at text from (first ∷ marks) (suc k) mark are at =
    let same : from + 128 + (k + 1) * 128 ≡ from + (suc k + 1) * 128 = omega arith in
    mark_at text (from + 128) marks k mark are.1 at ∙ ap (feeds_before text) same
