-- Where lines begin and end.
use Rattle.std.proofs.Common.{◌≡◌, ◌∙◌, ◌==◌, ℕ, ◌+◌, ◌-◌, ◌<◌, ◌≤◌, List, ◌++◌, length, get_or, take, drop, true, false, not, sym, ap, subst, take-add, arith}
use Rattle.std.specs.List.{position_or_len, suffix_len}
use Rattle.std.specs.Str.{IsCharBoundary, IsUtf8}
use Rattle.std.proofs.lemmas.List.{drop-drop, drop-take, get_or-take, length-take}
use Rattle.std.proofs.lemmas.List.Sums.{position_or_len_is, suffix_len_is}
use Rattle.std.proofs.lemmas.Str.{IsCharBoundary-after_ascii}
use Rattle.wit_sources.specs.Lines.{is_line_feed, line_before, line_text}

-- the last line begins at n: no line feed from n on, and one before it
pub last_line_is : (bytes : List ℕ) (n : ℕ) → n ≤ length bytes → ((k : ℕ) → n ≤ k → k < length bytes → not (get_or bytes k 0 == 10) ≡ true)
    → (0 < n → not (get_or bytes (n - 1) 0 == 10) ≡ false) → n ≡ length bytes - suffix_len (λ b. not (is_line_feed b)) bytes
last_line_is bytes n within line begins =
    let told = suffix_len_is (λ b. not (is_line_feed b)) bytes n 0 within line begins in rw told (omega arith)

-- the first line ends at n: no line feed before n, and one there
pub first_line_is : (bytes : List ℕ) (n : ℕ) → n ≤ length bytes → ((k : ℕ) → k < n → (get_or bytes k 0 == 10) ≡ false)
    → (n < length bytes → (get_or bytes n 0 == 10) ≡ true) → n ≡ position_or_len is_line_feed bytes
first_line_is bytes n within line ends = sym (position_or_len_is is_line_feed bytes n 0 within line ends)

-- a text may be cut after a line feed, and at its beginning
pub boundary_after_feed : (text : List ℕ) (start : ℕ) → IsUtf8 text → 0 < start → start ≤ length text → get_or text (start - 1) 0 ≡ 10 → IsCharBoundary text start
boundary_after_feed text start utf8 more within feed =
    let last : start - 1 + 1 ≡ start = omega arith in
    subst (λ n. IsCharBoundary text n) last (IsCharBoundary-after_ascii text (start - 1) utf8 (omega arith) (omega (arith, feed)))

-- from a place before a position to one after it
pub cut_around : (text : List ℕ) (position start stop : ℕ) → start ≤ position → take (position + stop - start) (drop start text) ≡ drop start (take position text) ++ take stop (drop position text)
cut_around text position start stop before =
    let whole : start + (position - start) ≡ position = omega arith in
    let width : position + stop - start ≡ (position - start) + stop = omega arith in
    let first : take (position - start) (drop start text) ≡ drop start (take position text) =
    subst (λ n. take (position - start) (drop start text) ≡ drop start (take n text)) whole (sym (drop-take start (position - start) text)) in
    let second : drop (position - start) (drop start text) ≡ drop position text = drop-drop (position - start) start text ∙ ap (λ n. drop n text) whole in
    ap (λ n. take n (drop start text)) width ∙ take-add (position - start) stop (drop start text)
    ∙ ap (λ xs. xs ++ take stop (drop (position - start) (drop start text))) first ∙ ap (λ xs. drop start (take position text) ++ take stop xs) second

-- what stands before a position is no longer than the position is far
before_within : (text : List ℕ) (position : ℕ) → length (take position text) ≤ position
before_within text position = rw (length-take position text) (omega arith)

-- the text may be cut where the line of a position begins
pub line_begins_whole : (text before : List ℕ) (position start : ℕ) → IsUtf8 text → before ≡ take position text → position ≤ length text → start ≤ length before → 0 < start
    → get_or before (start - 1) 0 ≡ 10 → IsCharBoundary text start
line_begins_whole text before position start utf8 same within upto more feed =
    let near : start ≤ position = omega (arith, ap length same, before_within text position) in
    let there : start - 1 < position = omega arith in
    boundary_after_feed text start utf8 more (omega arith) (sym (get_or-take position text (start - 1) 0 there) ∙ ap (λ xs. get_or xs (start - 1) 0) (sym same) ∙ feed)

-- the line of a position, between where it begins and where it ends
pub line_is : (text before after : List ℕ) (position start stop : ℕ) → before ≡ take position text → after ≡ drop position text
    → start ≡ length before - suffix_len (λ b. not (is_line_feed b)) before → stop ≡ position_or_len is_line_feed after
    → take (position + stop - start) (drop start text) ≡ line_text text position
line_is text before after position start stop same rest begins ends =
    let near : start ≤ position = omega (arith, ap length same, before_within text position) in
    cut_around text position start stop near
    ∙ ap (λ xs. drop start xs ++ take stop (drop position text)) (sym same) ∙ ap (λ n. drop n before ++ take stop (drop position text)) begins
    ∙ ap (λ xs. drop (length before - suffix_len (λ b. not (is_line_feed b)) before) before ++ take stop xs) (sym rest)
    ∙ ap (λ n. drop (length before - suffix_len (λ b. not (is_line_feed b)) before) before ++ take n after) ends
    ∙ ap (λ xs. drop (length xs - suffix_len (λ b. not (is_line_feed b)) xs) xs ++ take (position_or_len is_line_feed after) after) same
    ∙ ap (λ xs. line_before text position ++ take (position_or_len is_line_feed xs) xs) rest
