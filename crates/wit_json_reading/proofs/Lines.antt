-- Lines and columns one byte further.
use Rattle.std.proofs.Common.{◌≡◌, ◌∙◌, ◌==◌, ◌<◌, ◌≤◌, ◌+◌, ◌-◌, ℕ, Bool, true, false, not, List, [], ◌∷◌, ◌++◌, length, get_or, take, drop, ap, cond, length-take-le, arith}
use Rattle.std.specs.Fmt.{is_char_start}
use Rattle.std.specs.List.{count_by, suffix_len}
use Rattle.std.proofs.lemmas.List.{drop_all, drop-append-le, take_more}
use Rattle.std.proofs.lemmas.List.Sums.{count_by_more_yes, count_by_more_no, sum_by_push, suffix_len-take_yes, suffix_len-take_no, suffix_len-le-length}
use Rattle.wit_sources.specs.Lines.{column, is_line_feed, line_before, line_number}

pub next_line : (text : List ℕ) (i : ℕ) → i < length text → (get_or text i 0 == 10) ≡ true → line_number text (i + 1) ≡ line_number text i + 1
next_line text i small feed = ap (λ n. n + 1) (count_by_more_yes is_line_feed text i 0 small feed)

pub same_line : (text : List ℕ) (i : ℕ) → i < length text → (get_or text i 0 == 10) ≡ false → line_number text (i + 1) ≡ line_number text i
same_line text i small other = ap (λ n. n + 1) (count_by_more_no is_line_feed text i 0 small other)

-- the number of the last byte of one more
last_is : (i : ℕ) → i + 1 - 1 ≡ i
last_is i = omega arith

-- a line that has just begun has nothing before it
pub first_column : (text : List ℕ) (i : ℕ) → i < length text → (get_or text i 0 == 10) ≡ true → column text (i + 1) ≡ 1
first_column text i small feed =
    let more : List ℕ = take (i + 1) text in
    let none : suffix_len (λ b. not (is_line_feed b)) more ≡ 0 =
    suffix_len-take_no (λ b. not (is_line_feed b)) text (i + 1) 0 (omega arith) (omega (arith, small))
    (ap (λ (n : ℕ). not (is_line_feed (get_or text n 0))) (last_is i) ∙ ap not feed) in
    let all : length more ≤ length more - suffix_len (λ b. not (is_line_feed b)) more = omega (arith, none) in
    ap (λ (xs : List ℕ). count_by is_char_start xs + 1) (drop_all (length more - suffix_len (λ b. not (is_line_feed b)) more) more all)

-- one more byte of the line
longer_line : (text : List ℕ) (i : ℕ) → i < length text → (get_or text i 0 == 10) ≡ false → line_before text (i + 1) ≡ line_before text i ++ get_or text i 0 ∷ []
longer_line text i small other =
    let less : List ℕ = take i text in
    let more : List ℕ = take (i + 1) text in
    let kept : ℕ = suffix_len (λ b. not (is_line_feed b)) less in
    let begins : suffix_len (λ b. not (is_line_feed b)) more ≡ 1 + kept =
    suffix_len-take_yes (λ b. not (is_line_feed b)) text (i + 1) 0 (omega arith) (omega (arith, small))
    (ap (λ (n : ℕ). not (is_line_feed (get_or text n 0))) (last_is i) ∙ ap not other)
    ∙ ap (λ (n : ℕ). 1 + suffix_len (λ b. not (is_line_feed b)) (take n text)) (last_is i) in
    let long : length less ≡ i = length-take-le i text (omega (arith, small)) in
    let longer : length more ≡ i + 1 = length-take-le (i + 1) text (omega (arith, small)) in
    let few : kept ≤ length less = suffix_len-le-length (λ b. not (is_line_feed b)) less in
    let from : length more - suffix_len (λ b. not (is_line_feed b)) more ≡ length less - kept = omega (arith, begins, long, longer, few) in
    ap (λ (n : ℕ). drop n more) from ∙ ap (drop (length less - kept)) (take_more text i 0 small) ∙ drop-append-le (length less - kept) less (get_or text i 0 ∷ []) (omega (arith, few))

counted : (text : List ℕ) (i : ℕ) (starts : Bool) → i < length text → (get_or text i 0 == 10) ≡ false → is_char_start (get_or text i 0) ≡ starts
    → column text (i + 1) ≡ count_by is_char_start (line_before text i) + cond starts 1 0 + 1
counted text i starts small other is =
    ap (λ (xs : List ℕ). count_by is_char_start xs + 1) (longer_line text i small other)
    ∙ ap (λ (n : ℕ). n + 1) (sum_by_push (λ b. cond (is_char_start b) 1 0) (line_before text i) (get_or text i 0) ∙ ap (λ (b : Bool). count_by is_char_start (line_before text i) + cond b 1 0) is)

pub next_column : (text : List ℕ) (i : ℕ) → i < length text → (get_or text i 0 == 10) ≡ false → is_char_start (get_or text i 0) ≡ true → column text (i + 1) ≡ column text i + 1
next_column text i small other is = counted text i true small other is

pub same_column : (text : List ℕ) (i : ℕ) → i < length text → (get_or text i 0 == 10) ≡ false → is_char_start (get_or text i 0) ≡ false → column text (i + 1) ≡ column text i
same_column text i small other is = counted text i false small other is ∙ omega arith
