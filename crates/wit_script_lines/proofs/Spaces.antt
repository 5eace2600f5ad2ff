-- Where the first and the last byte of a line that isn't a space stand.
use Rattle.std.proofs.Common.{◌≡◌, ◌==◌, ℕ, ◌-◌, ◌<◌, ◌≤◌, List, length, get_or, true, false, sym, arith}
use Rattle.std.proofs.lemmas.List.Sums.{prefix_len_is, suffix_len_is}
use Rattle.wit_script_lines.specs.Line.{content_start_of}
use Rattle.wit_script_lines.specs.steps.Parts.{trimmed_len_of}

-- spaces up to n, and no space there
pub leading_spaces_is : (bytes line : List ℕ) (n : ℕ) → bytes ≡ line → n ≤ length bytes → ((k : ℕ) → k < n → (get_or bytes k 0 == 32) ≡ true)
    → (n < length bytes → (get_or bytes n 0 == 32) ≡ false) → n ≡ content_start_of line
leading_spaces_is bytes line n same within spaces ends = rw (← same) (sym (prefix_len_is (λ b. b == 32) bytes n 0 within spaces ends))

-- spaces from n on, and none before
pub trimmed_len_is : (bytes line : List ℕ) (n : ℕ) → bytes ≡ line → n ≤ length bytes → ((k : ℕ) → n ≤ k → k < length bytes → (get_or bytes k 0 == 32) ≡ true)
    → (0 < n → (get_or bytes (n - 1) 0 == 32) ≡ false) → n ≡ trimmed_len_of line
trimmed_len_is bytes line n same within spaces ends =
    let told = suffix_len_is (λ b. b == 32) bytes n 0 within spaces ends in rw (← same) (rw told (omega arith))
