-- The file of a position, among files that stand one after another: the last that begins up to it, or none.
use Rattle.std.proofs.Common.{◌≡◌, ◌∙◌, ℕ, zero, suc, Bool, ◌-◌, ◌<◌, ◌≤◌, List, [], ◌∷◌, length, length-take, take, get_or, find, cond, Option, Some, None, slice_get, option_and_then, false, true, refl, ap, sym, if◌then◌else◌, arith}
use Rattle.std.specs.List.Sorted.{IsNonDecreasingBy}
use Rattle.std.proofs.lemmas.Bool.{and_left, and_right, cond-false, lt-leb}
use Rattle.wit_sources.specs.declared.source_map.SourceFile.{SourceFile}
use Rattle.wit_sources.specs.Locations.{has_position}
use Rattle.wit_sources.specs.SourceMap.{AreLaidOut, end_after}
use Rattle.wit_sources.specs.steps.Locations.{if_it_has}

-- each file begins where they begin, or later
starts_from : (from end : ℕ) (files : List SourceFile) (j : ℕ) (d : SourceFile) → AreLaidOut from files end → j < length files → from ≤ (get_or files j d).start
starts_from from end [] j d laid within = absurd (omega arith)
starts_from from end (file ∷ files) zero d laid within = laid.0
starts_from from end (file ∷ files) (suc j) d laid within =
    let later : end_after file.start file.contents ≤ (get_or files j d).start = starts_from (end_after file.start file.contents) end files j d laid.1 (omega arith) in
    omega (arith, later, laid.0)

pub starts_rise : (from end : ℕ) (files : List SourceFile) → AreLaidOut from files end → IsNonDecreasingBy (λ (file : SourceFile). file.start) files
starts_rise from end [] laid = λ i j d before within. absurd (omega arith)
starts_rise from end (file ∷ files) laid = rise (starts_rise (end_after file.start file.contents) end files laid.1)
  where
    rise : IsNonDecreasingBy (λ (file : SourceFile). file.start) files → (i j : ℕ) (d : SourceFile) → i ≤ j → j < length (file ∷ files) → (get_or (file ∷ files) i d).start ≤ (get_or (file ∷ files) j d).start
    rise rest zero zero d before within = omega arith
    rise rest zero (suc j) d before within =
        let later : end_after file.start file.contents ≤ (get_or files j d).start = starts_from (end_after file.start file.contents) end files j d laid.1 (omega arith) in
        omega (arith, later)
    rise rest (suc i) zero d before within = absurd (omega arith)
    rise rest (suc i) (suc j) d before within = rest i j d (omega arith) (omega arith)

-- files that begin after a position don't have it
none_after : (position from end : ℕ) (files : List SourceFile) → AreLaidOut from files end → position < from → find (has_position position) files ≡ None
none_after position from end [] laid after = refl
none_after position from end (file ∷ files) laid after =
    let here : has_position position file ≡ false = and_left _ _ (lt-leb file.start position (omega (arith, laid.0))) in
    cond-false (has_position position file) (Some file) (find (has_position position) files) here
    ∙ none_after position (end_after file.start file.contents) end files laid.1 (omega (arith, laid.0))

-- what stands in the beginning of a list stands there in the list
slice_get-take : {X : Type 0} (k n : ℕ) (xs : List X) → k < n → slice_get (take n xs) k ≡ slice_get xs k
slice_get-take k zero xs below = absurd (omega arith)
slice_get-take k (suc n) [] below = refl
slice_get-take zero (suc n) (x ∷ xs) below = refl
slice_get-take (suc k) (suc n) (x ∷ xs) below = slice_get-take k n xs (omega arith)

-- the last of the first so many files
abbrev pub last_of : ℕ → List SourceFile → Option SourceFile
last_of zero files = None
last_of (suc k) files = slice_get files k

pub last_taken : (n : ℕ) (files : List SourceFile) → n ≤ length files → slice_get (take n files) (length (take n files) - 1) ≡ last_of n files
last_taken zero files within = refl
last_taken (suc k) files within =
    let len : length (take (suc k) files) - 1 ≡ k = omega (arith, length-take (suc k) files) in
    ap (slice_get (take (suc k) files)) len ∙ slice_get-take k (suc k) files (omega arith)

-- where the first n files begin up to a position, and the others after it
pub found_last : (position from end : ℕ) (files : List SourceFile) (n : ℕ) → AreLaidOut from files end → n ≤ length files
    → ((k : ℕ) (d : SourceFile) → k < n → (get_or files k d).start ≤ position) → ((k : ℕ) (d : SourceFile) → n ≤ k → k < length files → position < (get_or files k d).start)
    → find (has_position position) files ≡ option_and_then (if_it_has position) (last_of n files)
found_last position from end [] zero laid within before after = refl
found_last position from end [] (suc n) laid within before after = absurd (omega arith)
found_last position from end (file ∷ files) zero laid within before after =
    none_after position file.start end (file ∷ files) (omega arith, laid.1) (after 0 file (omega arith) (omega arith))
found_last position from end (file ∷ files) (suc zero) laid within before after =
    ap (λ (o : Option SourceFile). cond (has_position position file) (Some file) o)
    (found_last position (end_after file.start file.contents) end files zero laid.1 (omega arith) (λ k d h. absurd (omega arith)) (λ k d h below. after (suc k) d (omega arith) (omega arith)))
found_last position from end (file ∷ files) (suc (suc n)) laid within before after =
    let next : end_after file.start file.contents ≤ (get_or files 0 file).start = starts_from (end_after file.start file.contents) end files 0 file laid.1 (omega arith) in
    let second : (get_or files 0 file).start ≤ position = before 1 file (omega arith) in
    let here : has_position position file ≡ false = and_right _ _ (lt-leb position _ (omega (arith, next, second))) in
    cond-false (has_position position file) (Some file) (find (has_position position) files) here
    ∙ found_last position (end_after file.start file.contents) end files (suc n) laid.1 (omega arith) (λ k d h. before (suc k) d (omega arith)) (λ k d h below. after (suc k) d (omega arith) (omega arith))

-- the file is there, or not, as a test says
pub it_has : (position : ℕ) (file : SourceFile) (b : Bool) → b ≡ has_position position file → b ≡ true → if_it_has position file ≡ Some file
it_has position file b is on = ap (λ c. if c then Some file else None) (sym is ∙ on)

pub it_lacks : (position : ℕ) (file : SourceFile) (b : Bool) → b ≡ has_position position file → b ≡ false → if_it_has position file ≡ None
it_lacks position file b is off = ap (λ c. if c then Some file else None) (sym is ∙ off)
