-- Files that stand one after another have no position in common.
use Rattle.std.proofs.Common.{◌≡◌, ℕ, zero, suc, ◌+◌, ◌≤◌, ◌&&◌, Bool, true, false, List, [], ◌∷◌, length, slice_get, Some, refl, ap, arith}
use Rattle.std.proofs.lemmas.Bool.{leb-true, false≢true}
use Rattle.std.specs.Prelude.{nat_le}
use Rattle.wit_sources.specs.Locations.{has_position}
use Rattle.wit_sources.specs.SourceMap.{AreLaidOut, end_after}
use Rattle.wit_sources.specs.declared.source_map.SourceFile.{SourceFile}

both : (a b : Bool) → (a && b) ≡ true → (a ≡ true) × (b ≡ true)
both true b is = (refl, is)
both false b is = absurd (false≢true is)

-- a position of a file is between its first one and the end of its text
between : (position : ℕ) (file : SourceFile) → has_position position file ≡ true → (file.start ≤ position) × (position ≤ file.start + length file.contents)
between position file has =
    let parts = both (nat_le file.start position) (nat_le position (file.start + length file.contents)) has in
    (leb-true _ _ parts.0, leb-true _ _ parts.1)

-- no file begins before the first
starts_after : (from end i : ℕ) (files : List SourceFile) (a : SourceFile) → AreLaidOut from files end → slice_get files i ≡ Some a → from ≤ a.start
starts_after from end i [] a laid there = cc
starts_after from end zero (file ∷ files) a laid there = let same : file ≡ a = cc in omega (arith, laid.0, ap (λ (f : SourceFile). f.start) same)
starts_after from end (suc i) (file ∷ files) a laid there =
    let later = starts_after (end_after file.start file.contents) end i files a laid.1 there in omega (arith, laid.0, later)

-- a later file has none of the first one's
apart : (end position j : ℕ) (file : SourceFile) (files : List SourceFile) (a b : SourceFile) → AreLaidOut (end_after file.start file.contents) files end → file ≡ a → slice_get files j ≡ Some b
    → has_position position a ≡ true → has_position position b ≡ true → ⊥
apart end position j file files a b laid same there first second =
    let later = starts_after (end_after file.start file.contents) end j files b laid there in
    let here = between position a first in
    let beyond = between position b second in
    omega (arith, later, here.1, beyond.0, ap (λ (f : SourceFile). f.start + length f.contents) same)

pub one_file : (from end position i j : ℕ) (files : List SourceFile) (a b : SourceFile) → AreLaidOut from files end → slice_get files i ≡ Some a → slice_get files j ≡ Some b
    → has_position position a ≡ true → has_position position b ≡ true → i ≡ j
one_file from end position i j [] a b laid first second of_a of_b = cc
one_file from end position zero zero (file ∷ files) a b laid first second of_a of_b = refl
one_file from end position zero (suc j) (file ∷ files) a b laid first second of_a of_b =
    let same : file ≡ a = cc in absurd (apart end position j file files a b laid.1 same second of_a of_b)
one_file from end position (suc i) zero (file ∷ files) a b laid first second of_a of_b =
    let same : file ≡ b = cc in absurd (apart end position i file files b a laid.1 same first of_b of_a)
one_file from end position (suc i) (suc j) (file ∷ files) a b laid first second of_a of_b =
    ap (λ n. suc n) (one_file (end_after file.start file.contents) end position i j files a b laid.1 first second of_a of_b)
