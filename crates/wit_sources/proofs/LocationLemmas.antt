-- The file of a span, and numbers in four places.
use Rattle.std.proofs.Common.{◌≡◌, ◌∙◌, ℕ, zero, suc, ◌-◌, ◌^◌, List, [], ◌∷◌, ◌++◌, length, replicate, Option, Some, None, ap, refl, arith}
use Rattle.std.specs.Prelude.{IsSome, decimal, encode_utf8, find}
use Rattle.std.specs.Fmt.{char_count, format_spec, padded_integral, styled_decimal}
use Rattle.std.specs.List.{repeat}
use lib.Utf8.{encode}
use Rattle.std.proofs.lemmas.Bool.{false≢true}
use Rattle.std.proofs.lemmas.List.{append-nil}
use Rattle.wit_sources.specs.declared.source_map.SourceFile.{SourceFile}
use Rattle.wit_sources.specs.Locations.{file_at, has_position}
use Rattle.wit_sources.specs.Shown.{in_four}
use Rattle.wit_sources.specs.Span.{start_of}

-- the file of a known span is the first one that has its beginning
pub file_of_known : (files : List SourceFile) (span : Option (ℕ × ℕ)) (position : ℕ) → IsSome span → position ≡ start_of span → find (has_position position) files ≡ file_at files span
file_of_known files None position known is = absurd (false≢true known)
file_of_known files (Some range) position known is = ap (λ n. find (has_position n) files) is

spaces_of : (n : ℕ) → repeat n (encode_utf8 32) ≡ replicate n 32
unfolding encode
spaces_of zero = refl
spaces_of (suc n) = ap (λ xs. 32 ∷ xs) (spaces_of n)

-- a number that is filled up with spaces to a width of four
pub filled_to_four : (n : ℕ) → styled_decimal (format_spec 32 0 0 4 (2 ^ 64 - 1)) n ≡ in_four n
unfolding padded_integral char_count
filled_to_four n =
    let len = length (decimal n) in
    let pad = 4 - len - 0 - 0 in
    let number = decimal n in
    let width : pad ≡ 4 - len = omega arith in
    let none : pad - pad ≡ 0 = omega arith in
    let left : repeat pad (encode_utf8 32) ≡ replicate (4 - len) 32 = spaces_of pad ∙ ap (λ k. replicate k 32) width in
    let right : repeat (pad - pad) (encode_utf8 32) ≡ [] = ap (λ k. repeat k (encode_utf8 32)) none in
    ap (λ xs. (((xs ++ []) ++ []) ++ []) ++ (number ++ repeat (pad - pad) (encode_utf8 32))) left
    ∙ ap (λ xs. (((replicate (4 - len) 32 ++ []) ++ []) ++ []) ++ (number ++ xs)) right
    ∙ simp append-nil
