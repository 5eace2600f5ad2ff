-- Texts without a mark.
use Rattle.std.proofs.Common.{◌≡◌, ◌+◌, ◌==◌, ℕ, Bool, true, false, cond, not, ◌||◌, List, [], ◌∷◌, length, Some, None, Ok, refl, ap, arith, if◌then◌else◌, suc, Option, Result, Err}
use Rattle.std.specs.List.{after_first, before_first, list_any, position_or_len, prefix_len}
use Rattle.json.specs.Json as json
use Rattle.semver.specs.Parse.{version_parts}
use Rattle.wit_json_reading.specs.Packages.{name_in, read_package_name, version_behind}
use Rattle.wit_json_reading.specs.Reading.{◌>>=◌, instead_of, Reading}
use Rattle.wit_json_reading.specs.Values.{version_in}
use Rattle.wit_json_reading.specs.declared.fault.Expected.TheVariants as expected

-- where none is found, none passes
none_passes : (p : ℕ → Bool) (xs : List ℕ) → position_or_len p xs ≡ length xs → list_any p xs ≡ false
none_passes p [] none = refl
none_passes p (x ∷ xs) none = by (p x) none (λ rest. none_passes p xs rest)
  where
    by : (b : Bool) → cond (not b) (1 + position_or_len p xs) 0 ≡ length (x ∷ xs) → (position_or_len p xs ≡ length xs → list_any p xs ≡ false)
        → (b || list_any p xs) ≡ false
    by true h others = absurd (omega (arith, h))
    by false h others = others (omega (arith, h))

pub no_version : (text : List ℕ) → position_or_len (λ b. b == 64) text ≡ length text → version_behind text ≡ Ok None
no_version text none =
    ap (λ (b : Bool). if b then (version_in (version_parts (after_first (λ b. b == 64) text)) >>= λ version. Ok (Some version)) else Ok None) (none_passes (λ b. b == 64) text none)

pub no_namespace : (text : List ℕ) → position_or_len (λ b. b == 58) text ≡ length text → read_package_name (json.string text) ≡ instead_of expected.PackageName
unfolding read_package_name
no_namespace text none =
    ap (λ (b : Bool). if b then name_in (before_first (λ b. b == 58) text) (after_first (λ b. b == 58) text) else instead_of expected.PackageName) (none_passes (λ b. b == 58) text none)
