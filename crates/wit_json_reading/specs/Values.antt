-- Small values, and what they read as.
use Rattle.std.specs.Prelude.{ℕ, ◌+◌, ◌-◌, ◌*◌, ◌^◌, Bool, List, [], ◌∷◌, Option, Some, None, Result, Ok, Err, if◌then◌else◌, nat_lt, option_and_then, ◌≡◌}
use Rattle.std.specs.Option.{option_map_or}
use Rattle.std.specs.Char.{is_ascii_digit}
use Rattle.json.specs.Json.{Json}
use Rattle.json.specs.Json as json
use Rattle.semver.specs.Parse.{version_parts}
use Rattle.semver.specs.declared.error.Error.{Error}
use Rattle.wit_values.specs.Version.{Parts}
use Rattle.wit_json_reading.specs.Reading.{Reading, ◌>>=◌, instead_of}
use Rattle.wit_json_reading.specs.declared.fault.Expected.TheVariants as expected

abbrev pub read_text : Json → Reading (List ℕ)
read_text (json.string text) = Ok text
read_text _ = instead_of expected.Text

-- `true` or `false`
abbrev pub read_boolean : Json → Reading Bool
read_boolean (json.boolean b) = Ok b
read_boolean _ = instead_of expected.Boolean

-- ---- versions

-- what the `semver` crate reads, where it reads a version
abbrev pub version_in : Result Parts Error → Reading Parts
version_in (Ok version) = Ok version
version_in (Err e) = instead_of expected.Version

unfoldable pub read_version : Json → Reading Parts
read_version j = do
  text ← read_text j
  version_in (version_parts text)

-- ---- numbers

-- the number that digits write behind those of n
abbrev pub decimal_after : ℕ → List ℕ → Option ℕ
decimal_after n [] = Some n
decimal_after n (c ∷ cs) = if is_ascii_digit c then decimal_after (n * 10 + (c - 48)) cs else None

-- the number that a text of digits alone writes, where it has 64 bits
unfoldable pub decimal_of : List ℕ → Option ℕ
decimal_of text =
    option_and_then (λ n. if nat_lt n (2 ^ 64) then Some n else None) (decimal_after 0 text)

abbrev pub read_number : Json → Reading ℕ
read_number (json.number text) =
    option_map_or (λ n. Ok n) (decimal_of text) (instead_of expected.Number)
read_number _ = instead_of expected.Number

-- a number of 32 bits
unfoldable pub read_small_number : Json → Reading ℕ
read_small_number j = do
  n ← read_number j
  if nat_lt n (2 ^ 32) then Ok n else instead_of expected.SmallNumber

-- ---- what may not be there

-- `null` for what isn't there
abbrev pub nullable : {A : Type 0} → (Json → Reading A) → Json → Reading (Option A)
nullable f json.null = Ok None
nullable f j = f j >>= λ x. Ok (Some x)
