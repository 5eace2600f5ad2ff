-- What spans, docs and feature gates are read from.
use Rattle.std.specs.Prelude.{ℕ, List, [], ◌∷◌, Option, Some, None, Ok, codes, if◌then◌else◌, bytes_eq, nat_le, Result, Err}
use Rattle.json.specs.Json.{Json}
use Rattle.json.specs.Json as json
use Rattle.wit_data.specs.declared.stability.Docs.{Docs}
use Rattle.wit_data.specs.declared.stability.Stability.{Stability}
use Rattle.wit_data.specs.declared.stability.Stability.TheVariants.{Unknown, Stable, Unstable}
use Rattle.wit_json_reading.specs.Reading.{Reading, ◌>>=◌, instead_of, only, read_optional, read_required, read_or}
use Rattle.wit_json_reading.specs.Objects.{alone, read_pair, read_variant}
use Rattle.wit_json_reading.specs.Values.{read_small_number, read_text, read_version}
use Rattle.wit_json_reading.specs.declared.fault.Expected.TheVariants as expected

-- `[start, end]`
unfoldable pub read_range : Json → Reading (Option (ℕ × ℕ))
read_range j = do
  range ← read_pair read_small_number read_small_number j
  if nat_le range.0 range.1 then Ok (Some range) else instead_of expected.Span

-- `null` where it is unknown
unfoldable pub read_place : Json → Reading (Option (ℕ × ℕ))
read_place json.null = Ok None
read_place j = read_range j

-- the span of an item, unknown where it is left out
unfoldable pub read_span : Json → Reading (Option (ℕ × ℕ))
read_span j = read_or read_place None (codes "span") j

-- `{"contents": text}`
unfoldable pub read_contents : Json → Reading Docs
read_contents j =
    alone read_text (codes "contents") j >>= λ text. Ok (record { contents = Some text })

-- the docs of an item, none where they are left out
unfoldable pub read_docs : Json → Reading Docs
read_docs j = read_or read_contents (record { contents = None }) (codes "docs") j

-- `{"since": version}`, and `"deprecated": version` where it is so
unfoldable pub read_stable : Json → Reading Stability
read_stable j = do
  _ ← only (codes "since" ∷ codes "deprecated" ∷ []) j
  since ← read_required read_version (codes "since") j
  deprecated ← read_optional read_version (codes "deprecated") j
  Ok (Stable since deprecated)

-- `{"feature": text}`, and `"deprecated": version` where it is so
unfoldable pub read_unstable : Json → Reading Stability
read_unstable j = do
  _ ← only (codes "feature" ∷ codes "deprecated" ∷ []) j
  feature ← read_required read_text (codes "feature") j
  deprecated ← read_optional read_version (codes "deprecated") j
  Ok (Unstable feature deprecated)

abbrev pub read_gate_by : List ℕ → Json → Reading Stability
read_gate_by name j =
    if bytes_eq name (codes "stable") then read_stable j
    else if bytes_eq name (codes "unstable") then read_unstable j
    else instead_of expected.Gate

-- `{"stable": ..}` or `{"unstable": ..}`, `null` where there is no gate
unfoldable pub read_any_gate : Json → Reading Stability
read_any_gate json.null = Ok Unknown
read_any_gate j = read_variant read_gate_by expected.Gate j

-- the gate of an item
unfoldable pub read_stability : Json → Reading Stability
read_stability j = read_or read_any_gate Unknown (codes "stability") j
