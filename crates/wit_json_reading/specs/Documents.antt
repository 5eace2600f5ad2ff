-- What a text reads as.
use Rattle.std.specs.Prelude.{ℕ, List, Option, Some, None}
use Rattle.json.specs.Json.{Json, document}
use Rattle.wit_json_reading.specs.Reading.{Reading, instead_of}
use Rattle.wit_json_reading.specs.Stops.{Stopped, stop_in}
use Rattle.wit_json_reading.specs.declared.fault.Expected.{Expected}
use Rattle.wit_json_reading.specs.declared.fault.Expected.TheVariants as expected

-- what was expected where a text stops being JSON
abbrev pub expected_at : Stopped → Expected
expected_at None = expected.Document
expected_at (Some stop) = stop.1

-- the value of a text, or why it has none
abbrev pub if_document : {A : Type 0} → (Json → Reading A) → Stopped → Option Json → Reading A
if_document f stop None = instead_of (expected_at stop)
if_document f stop (Some j) = f j

-- what the value reads as that a whole text is
abbrev pub read_from : {A : Type 0} → (Json → Reading A) → List ℕ → Reading A
read_from f text = if_document f (stop_in text) (document text)
