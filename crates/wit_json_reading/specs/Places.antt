-- Where in a text a fault is.
use Rattle.std.specs.Prelude.{◌≡◌, ◌≤◌, ℕ, Bool, true, false, List, length, Some, None}
use Rattle.wit_sources.specs.Lines.{column, line_number}
use Rattle.wit_json_reading.specs.Stops.{Stopped, stop_in}
use Rattle.wit_json_reading.specs.declared.fault.Expected.{Expected}
use Rattle.wit_json_reading.specs.declared.fault.Expected.TheVariants as expected
use Rattle.wit_json_reading.specs.declared.fault.Fault.{Fault}
use Rattle.wit_json_reading.specs.declared.places.FaultPlace.{FaultPlace}

-- ---- of a text that isn't JSON

-- a fault is one of the text, and not of a value in it
abbrev pub is_of_text : Expected → Bool
is_of_text expected.Document = true
is_of_text (expected.Json p) = true
is_of_text (expected.UnfinishedJson p) = true
is_of_text expected.Nesting = true
is_of_text _ = false

abbrev pub offset_at : ℕ → Stopped → ℕ
offset_at end None = end
offset_at end (Some stop) = stop.0

-- how many bytes of a text are the beginning of JSON
abbrev pub stop_offset : List ℕ → ℕ
stop_offset text = offset_at (length text) (stop_in text)

-- ---- of any fault

-- so many bytes stand before the fault; of a value it is only said that its place is in the text or at its end
pub record IsOffsetOf (text : List ℕ) (fault : Fault) (offset : ℕ) : Type 0 where
  pub within : offset ≤ length text
  pub of_text : is_of_text fault.expected ≡ true → offset ≡ stop_offset text

-- and its line and column
pub record IsPlaceOf (text : List ℕ) (fault : Fault) (place : FaultPlace) : Type 0 where
  pub offset : IsOffsetOf text fault place.offset
  pub line : place.line ≡ line_number text place.offset
  pub column : place.column ≡ column text place.offset
