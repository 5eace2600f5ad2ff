-- What closures read.
use Rattle.std.specs.Prelude.{Result}
use Rattle.std.specs.Borrow.{Bor}
use Rattle.std.specs.Fn.{AnyResult, Shared}
use Rattle.json.specs.Json.{Json}
use Rattle.json.specs.Value.{value_view}
use Rattle.json.specs.declared.value.Value.{Value}
use Rattle.wit_json_reading.specs.Reading.{Reading, Reads}
use Rattle.wit_json_reading.specs.declared.fault.ReadError.{ReadError}

-- what a closure answers of a value is what that reads as
abbrev pub ReadsBy : {F A X : Type 0} →
    Shared F (Bor (Value X) × Unit {0}) (Result A ReadError) → F → (Json → Reading A) → Type 0
ReadsBy {X = X} g read f =
    (v : Bor (Value X)) → AnyResult g read (v, tt) (λ result. Reads result (f (value_view v.now)))
