-- A call that completes a thing in place.
use Rattle.std.specs.Prelude.{◌≡◌, Result, Ok, Err}
use Rattle.wit_json_reading.specs.Reading.{Reading}
use Rattle.wit_json_reading.specs.declared.fault.ReadError.{ReadError}
use Rattle.wit_json_reading.specs.declared.fault.ReadError.TheVariants as error

-- it has become what is read, or the fault is answered; want of memory may always be answered
abbrev pub Completes : {A : Type 0} → Result (Unit {0}) ReadError → Reading A → A → Type 0
Completes (Ok _) reading new = reading ≡ Ok new
Completes (Err (error.Fault fault)) reading new = reading ≡ Err fault
Completes (Err error.OutOfMemory) reading new = Unit {0}
