-- What a step that changes a package comes to: what its definition says, or want of memory.
use Rattle.std.specs.Prelude.{◌≡◌, Option, Some, None, Result, Ok, Err}
use Rattle.wit_script_lines.specs.declared.fault.LineFault.{LineFault}
use Rattle.wit_script_lines.specs.declared.fault.LineFault.TheVariants as line_fault

-- a state that is reached where there is one
abbrev pub DraftResult : {S A : Type 0} → Option S → Result A LineFault → S → Type 0
DraftResult expected (Ok done) new = expected ≡ Some new
DraftResult expected (Err line_fault.NotUnderstood) new = expected ≡ None
DraftResult expected (Err line_fault.OutOfMemory) new = Unit {0}

-- a value that is made, and the state after it
abbrev pub Makes : {S A : Type 0} → Option (A × S) → Result A LineFault → S → Type 0
Makes expected (Ok value) new = expected ≡ Some (value, new)
Makes expected (Err line_fault.NotUnderstood) new = expected ≡ None
Makes expected (Err line_fault.OutOfMemory) new = Unit {0}
