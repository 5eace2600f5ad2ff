-- What a step of reading comes to: what its definition says, or want of memory.
use Rattle.std.specs.Prelude.{◌≡◌, Option, Some, None, Result, Ok, Err}
use Rattle.wit_script_lines.specs.declared.fault.LineFault.{LineFault}
use Rattle.wit_script_lines.specs.declared.fault.LineFault.TheVariants as line_fault

-- a value that is read where there is one
abbrev pub IsRead : {A : Type 0} → Option A → Result A LineFault → Type 0
IsRead expected (Ok value) = expected ≡ Some value
IsRead expected (Err line_fault.NotUnderstood) = expected ≡ None
IsRead expected (Err line_fault.OutOfMemory) = Unit {0}
