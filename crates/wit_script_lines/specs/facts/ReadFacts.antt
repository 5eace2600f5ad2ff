-- What is read of a part that is at fault.
use Rattle.std.specs.Prelude.{◌≡◌, Option, None, Err}
use Rattle.wit_script_lines.specs.declared.fault.LineFault.{LineFault}
use Rattle.wit_script_lines.specs.declared.fault.LineFault.TheVariants as line_fault
use Rattle.wit_script_lines.specs.steps.ReadResult.{IsRead}

-- a fault of a part is one of the whole, where nothing is read of the whole without the part
pub fault-of : {A B : Type 0} {part : Option A} {whole : Option B} (fault : LineFault) → IsRead part (Err fault) → (part ≡ None → whole ≡ None) → IsRead whole (Err fault)
fault-of line_fault.NotUnderstood read stops = stops read
fault-of line_fault.OutOfMemory read stops = tt
