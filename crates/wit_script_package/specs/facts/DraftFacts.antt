-- What a step makes of a package whose part is at fault.
use Rattle.std.specs.Prelude.{◌≡◌, Option, None, Err}
use Rattle.wit_script_lines.specs.declared.fault.LineFault.{LineFault}
use Rattle.wit_script_lines.specs.declared.fault.LineFault.TheVariants as line_fault
use Rattle.wit_script_package.specs.steps.DraftResult.{Makes}

-- a fault of a part is one of the whole, where nothing comes of the whole without the part
pub fault-of : {A B S : Type 0} {part : Option (A × S)} {whole : Option (B × S)} (between after : S) (fault : LineFault) → Makes part (Err fault) between → (part ≡ None → whole ≡ None)
    → Makes whole (Err fault) after
fault-of between after line_fault.NotUnderstood made stops = stops made
fault-of between after line_fault.OutOfMemory made stops = tt
