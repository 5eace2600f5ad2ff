-- Words of inner contracts and proofs, beside `Script`.
use Rattle.std.specs.Prelude.{◌≡◌, ℕ, ◌+◌, List, [], ◌++◌, Option, Some, Result, Ok, Err, option_to_list}
use Rattle.wit_script_lines.specs.declared.fault.LineFault.{LineFault}
use Rattle.wit_script_lines.specs.declared.fault.LineFault.TheVariants as line_fault
use Rattle.wit_script.specs.Ready.{AreReady}
use Rattle.wit_script.specs.declared.fault.ReadFault.{ReadFault}
use Rattle.wit_script.specs.declared.fault.ReadFault.TheVariants as read_fault
use Rattle.wit_script.specs.declared.reader.Reading.{Reading}
use Rattle.wit_script_package.specs.declared.mention.Mention.{Mention}
use Rattle.wit_script.specs.declared.ahead.Ahead.{Ahead}
use Rattle.wit_script.specs.declared.ahead.Ahead.TheVariants as ahead
use Rattle.wit_script.specs.Script.{IsBad, IsBadLine}

-- what a line ahead and the lines after it mention, by what the line is
abbrev pub mentions_then : Ahead → ℕ → (ℕ → List Mention) → List Mention
mentions_then ahead.End at after = []
mentions_then ahead.Silent at after = after at
mentions_then (ahead.Line mention next) at after = option_to_list mention ++ after next

-- why lines aren't added
abbrev pub HasLineFault : List (List ℕ) → ReadFault → Type 0
HasLineFault lines (read_fault.NotUnderstood number) = IsBadLine lines number
HasLineFault lines read_fault.OutOfMemory = Unit {0}

-- a reading that goes on with commands that are ready, or ends at a bad line
abbrev pub GoesOn : {A : Type 0} → Option Reading → Result A LineFault → Reading → Type 0
GoesOn expected (Ok done) new = (expected ≡ Some new) × AreReady new.commands
GoesOn expected (Err line_fault.NotUnderstood) new = IsBad expected
GoesOn expected (Err line_fault.OutOfMemory) new = Unit {0}
