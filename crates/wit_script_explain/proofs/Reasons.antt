-- Why a script isn't understood.
use Rattle.std.proofs.Common.{◌≡◌, ℕ, List, Result, Ok, Err, String, string_bytes}
use Rattle.std.specs.Prelude.{IfOk}
use Rattle.std.specs.declared.alloc.Global.{Global}
use Rattle.wit_script_explain.specs.declared.lines.ScriptLines.{ScriptLines}
use Rattle.wit_script_explain.specs.steps.Parts.{misread_text}

-- what is told with one reason is told with some
pub some_reason : {E : Type 0} (told : Result (String Global) E) (script : ScriptLines) (index : ℕ) (reason : List ℕ)
    → IfOk told (λ text. string_bytes text ≡ misread_text script index reason) → IfOk told (λ text. (why : List ℕ) × (string_bytes text ≡ misread_text script index why))
some_reason (Ok text) script index reason said = (reason, said)
some_reason (Err e) script index reason said = tt
