-- What is told of a script that isn't understood: the line at which it isn't, and why. Of the reason nothing is said here.
use Rattle.std.specs.Prelude.{◌≡◌, ℕ, ◌+◌, List, [], ◌++◌, codes, decimal, slice_get}
use Rattle.std.specs.Option.{option_map_or}
use Rattle.wit_script_explain.specs.Culprit.{fault_index}
use Rattle.wit_script_explain.specs.Shown.{snippet_text}
use Rattle.wit_script_explain.specs.declared.lines.ScriptLines.{ScriptLines}

-- what is told where the line of this number isn't understood: `line N: REASON`, and the line with a mark
abbrev pub IsMisreadText : ScriptLines → ℕ → List ℕ → Type 0
IsMisreadText script number text =
    let index = fault_index script number in
    (reason : List ℕ)
    × (text ≡ option_map_or (λ line.
    codes "line "
    ++ (decimal (index + 1)
    ++ (codes ": " ++ (reason ++ (codes "\n" ++ snippet_text (index + 1) line)))))
    (slice_get script.lines index) [])
