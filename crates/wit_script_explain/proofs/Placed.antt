-- Where a line stands.
use Rattle.std.proofs.Common.{◌≡◌, ◌+◌, ◌-◌, ◌++◌, ◌∙◌, ℕ, List, Some, Result, Ok, Err, String, string_bytes, codes, ap}
use Rattle.std.specs.Prelude.{IfOk, decimal, slice_get}
use Rattle.std.specs.declared.alloc.Global.{Global}
use Rattle.wit_script_lines.specs.Line.{content_start_of}
use Rattle.wit_sources.specs.Locations.{location_text}
use Rattle.wit_script_explain.specs.Shown.{noted_text, file_line_text}
use Rattle.wit_script_explain.specs.declared.lines.ScriptLines.{ScriptLines}

-- a place by its numbers, its column and how its line is shown
abbrev pub placed_text : ℕ → List ℕ → ℕ → ℕ → List ℕ → List ℕ
placed_text number path own column shown = codes "     --> line " ++ (decimal number ++ (codes " (" ++ (location_text path own column ++ (codes ")\n" ++ shown))))

-- a line that is there
pub placed : {E : Type 0} (told : Result (String Global) E) (script : ScriptLines) (index : ℕ) (path : List ℕ) (first : ℕ) (line : List ℕ) (own column : ℕ) (shown : List ℕ)
    → slice_get script.lines index ≡ Some line → own ≡ index - first + 1 → column ≡ content_start_of line + 1 → shown ≡ noted_text (index + 1) line
    → IfOk told (λ text. string_bytes text ≡ placed_text (index + 1) path own column shown) → IfOk told (λ text. string_bytes text ≡ file_line_text script (index, path, first))
placed (Ok text) script index path first line own column shown there own_is column_is shown_is said =
    rw there (
    said ∙ ap (λ n. placed_text (index + 1) path n column shown) own_is ∙ ap (λ n. placed_text (index + 1) path (index - first + 1) n shown) column_is
    ∙ ap (λ s. placed_text (index + 1) path (index - first + 1) (content_start_of line + 1) s) shown_is
    )
placed (Err e) script index path first line own column shown there own_is column_is shown_is said = tt
