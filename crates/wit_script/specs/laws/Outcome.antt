-- What can be said of a script: that it is understood, that a line is the first that isn't, or that it is left open. One
-- of them holds, and one alone, of one line.
use Rattle.std.specs.Prelude.{◌≡◌, ℕ, List}
use Rattle.wit_script_lines.specs.Line.{lines_of}
use Rattle.wit_script_lines.specs.declared.request.Request.{Request}
use Rattle.wit_script.specs.Script.{IsBadLine, IsLeftOpen, IsUnderstood}

-- it can't be that none of them holds, no two of them hold, and what one of them names is determined
pub record HasOneOutcome (text : List ℕ) : Type 0 where
  pub some : ((commands : List Request) → ¬ IsUnderstood text commands)
      → ((number : ℕ) → ¬ IsBadLine (lines_of text) number)
      → ((number : ℕ) → ¬ IsLeftOpen (lines_of text) number) → ⊥
  pub understood_or_bad : (commands : List Request) (number : ℕ) → IsUnderstood text commands
      → IsBadLine (lines_of text) number → ⊥
  pub understood_or_open : (commands : List Request) (number : ℕ) → IsUnderstood text commands
      → IsLeftOpen (lines_of text) number → ⊥
  pub bad_or_open : (m n : ℕ) → IsBadLine (lines_of text) m → IsLeftOpen (lines_of text) n → ⊥
  pub commands : (a b : List Request) → IsUnderstood text a → IsUnderstood text b → a ≡ b
  pub bad_line : (m n : ℕ) → IsBadLine (lines_of text) m → IsBadLine (lines_of text) n → m ≡ n
  pub open_line : (m n : ℕ) → IsLeftOpen (lines_of text) m → IsLeftOpen (lines_of text) n → m ≡ n

-- of any script
abbrev pub ScriptsHaveOneOutcome : Type 0
ScriptsHaveOneOutcome = (text : List ℕ) → HasOneOutcome text
