-- What a script prints.
use Rattle.std.specs.Prelude.{◌≡◌, ℕ, Bool, true, false, List, ◌++◌, codes, decimal, IsUtf8}
use Rattle.wit_resolve_graph.specs.State.{new_state}
use Rattle.wit_script_lines.specs.declared.request.Request.{Request}
use Rattle.wit_script.specs.Answer.{Answers, InTurn, only_first}
use Rattle.wit_script.specs.Script.{IsNotUnderstood, IsUnderstood}
use Rattle.wit_script.specs.declared.answer.Stage.{Stage}

-- what a script prints, which is text: the answers to its commands on an empty graph
pub record PrintsAnswers (input text : List ℕ) : Type 0 where
  pub utf8 : IsUtf8 input
  pub commands : List Request
  pub understood : IsUnderstood input commands
  pub after : Stage
  pub answered : InTurn Answers (only_first new_state) commands text after

-- what a script prints that isn't understood: the one line
pub record PrintsLine (input text : List ℕ) : Type 0 where
  pub utf8 : IsUtf8 input
  pub number : ℕ
  pub bad : IsNotUnderstood input number
  pub line : text ≡ codes "line " ++ (decimal number ++ codes ": not understood\n")

-- what a script prints, and whether it is understood
abbrev pub Prints : List ℕ → Bool → List ℕ → Type 0
Prints input true text = PrintsAnswers input text
Prints input false text = PrintsLine input text
