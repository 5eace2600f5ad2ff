-- Commands that are carried out on the graphs of a script.
use Rattle.std.proofs.Common.{◌≡◌, ℕ, false, List, Option, None, Some, Result, Ok, Err, String, string_bytes, is_some, refl, sym, subst}
use Rattle.std.specs.Prelude.{IfOk, IsTrue}
use Rattle.std.specs.declared.alloc.Global.{Global}
use Rattle.wit_commands.specs.Change.{is_setting}
use Rattle.wit_commands.specs.declared.change.Change.{Change}
use Rattle.wit_names.specs.declared.package_name.PackageName.{PackageName}
use Rattle.wit_resolve_graph.specs.State.{State}
use Rattle.wit_resolve_graph.specs.Step.{command_of}
use Rattle.wit_resolve_graph.specs.declared.command.Command.TheVariants.{Merge}
use Rattle.wit_script_lines.specs.declared.request.Request.{Request}
use Rattle.wit_script_lines.specs.declared.request.Request.TheVariants as request
use Rattle.wit_script.specs.Answer.{Answers, only_first, working_state}
use Rattle.wit_script.specs.steps.Answer.{AnswersCommand}
use Rattle.wit_script.specs.declared.answer.Stage.{Stage}
use Rattle.wit_script.specs.steps.Parts.{AnswersPrint, AnswersSelect}

-- what a call answers that ends with these graphs is the answer to a command
abbrev pub AreAnswers : {E : Type 0} → Stage → Request → Result (String Global) E → Stage → Type 0
AreAnswers before command told after = IfOk told (λ text. Answers before command (string_bytes text) after)

-- a change of the second graph
pub changes-second : {E : Type 0} (stage : Stage) (change : Change) (told : Result (String Global) E) (second new : State) → stage.second ≡ Some second
    → IfOk told (λ text. AnswersCommand (is_setting change) second (command_of change) (string_bytes text) new)
    → AreAnswers stage (request.Change change) told (record stage { second = Some new })
changes-second stage change (Ok text) second new is_open carried =
    subst (λ (o : Option State). Answers (record { first = stage.first; second = o }) (request.Change change) (string_bytes text) (record stage { second = Some new })) (sym is_open)
    (Some carried.0, (new, carried.1, refl), carried.2)
changes-second stage change (Err e) second new is_open carried = tt

-- of the only graph
pub changes-first : {E : Type 0} (stage : Stage) (change : Change) (told : Result (String Global) E) (new : State) → stage.second ≡ None
    → IfOk told (λ text. AnswersCommand (is_setting change) stage.first (command_of change) (string_bytes text) new)
    → AreAnswers stage (request.Change change) told (record stage { first = new })
changes-first stage change (Ok text) new closed carried =
    subst (λ (o : Option State). Answers (record { first = stage.first; second = o }) (request.Change change) (string_bytes text) (record { first = new; second = o })) (sym closed)
    (Some carried.0, (new, carried.1, refl), carried.2)
changes-first stage change (Err e) new closed carried = tt

-- `merge`
pub merges : {E : Type 0} (stage : Stage) (told : Result (String Global) E) (second new : State) → stage.second ≡ Some second
    → IfOk told (λ text. AnswersCommand false stage.first (Merge second) (string_bytes text) new) → AreAnswers stage request.Merge told (only_first new)
merges stage (Ok text) second new is_open carried = (Some carried.0, (second, new, is_open, carried.1, refl), carried.2)
merges stage (Err e) second new is_open carried = tt

-- `print` and `select`
pub prints : {E : Type 0} (stage : Stage) (owner : PackageName) (world : List ℕ) (told : Result (String Global) E)
    → IfOk told (λ text. AnswersPrint (working_state stage).graph owner world (string_bytes text)) → AreAnswers stage (request.Print owner world) told stage
prints stage owner world (Ok text) printed = (None, refl, printed)
prints stage owner world (Err e) printed = tt

pub selects : {E : Type 0} (stage : Stage) (owner : PackageName) (said : Option (List ℕ)) (told : Result (String Global) E)
    → IfOk told (λ text. AnswersSelect (working_state stage).graph owner said (string_bytes text)) → AreAnswers stage (request.Select owner said) told stage
selects stage owner said (Ok text) selected = (None, refl, selected)
selects stage owner said (Err e) selected = tt
