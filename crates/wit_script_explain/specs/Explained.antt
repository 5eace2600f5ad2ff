-- What is told of a script: its refusals, and which commands name what isn't there, each with the lines at which it is; or the
-- line at which it isn't understood.
use Rattle.std.specs.Prelude.{◌≡◌, ℕ, Bool, true, false, List, [], ◌∷◌, length, Option, None, Some, Result, MatchOption, MatchResult, IsUtf8, codes, drop}
use Rattle.std.specs.Option.{option_map_or}
use Rattle.wit_graph_data.specs.Named.{package_named, world_named}
use Rattle.wit_graph_data.specs.declared.error_kind.ResolveErrorKind.{ResolveErrorKind}
use Rattle.wit_resolve_graph.specs.Step.{command_of}
use Rattle.wit_resolve_graph.specs.declared.command.Command.TheVariants.{Merge}
use Rattle.wit_resolve_graph.specs.declared.command.Reply.{Reply}
use Rattle.wit_script.specs.Answer.{CarriesOut, InTurn, IsSelection, working_state}
use Rattle.wit_script.specs.Script.{IsNotUnderstood, IsUnderstood}
use Rattle.wit_script.specs.declared.answer.Stage.{Stage}
use Rattle.wit_script_lines.specs.declared.request.Request.{Request}
use Rattle.wit_script_lines.specs.declared.request.Request.TheVariants as request
use Rattle.wit_script_lines.specs.Line.{lines_of}
use Rattle.wit_script_explain.specs.Desk.{graphs_of, new_desk, new_tracked, with_file_starts, with_working, working}
use Rattle.wit_script_explain.specs.Lines.{script_lines_of}
use Rattle.wit_script_explain.specs.Misread.{IsMisreadText}
use Rattle.wit_script_explain.specs.Refusals.{TellsRefusal, TellsReply, missing_text, unless_refused}
use Rattle.wit_script_explain.specs.declared.desk.Desk.{Desk}
use Rattle.wit_script_explain.specs.declared.desk.TrackedGraph.{TrackedGraph}
use Rattle.wit_script_explain.specs.declared.lines.CommandPlace.{CommandPlace}
use Rattle.wit_script_explain.specs.declared.lines.ScriptLines.{ScriptLines}
use Rattle.wit_ways.specs.Asked.{asked_of}
use Rattle.wit_ways.specs.declared.asked.Asked.{Asked}
use Rattle.wit_ways.specs.declared.asked.Asked.TheVariants.{Other}

-- ---- a command

-- the graphs that are there after a command, each with the lines of its files: those that a change brings come next in the
-- script, those that `merge` brings are known of the second graph
abbrev pub desk_after : ScriptLines → CommandPlace → Desk → Request → Option Reply → Stage → Desk
desk_after script place before (request.Change change) reply now =
    let coming = drop place.packages script.packages in
    with_working before
    (with_file_starts (record (working before) { resolve = working_state now }) coming
    (unless_refused reply coming))
desk_after script place before request.Merge reply now =
    option_map_or (λ (second : TrackedGraph).
    record {
      first = with_file_starts (record before.first { resolve = now.first }) second.file_starts
          (unless_refused reply second.package_starts);
      second = None;
    }) before.second before
desk_after script place before request.Other reply now = record before { second = Some new_tracked }
desk_after script place before _ reply now = before

-- what a command asks of a graph, as far as the way of a refusal goes by it
abbrev pub asked_in : Stage → Request → Asked
asked_in before (request.Change change) = asked_of (working_state before) (command_of change)
asked_in before request.Merge =
    option_map_or (λ second. asked_of before.first (Merge second)) before.second Other
asked_in before _ = Other

-- what is told of a command, by its reply and the graph on which commands work after it; of `select` that there is no such
-- package, or a choice that may be made of it
abbrev pub TellsCommand : ScriptLines → CommandPlace → TrackedGraph → Asked → Request
    → Option Reply → List ℕ → Type 0
TellsCommand script place after asked (request.Print owner world) reply text =
    text ≡ option_map_or (λ w. []) (world_named after.resolve.graph owner world)
    (missing_text script place (codes "no world"))
TellsCommand script place after asked (request.Select owner said) reply text =
    MatchOption (package_named after.resolve.graph owner)
    (text ≡ missing_text script place (codes "no package"))
    (λ id. (choice : Result ℕ ResolveErrorKind)
    × IsSelection after.resolve.graph (id ∷ []) said choice
    × MatchResult choice (λ world. text ≡ [])
    (λ kind. TellsRefusal script place after Other kind text))
TellsCommand script place after asked _ reply text = TellsReply script place after asked reply text

-- a command is carried out, the lines of its files are noted, and it is told
abbrev pub ExplainsCommand : ScriptLines → CommandPlace → Desk → Request → Option Reply → List ℕ
    → Desk → Type 0
ExplainsCommand script place before command reply text after =
    CarriesOut (graphs_of before) command reply (graphs_of after)
    × (after ≡ desk_after script place before command reply (graphs_of after))
    × TellsCommand script place (working after) (asked_in (graphs_of before) command) command reply
    text

-- ---- commands, one after another

-- each command with the place at which it stands; where there is none, with one behind all lines
abbrev pub with_places : ScriptLines → List CommandPlace → List Request
    → List (CommandPlace × Request)
with_places script places [] = []
with_places script [] (command ∷ commands) = (
  record { line = length script.lines; packages = length script.packages; is_push = false },
  command,
)
    ∷ with_places script [] commands
with_places script (place ∷ places) (command ∷ commands) =
    (place, command) ∷ with_places script places commands

-- a command at its place is carried out, and told
abbrev pub ExplainsPlaced : ScriptLines → Desk → CommandPlace × Request → List ℕ → Desk → Type 0
ExplainsPlaced script before placed text after =
    (reply : Option Reply) × ExplainsCommand script placed.0 before placed.1 reply text after

-- what is told of a script that is understood: the refusals of its commands on an empty graph, and what isn't there
pub record ExplainsScript (input text : List ℕ) : Type 0 where
  pub utf8 : IsUtf8 input
  pub commands : List Request
  pub understood : IsUnderstood input commands
  pub after : Desk
  pub told : InTurn (ExplainsPlaced (script_lines_of (lines_of input))) new_desk
      (with_places (script_lines_of (lines_of input))
      (script_lines_of (lines_of input)).commands commands) text after

-- what is told of a script that isn't understood: the line at which it isn't
pub record ExplainsMisread (input text : List ℕ) : Type 0 where
  pub utf8 : IsUtf8 input
  pub number : ℕ
  pub bad : IsNotUnderstood input number
  pub told : IsMisreadText (script_lines_of (lines_of input)) number text

-- what is told of a script, and whether it is understood
abbrev pub Explains : List ℕ → Bool → List ℕ → Type 0
Explains input true text = ExplainsScript input text
Explains input false text = ExplainsMisread input text
