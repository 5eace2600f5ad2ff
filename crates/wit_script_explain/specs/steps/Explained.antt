-- Words of inner contracts and proofs, beside `Explained`.
use Rattle.std.specs.Prelude.{◌≡◌, ℕ, false, List, [], ◌∷◌, length, Option, None, Some}
use Rattle.wit_resolve_graph.specs.State.{State}
use Rattle.wit_resolve_graph.specs.Step.{Step}
use Rattle.wit_resolve_graph.specs.declared.command.Command.{Command}
use Rattle.wit_resolve_graph.specs.declared.command.Reply.{Reply}
use Rattle.wit_script_lines.specs.declared.request.Request.{Request}
use Rattle.wit_script_explain.specs.Desk.{with_file_starts}
use Rattle.wit_script_explain.specs.Refusals.{TellsReply, unless_refused}
use Rattle.wit_script_explain.specs.declared.desk.TrackedGraph.{TrackedGraph}
use Rattle.wit_script_explain.specs.declared.lines.CommandPlace.{CommandPlace}
use Rattle.wit_script_explain.specs.declared.lines.ScriptLines.{ScriptLines}
use Rattle.wit_ways.specs.Asked.{asked_of}

-- a command is carried out on one graph. Its files, where it brings any, begin with these lines, and the packages that it
-- brings with those
abbrev pub ExplainsReply : ScriptLines → CommandPlace → TrackedGraph → Command → List ℕ → List ℕ
    → Option Reply → List ℕ → TrackedGraph → Type 0
ExplainsReply script place before command coming brought None text after = ⊥
ExplainsReply script place before command coming brought (Some reply) text after =
    (new : State) × Step before.resolve command reply new
    × (after
    ≡ with_file_starts (record before { resolve = new }) coming
    (unless_refused (Some reply) brought))
    × TellsReply script place after (asked_of before.resolve command) (Some reply) text

-- the first of some commands; where there is none, one behind all lines
abbrev pub place_of : ScriptLines → List CommandPlace → CommandPlace
place_of script [] =
    record { line = length script.lines; packages = length script.packages; is_push = false }
place_of script (place ∷ places) = place

-- those after it
abbrev pub rest_of : List CommandPlace → List CommandPlace
rest_of [] = []
rest_of (place ∷ places) = places

-- those after some commands
abbrev pub rest_after : List CommandPlace → List Request → List CommandPlace
rest_after places [] = places
rest_after places (command ∷ commands) = rest_after (rest_of places) commands
