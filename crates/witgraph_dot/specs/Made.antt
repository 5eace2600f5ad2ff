-- What lines list for the worlds of a script's graphs, as its commands are carried out.
use Rattle.std.specs.Prelude.{◌≡◌, ℕ, Bool, true, false, List, Option, None, Some, if◌then◌else◌}
use Rattle.wit_graph_data.specs.declared.error_kind.ResolveErrorKind.TheVariants.{OutOfMemory}
use Rattle.wit_resolve_graph.specs.declared.command.Reply.{Reply}
use Rattle.wit_resolve_graph.specs.declared.command.Reply.TheVariants as reply
use Rattle.wit_script.specs.Answer.{InTurn}
use Rattle.wit_script_explain.specs.Explained.{ExplainsCommand, with_places}
use Rattle.wit_script_lines.specs.declared.request.Request.{Request}
use Rattle.wit_script_explain.specs.Desk.{new_desk, working}
use Rattle.wit_script_explain.specs.declared.desk.Desk.{Desk}
use Rattle.wit_script_explain.specs.declared.desk.TrackedGraph.{TrackedGraph}
use Rattle.wit_script_explain.specs.declared.lines.CommandPlace.{CommandPlace}
use Rattle.wit_script_explain.specs.declared.lines.ScriptLines.{ScriptLines}
use Rattle.witgraph_dot.specs.Effects.{request_effect, with_effect}
use Rattle.witgraph_dot.specs.Listed.{merged_listing, new_listing}
use Rattle.witgraph_dot.specs.declared.effect.Effect.{Effect}
use Rattle.witgraph_dot.specs.declared.effect.Effect.TheVariants as effect
use Rattle.witgraph_dot.specs.declared.listing.Listing.{Listing}
use Rattle.witgraph_dot.specs.declared.stage.Stage.{Stage}
use Rattle.std.specs.Option.{option_map_or}

-- by its reply a command came to something
abbrev pub came_to_something : Option Reply → Bool
came_to_something (Some (reply.Refused kind)) = false
came_to_something (Some reply.NoWorld) = false
came_to_something (Some _) = true
came_to_something None = false

-- what the first graph lists after `merge`, by its reply
abbrev pub with_merged : Option Reply → Listing → Listing → Listing
with_merged (Some (reply.Merged remap)) first second =
    merged_listing remap.worlds remap.interfaces second first
with_merged _ first second = first

-- the graphs as they are after a command with this effect and reply, with what was listed before it: other effects are on the
-- graph on which commands work, the second, where there is one
abbrev pub stage_after : Effect → Option Reply → Desk → Listing → Listing → Stage
stage_after effect.Opens answer desk first second =
    record { desk = desk; first = first; second = new_listing }
stage_after effect.Joins answer desk first second =
    record { desk = desk; first = with_merged answer first second; second = new_listing }
stage_after done answer desk first second =
    if came_to_something answer
    then option_map_or (λ (graph : TrackedGraph).
    record { desk = desk; first = first; second = with_effect graph.resolve done second })
    desk.second
    (record { desk = desk; first = with_effect desk.first.resolve done first; second = second })
    else record { desk = desk; first = first; second = second }

-- a command at its place that doesn't want memory, what is told of it, and what there is after it
abbrev pub CommandMakes : ScriptLines → Stage → CommandPlace × Request → List ℕ → Stage → Type 0
CommandMakes script before placed text after =
    (answer : Option Reply)
    × ExplainsCommand script placed.0 before.desk placed.1 answer text after.desk
    × (answer ≡ Some (reply.Refused OutOfMemory) → ⊥)
    × (after
    ≡ stage_after (request_effect (working before.desk).resolve.graph placed.1) answer after.desk
    before.first before.second)

-- the commands of a script, on an empty graph, for whose worlds no line lists anything, and what is told of them
abbrev pub ScriptMakes : ScriptLines → List Request → List ℕ → Stage → Type 0
ScriptMakes script commands text after =
    InTurn (CommandMakes script)
    (record { desk = new_desk; first = new_listing; second = new_listing })
    (with_places script script.commands commands) text after
