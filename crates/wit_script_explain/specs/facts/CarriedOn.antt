-- Commands that are told one after another, each at its place.
use Rattle.std.proofs.Common.{◌≡◌, ℕ, List, [], ◌∷◌, ◌++◌, Option, None, Some, is_some, refl, sym, ap, subst, option_map}
use Rattle.wit_resolve_graph.specs.declared.command.Reply.{Reply}
use Rattle.wit_script.specs.facts.Waiting.{others-come}
use Rattle.wit_script_lines.specs.declared.request.Request.{Request}
use Rattle.wit_script_explain.specs.Desk.{graphs_of}
use Rattle.wit_script_explain.specs.Explained.{ExplainsCommand, with_places}
use Rattle.wit_script_explain.specs.declared.desk.Desk.{Desk}
use Rattle.wit_script_explain.specs.declared.desk.TrackedGraph.{TrackedGraph}
use Rattle.wit_script_explain.specs.declared.lines.CommandPlace.{CommandPlace}
use Rattle.wit_script_explain.specs.declared.lines.ScriptLines.{ScriptLines}
use Rattle.wit_script_explain.specs.steps.Explained.{place_of, rest_after, rest_of}
use Rattle.wit_script.specs.steps.Ready.{CanAllBeAsked}

-- ---- places

pub rest_after-more : (places : List CommandPlace) (commands : List Request) (command : Request)
    → rest_of (rest_after places commands) ≡ rest_after places (commands ++ command ∷ [])
rest_after-more places [] command = refl
rest_after-more places (first ∷ commands) command = rest_after-more (rest_of places) commands command

-- one more command
pub with_places-more : (script : ScriptLines) (places : List CommandPlace) (commands : List Request) (command : Request)
    → with_places script places commands ++ (place_of script (rest_after places commands), command) ∷ [] ≡ with_places script places (commands ++ command ∷ [])
with_places-more script [] [] command = refl
with_places-more script (place ∷ places) [] command = refl
with_places-more script [] (first ∷ commands) command =
    ap (λ (l : List (CommandPlace × Request)). (place_of script [], first) ∷ l) (with_places-more script [] commands command)
with_places-more script (place ∷ places) (first ∷ commands) command =
    ap (λ (l : List (CommandPlace × Request)). (place, first) ∷ l) (with_places-more script places commands command)

-- ---- commands that can be asked

second-there : (second : Option TrackedGraph) → is_some (option_map (λ (t : TrackedGraph). t.resolve) second) ≡ is_some second
second-there None = refl
second-there (Some t) = refl

-- after one of them the others
pub desk-come : (script : ScriptLines) (place : CommandPlace) (before after : Desk) (command : Request) (commands : List Request) (reply : Option Reply) (text : List ℕ)
    → ExplainsCommand script place before command reply text after → CanAllBeAsked (command ∷ commands) (is_some before.second) → CanAllBeAsked commands (is_some after.second)
desk-come script place before after command commands reply text explained come =
    subst (CanAllBeAsked commands) (second-there after.second)
    (others-come (graphs_of before) (graphs_of after) command commands reply explained.0 (subst (CanAllBeAsked (command ∷ commands)) (sym (second-there before.second)) come))
