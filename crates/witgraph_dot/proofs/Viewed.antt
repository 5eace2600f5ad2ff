-- What a choice shows of a graph, as the code has it.
use Rattle.std.proofs.Common.{◌≡◌, ◌∙◌, ℕ, Bool, List, ap, subst}
use Rattle.wit_graph_data.specs.declared.graph.Graph.{Graph}
use Rattle.wit_resolve_graph.specs.State.{State}
use Rattle.wit_script.specs.Script.{IsUnderstood}
use Rattle.wit_script_lines.specs.Line.{lines_of}
use Rattle.wit_script_lines.specs.declared.request.Request.{Request}
use Rattle.wit_script_explain.specs.Lines.{script_lines_of}
use Rattle.wit_script_explain.specs.declared.lines.ScriptLines.{ScriptLines}
use Rattle.witgraph_dot.specs.Bundles.{frames_of}
use Rattle.witgraph_dot.specs.Choice.{choice_of}
use Rattle.witgraph_dot.specs.Made.{ScriptMakes}
use Rattle.witgraph_dot.specs.Picture.{DrawsScript, chosen_view, picture_text}
use Rattle.witgraph_dot.specs.Scene.{View}
use Rattle.witgraph_dot.specs.Shown.{shown_interfaces, shown_worlds}
use Rattle.witgraph_dot.specs.declared.choice.Choice.{Choice}
use Rattle.witgraph_dot.specs.declared.listing.Listing.{Listing}
use Rattle.witgraph_dot.specs.declared.scene.Scene.{Scene}
use Rattle.witgraph_dot.specs.declared.stage.Stage.{Stage}
use Rattle.witgraph_dot.specs.steps.Parts.{view_of}

abbrev view : Graph → Listing → List ℕ → List ℕ → List (List ℕ) → Bool → View
view g listing interfaces worlds frames only_added = record {
  graph = g;
  imports = listing.imports;
  includes = listing.includes;
  interfaces = interfaces;
  worlds = worlds;
  frames = frames;
  only_added = only_added;
}

pub view-is : (scene : Scene) (choice : Choice) (state : State) (listing : Listing) → scene.resolve.now ≡ state → scene.listing.now ≡ listing → scene.interfaces.items ≡ shown_interfaces choice state.graph
    → scene.worlds.items ≡ shown_worlds choice state.graph → scene.frames ≡ frames_of (shown_interfaces choice state.graph) state.graph.packages → scene.only_added ≡ choice.only_added
    → view_of scene ≡ chosen_view choice state.graph listing
view-is scene choice state listing of_graph of_listing of_interfaces of_worlds of_frames of_added =
    let interfaces = shown_interfaces choice state.graph in
    let worlds = shown_worlds choice state.graph in
    ap (λ (s : State). view s.graph scene.listing.now scene.interfaces.items scene.worlds.items scene.frames scene.only_added) of_graph
    ∙ (ap (λ (l : Listing). view state.graph l scene.interfaces.items scene.worlds.items scene.frames scene.only_added) of_listing
    ∙ (ap (λ (is : List ℕ). view state.graph listing is scene.worlds.items scene.frames scene.only_added) of_interfaces
    ∙ (ap (λ (ws : List ℕ). view state.graph listing interfaces ws scene.frames scene.only_added) of_worlds
    ∙ (ap (λ (fs : List (List ℕ)). view state.graph listing interfaces worlds fs scene.only_added) of_frames
    ∙ ap (λ (b : Bool). view state.graph listing interfaces worlds (frames_of interfaces state.graph.packages) b) of_added))))

-- what a choice shows of the first graph of a script, and a note
abbrev drawn_text : Choice → Stage → List ℕ → List ℕ
drawn_text choice stage note = picture_text (chosen_view choice stage.desk.first.resolve.graph stage.first) note

-- what is drawn after a script that is understood
pub drawn-by : (input text : List ℕ) (script : ScriptLines) → script ≡ script_lines_of (lines_of input) → (commands : List Request) → IsUnderstood input commands
    → (note : List ℕ) (after : Stage) → ScriptMakes script commands note after → (choice : Choice) → choice ≡ choice_of (lines_of input)
    → (told : List ℕ) → told ≡ note → text ≡ drawn_text choice after told → DrawsScript input text
drawn-by input text script of_lines commands understood note after made choice of_choice told of_note drawn = record {
  commands = commands;
  understood = understood;
  note = note;
  after = after;
  made = subst (λ (s : ScriptLines). ScriptMakes s commands note after) of_lines made;
  drawn = drawn ∙ (ap (λ (c : Choice). drawn_text c after told) of_choice ∙ ap (drawn_text (choice_of (lines_of input)) after) of_note);
}
