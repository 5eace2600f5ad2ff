-- The picture of a script.
use Rattle.std.specs.Prelude.{◌≡◌, ◌==◌, ℕ, Bool, true, false, List, [], ◌++◌, codes, if◌then◌else◌, length}
use Rattle.wit_graph_data.specs.declared.graph.Graph.{Graph}
use Rattle.wit_script.specs.Script.{IsUnderstood}
use Rattle.wit_script_lines.specs.declared.request.Request.{Request}
use Rattle.wit_script_explain.specs.Explained.{ExplainsMisread}
use Rattle.wit_script_lines.specs.Line.{lines_of}
use Rattle.wit_script_explain.specs.Lines.{script_lines_of}
use Rattle.witgraph_dot.specs.Bundles.{frames_of}
use Rattle.witgraph_dot.specs.Choice.{choice_of}
use Rattle.witgraph_dot.specs.Frames.{frame_texts}
use Rattle.witgraph_dot.specs.Lines.{arrow_lines}
use Rattle.witgraph_dot.specs.Made.{ScriptMakes}
use Rattle.witgraph_dot.specs.Scene.{View}
use Rattle.witgraph_dot.specs.Shown.{shown_interfaces, shown_worlds}
use Rattle.witgraph_dot.specs.Texts.{html_text}
use Rattle.witgraph_dot.specs.declared.picture.TheConstants.{END, HEAD, LEGEND}
use Rattle.witgraph_dot.specs.declared.choice.Choice.{Choice}
use Rattle.witgraph_dot.specs.declared.listing.Listing.{Listing}
use Rattle.witgraph_dot.specs.declared.stage.Stage.{Stage}

-- what a choice shows of a graph, with what lines list
abbrev pub chosen_view : Choice → Graph → Listing → View
chosen_view choice g listing = record {
  graph = g;
  imports = listing.imports;
  includes = listing.includes;
  interfaces = shown_interfaces choice g;
  worlds = shown_worlds choice g;
  frames = frames_of (shown_interfaces choice g) g.packages;
  only_added = choice.only_added;
}

-- a note on a ground of its own, where it says something
abbrev pub note_line : List ℕ → List ℕ
note_line note =
    if length note == 0 then []
    else codes "    <tr><td border=\"1\" align=\"left\" color=\"#c9b458\" bgcolor=\"#fff3c4\" cellpadding=\"6\"><font face=\"monospace\" point-size=\"11\">" ++ (html_text note ++ codes "</font></td></tr>\n")

-- the frames of the packages, the arrows, the legend, and a note
abbrev pub picture_text : View → List ℕ → List ℕ
picture_text v note =
    HEAD.now
    ++ (frame_texts v 0 v.graph.packages
    ++ (arrow_lines v ++ (LEGEND.now ++ (note_line note ++ END.now))))

-- what is written of a script that is understood: what its comments choose of the first graph that is there after its
-- commands, and what is told of them
pub record DrawsScript (input text : List ℕ) : Type 0 where
  pub commands : List Request
  pub understood : IsUnderstood input commands
  pub note : List ℕ
  pub after : Stage
  pub made : ScriptMakes (script_lines_of (lines_of input)) commands note after
  pub drawn : text
      ≡ picture_text (chosen_view (choice_of (lines_of input)) after.desk.first.resolve.graph
      after.first) note

-- what is written of a script, and whether it is understood: of one that isn't, why
abbrev pub Draws : List ℕ → Bool → List ℕ → Type 0
Draws input true text = DrawsScript input text
Draws input false text = ExplainsMisread input text
