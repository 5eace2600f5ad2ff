-- The graphs of a script, each with the lines of the script that its files have.
use Rattle.std.specs.Prelude.{ℕ, ◌-◌, List, [], ◌++◌, length, take, None, Some, is_some, unwrap_or, if◌then◌else◌, option_map}
use Rattle.wit_resolve_graph.specs.State.{new_state}
use Rattle.wit_script.specs.declared.answer.Stage.{Stage}
use Rattle.wit_script_explain.specs.declared.desk.Desk.{Desk}
use Rattle.wit_script_explain.specs.declared.desk.TrackedGraph.{TrackedGraph}

abbrev pub new_tracked : TrackedGraph
new_tracked = record { resolve = new_state; file_starts = []; package_starts = [] }

-- of the files that the graph's sources have got, which are the first of those that were to come, the places of their first
-- lines are noted, and those of the packages that it has got with them
abbrev pub with_file_starts : TrackedGraph → List ℕ → List ℕ → TrackedGraph
with_file_starts t coming brought =
    let more = length t.resolve.source_map.files - length t.file_starts in
    record t {
      file_starts = t.file_starts ++ take more coming;
      package_starts = t.package_starts ++ take more brought;
    }

abbrev pub new_desk : Desk
new_desk = record { first = new_tracked; second = None }

-- the graphs alone
abbrev pub graphs_of : Desk → Stage
graphs_of desk = record {
  first = desk.first.resolve;
  second = option_map (λ (t : TrackedGraph). t.resolve) desk.second;
}

-- the graph on which commands work
abbrev pub working : Desk → TrackedGraph
working desk = unwrap_or desk.second desk.first

-- the desk after that graph has become another
abbrev pub with_working : Desk → TrackedGraph → Desk
with_working desk new =
    if is_some desk.second then record desk { second = Some new } else record desk { first = new }
