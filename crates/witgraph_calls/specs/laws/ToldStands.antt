-- What was told of a graph that stays, and what is new of it, make the whole of it.
use Rattle.std.specs.Prelude.{ℕ, List}
use Rattle.wit_json.specs.declared.news.Told.{Told}
use Rattle.wit_resolve_graph.specs.State.{State}
use Rattle.witgraph_calls.specs.Graphs.{Applies}
use Rattle.witgraph_calls.specs.News.{CompletesAll, LeavesTold, Stands, told_all, told_nothing}

-- all of a state stands when it is told, and nothing does before
abbrev pub AllStands : Type 0
AllStands = (state : State) → Stands (told_all state) state state

abbrev pub NothingStands : Type 0
NothingStands = (old new : State) → Stands told_nothing old new

-- what a document leaves of what was told of a state stands after it
abbrev pub ToldStands : Type 0
ToldStands =
    (told left : Told) (first old new : State) (input text : List ℕ)
    → Applies old input new text → LeavesTold input told left → Stands told first old
    → Stands left first new

-- what stands, and what is new, is the whole
abbrev pub NewsComplete : Type 0
NewsComplete = (told : Told) (old new : State) → Stands told old new → CompletesAll told old new
