-- Documents that are applied one after another to a graph that stays.
use Rattle.std.specs.Prelude.{◌≡◌, ℕ, List, ◌++◌, None}
use Rattle.wit_resolve_graph.specs.State.{State}
use Rattle.wit_json_commands.specs.Runs.{RespondsEach}
use Rattle.witgraph_calls.specs.Graphs.{Applies, start_for}

-- if the second has no graph of its own, both do what one document with the commands of both does
abbrev pub DocumentsGoOn : Type 0
DocumentsGoOn =
    (old mid new : State) (input other text more : List ℕ)
    (first : Applies old input mid text) (second : Applies mid other new more)
    → second.document.resolve ≡ None
    → RespondsEach (start_for old first.document.resolve)
    (first.document.commands ++ second.document.commands)
    (first.replied.replies ++ second.replied.replies) new
