use Rattle.std.proofs.Common.{◌≡◌, ◌++◌, ℕ, List, string_bytes}
use Rattle.std.specs.List.{flat_map}
use Rattle.witgraph_dot.specs.Frames.{world_boxes}
use Rattle.witgraph_dot.proofs.frame.write_worlds.Given as goal
use Rattle.witgraph_dot.specs.steps.Parts.{shown_world}

-- with those of the entries that are left it has all
abbrev pub invariant-loop-id : goal.invariant-loop-id
invariant-loop-id l =
    string_bytes l.text ++ flat_map (λ (e : List ℕ × ℕ). shown_world l.scene.resolve.now.graph.worlds l.scene.worlds.items e.1) l.id-iterator
    ≡ string_bytes l.fn.text ++ world_boxes l.scene.resolve.now.graph.worlds l.scene.worlds.items l.«package»
