use Rattle.std.proofs.Common.{◌≡◌, ℕ, List}
use Rattle.std.specs.List.{list_any}
use Rattle.witgraph_dot.specs.Frames.{shows_world}
use Rattle.witgraph_dot.specs.Sets.{is_one_of}
use Rattle.witgraph_dot.proofs.frame.shows_world.Given as goal

-- it is asked of the entries that are left
abbrev pub invariant-loop-id : goal.invariant-loop-id
invariant-loop-id l = list_any (λ (e : List ℕ × ℕ). is_one_of l.scene.worlds.items e.1) l.id-iterator ≡ shows_world l.scene.worlds.items l.«package»
