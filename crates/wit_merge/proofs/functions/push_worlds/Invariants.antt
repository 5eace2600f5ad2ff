use Rattle.std.proofs.Common.{◌≡◌, ◌++◌, ℕ, drop, filter}
use Rattle.std.specs.List.{enumerate_from, flat_map}
use Rattle.wit_data.specs.declared.world.World.{World}
use Rattle.wit_remap_spec.specs.Selected.{selected_with_index}
use Rattle.wit_remap_spec.specs.ValueRemap.{world_functions}
use Rattle.wit_link_resources.specs.steps.Active.{seen}
use Rattle.wit_merge_match.specs.steps.Matched.{moves}
use Rattle.wit_merge.proofs.functions.push_worlds.Given as goal

-- what has been added, and what those will add that are left
abbrev pub invariant-loop-index : goal.invariant-loop-index
invariant-loop-index l =
    seen l.functions.items ++ flat_map (λ (e : ℕ × World). world_functions e.1) (filter (λ (e : ℕ × World). moves l.matches.worlds e.0) (enumerate_from l.index (drop l.index l.other.worlds)))
    ≡ seen l.fn.functions.items ++ flat_map (λ (e : ℕ × World). world_functions e.1) (selected_with_index (moves l.matches.worlds) l.other.worlds)
