use Rattle.std.proofs.Common.{◌≡◌, ◌++◌, filter_map}
use Rattle.wit_data.specs.Entries.{Entry}
use Rattle.wit_ways.specs.Arrows.{dependency_of, home_text, listed_by}
use Rattle.wit_ways.proofs.graph_arrow.add_world.Given as goal

-- the dependencies so far, and those of the entries that are left
abbrev pub invariant-loop-item : goal.invariant-loop-item
invariant-loop-item l =
    l.arrows ++ filter_map (λ (e : Entry). dependency_of l.offset l.graph l.homes l.from e.1) l.item-iterator
    ≡ l.initial.arrows ++ filter_map (λ (e : Entry). dependency_of l.offset l.graph l.homes (home_text l.graph.packages l.world.«package») e.1) (listed_by l.fn.side l.world)
