use Rattle.std.proofs.Common.{◌≡◌, ◌++◌}
use Rattle.std.specs.List.{flat_map}
use Rattle.wit_data.specs.Entries.{Entry}
use Rattle.wit_link_resources.specs.steps.Active.{seen}
use Rattle.wit_merge.proofs.functions.push_entries.Given as goal
use Rattle.wit_remap_spec.specs.ValueRemap.{item_function}

-- what has been added, and what those will add that are left
abbrev pub invariant-loop-item : goal.invariant-loop-item
invariant-loop-item l = seen l.functions.items ++ flat_map (λ (e : Entry). item_function e.1) l.item-iterator ≡ seen l.fn.functions.items ++ flat_map (λ (e : Entry). item_function e.1) l.entries
