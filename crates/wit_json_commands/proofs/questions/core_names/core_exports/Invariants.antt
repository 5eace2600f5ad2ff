use Rattle.std.proofs.Common.{◌≡◌, ◌++◌, filter_map}
use Rattle.std.specs.Vec.Iter.{into_iter_items}
use Rattle.wit_json_commands.specs.CoreNames.{core_export, core_exports}
use Rattle.wit_json_commands.specs.steps.Placed.{placed_functions}
use Rattle.wit_json_commands.proofs.questions.core_names.core_exports.Given as goal

-- those so far, and those that are left
abbrev pub invariant-loop-placed : goal.invariant-loop-placed
invariant-loop-placed l = l.exports ++ filter_map (core_export l.graph l.mangling) (placed_functions (into_iter_items l.placed-iterator)) ≡ core_exports l.graph l.mangling l.entries
