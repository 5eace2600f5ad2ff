use Rattle.std.proofs.Common.{◌≡◌, ◌++◌, filter_map}
use Rattle.std.specs.Vec.Iter.{into_iter_items}
use Rattle.wit_json_commands.specs.CoreNames.{core_import, core_imports}
use Rattle.wit_json_commands.specs.steps.Placed.{placed_functions}
use Rattle.wit_json_commands.proofs.questions.core_names.core_imports.Given as goal

-- those so far, and those that are left
abbrev pub invariant-loop-placed : goal.invariant-loop-placed
invariant-loop-placed l = l.imports ++ filter_map (core_import l.graph l.mangling) (placed_functions (into_iter_items l.placed-iterator)) ≡ core_imports l.graph l.mangling l.entries
