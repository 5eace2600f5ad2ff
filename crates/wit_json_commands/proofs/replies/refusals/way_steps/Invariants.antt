use Rattle.std.proofs.Common.{◌≡◌, ◌++◌, drop, map}
use Rattle.wit_json_commands.specs.Refusals.{way_step}
use Rattle.wit_json_commands.proofs.replies.refusals.way_steps.Given as goal

-- the first steps, and those that are left
abbrev pub invariant-loop-arrow : goal.invariant-loop-arrow
invariant-loop-arrow l = l.steps ++ map (way_step l.files.files) (drop l.arrow-index l.way) ≡ map (way_step l.files.files) l.way
