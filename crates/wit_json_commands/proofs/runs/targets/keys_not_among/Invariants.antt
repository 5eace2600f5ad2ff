use Rattle.std.proofs.Common.{◌≡◌, ◌++◌, drop}
use Rattle.wit_json_commands.specs.Targets.{keys_not_among}
use Rattle.wit_json_commands.proofs.runs.targets.keys_not_among.Given as goal

-- those so far, and those that are left
abbrev pub invariant-loop-key : goal.invariant-loop-key
invariant-loop-key l = l.left ++ keys_not_among l.others (drop l.key-index l.keys) ≡ keys_not_among l.others l.keys
