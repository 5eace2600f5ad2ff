use Rattle.std.proofs.Common.{◌≡◌, None, drop, fold}
use Rattle.std.specs.Option.{option_copied}
use Rattle.wit_json_commands.specs.Nearest.{nearer}
use Rattle.wit_json_commands.proofs.replies.nearest.nearest.Given as goal

-- the nearest so far, and then those that are left
abbrev pub invariant-loop-name : goal.invariant-loop-name
invariant-loop-name l =
    fold (nearer l.requested) (option_copied l.best) (drop l.name-index l.known) ≡ fold (nearer l.requested) None l.known
