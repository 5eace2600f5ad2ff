use Rattle.std.proofs.Common.{◌≡◌, drop, map}
use Rattle.wit_json_commands.specs.Mismatches.{older_place}
use Rattle.wit_json_commands.specs.Places.{first_known}
use Rattle.wit_json_commands.proofs.replies.mismatches.upgrade_place.Given as goal

-- none so far is known
abbrev pub invariant-loop-old : goal.invariant-loop-old
invariant-loop-old l =
    first_known (map (older_place l.graph l.newer l.message) (drop l.old-index l.graph.interfaces)) ≡ first_known (map (older_place l.graph l.newer l.message) l.graph.interfaces)
