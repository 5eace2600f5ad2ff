use Rattle.std.proofs.Common.{◌≡◌, drop, map}
use Rattle.wit_json_commands.specs.Mismatches.{newer_place}
use Rattle.wit_json_commands.specs.Places.{first_known}
use Rattle.wit_json_commands.proofs.replies.mismatches.place_of_newer.Given as goal

-- none so far is known
abbrev pub invariant-loop-new : goal.invariant-loop-new
invariant-loop-new l =
    first_known (map (newer_place l.graph l.newer l.old l.text) (drop l.new-index l.graph.interfaces)) ≡ first_known (map (newer_place l.graph l.newer l.old l.text) l.graph.interfaces)
