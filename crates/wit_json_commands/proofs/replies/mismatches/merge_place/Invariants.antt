use Rattle.std.proofs.Common.{◌≡◌, drop, map}
use Rattle.wit_json_commands.specs.Mismatches.{place_in_package}
use Rattle.wit_json_commands.specs.Places.{first_known}
use Rattle.wit_json_commands.proofs.replies.mismatches.merge_place.Given as goal

-- none so far is known
abbrev pub invariant-loop-home : goal.invariant-loop-home
invariant-loop-home l =
    first_known (map (place_in_package l.graph l.message) (drop l.home-index l.graph.packages)) ≡ first_known (map (place_in_package l.graph l.message) l.graph.packages)
