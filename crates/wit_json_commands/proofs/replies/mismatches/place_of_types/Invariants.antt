use Rattle.std.proofs.Common.{◌≡◌, map}
use Rattle.wit_json_commands.specs.Mismatches.{type_place}
use Rattle.wit_json_commands.specs.Places.{first_known}
use Rattle.wit_json_commands.proofs.replies.mismatches.place_of_types.Given as goal

-- none so far is known
abbrev pub invariant-loop-name : goal.invariant-loop-name
invariant-loop-name l =
    first_known (map (type_place l.graph l.text) l.name-iterator) ≡ first_known (map (type_place l.graph l.text) l.types)
