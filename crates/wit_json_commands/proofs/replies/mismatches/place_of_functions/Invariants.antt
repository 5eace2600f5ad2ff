use Rattle.std.proofs.Common.{◌≡◌, map}
use Rattle.wit_json_commands.specs.Mismatches.{function_place}
use Rattle.wit_json_commands.specs.Places.{first_known}
use Rattle.wit_json_commands.proofs.replies.mismatches.place_of_functions.Given as goal

-- none so far is known
abbrev pub invariant-loop-name : goal.invariant-loop-name
invariant-loop-name l =
    first_known (map (function_place l.text) l.name-iterator) ≡ first_known (map (function_place l.text) l.functions)
