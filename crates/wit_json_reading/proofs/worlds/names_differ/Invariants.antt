use Rattle.std.proofs.Common.{◌≡◌, [], drop}
use Rattle.json.specs.Value.{members_view}
use Rattle.wit_json_reading.specs.Worlds.{names_differ}
use Rattle.wit_json_reading.proofs.worlds.names_differ.Given as goal

-- the names so far, and the members that are left
abbrev pub invariant-loop-member : goal.invariant-loop-member
invariant-loop-member l = names_differ [] (members_view l.fn.members) ≡ names_differ l.names (members_view (drop l.member-index l.members))
