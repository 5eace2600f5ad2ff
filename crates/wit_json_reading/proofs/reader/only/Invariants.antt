use Rattle.std.proofs.Common.{◌≡◌, drop, take, map}
use Rattle.json.specs.Value.{members_view, value_view}
use Rattle.wit_json_reading.specs.Reading.{names_from, only}
use Rattle.wit_json_reading.proofs.reader.only.Given as goal

-- the members so far are known, and differ
abbrev pub invariant-loop-index : goal.invariant-loop-index
invariant-loop-index l =
    only (map (λ name. name.now) l.known) (value_view l.fn.value)
    ≡ names_from (map (λ name. name.now) l.known) (map (λ member. member.0.now) (take l.index l.members.items)) (members_view (drop l.index l.members.items))
