use Rattle.std.proofs.Common.{◌≡◌, drop}
use Rattle.json.specs.Value.{members_view, value_view}
use Rattle.wit_json_reading.specs.Tables.{named_from, read_named}
use Rattle.wit_json_reading.proofs.tables.NamesReadJson.read_json.Given as goal

-- the entries so far, and the members that are left
abbrev pub invariant-loop-member : goal.invariant-loop-member
invariant-loop-member g l =
    read_named g.T.ReadJson.reading (value_view l.fn.value) ≡ named_from g.T.ReadJson.reading l.names (members_view (drop l.member-index l.member-items))
