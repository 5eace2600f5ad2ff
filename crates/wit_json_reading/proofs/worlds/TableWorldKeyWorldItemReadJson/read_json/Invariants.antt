use Rattle.std.proofs.Common.{◌≡◌, drop}
use Rattle.json.specs.Value.{members_view, value_view}
use Rattle.wit_json_reading.specs.Worlds.{entries_from, read_entries}
use Rattle.wit_json_reading.proofs.worlds.TableWorldKeyWorldItemReadJson.read_json.Given as goal

-- the entries so far, and the members that are left
abbrev pub invariant-loop-member : goal.invariant-loop-member
invariant-loop-member l = read_entries (value_view l.fn.value) ≡ entries_from l.entries (members_view (drop l.member-index l.member-items))
