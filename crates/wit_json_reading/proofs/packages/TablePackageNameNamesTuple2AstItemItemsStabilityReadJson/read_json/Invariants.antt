use Rattle.std.proofs.Common.{◌≡◌, drop}
use Rattle.json.specs.Value.{members_view, value_view}
use Rattle.wit_json_reading.specs.Packages.{deps_from, read_deps}
use Rattle.wit_json_reading.proofs.packages.TablePackageNameNamesTuple2AstItemItemsStabilityReadJson.read_json.Given as goal

-- what is named so far, and the members that are left
abbrev pub invariant-loop-member : goal.invariant-loop-member
invariant-loop-member l = read_deps (value_view l.fn.value) ≡ deps_from l.deps (members_view (drop l.member-index l.member-items))
