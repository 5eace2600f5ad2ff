use Rattle.std.proofs.Common.{◌≡◌, drop}
use Rattle.json.specs.Value.{items_view, value_view}
use Rattle.wit_json_reading.specs.Groups.{sources_from, read_sources}
use Rattle.wit_json_reading.proofs.groups.SourceMapReadJson.read_json.Given as goal

-- the files so far, and the items that are left
abbrev pub invariant-loop-item : goal.invariant-loop-item
invariant-loop-item l = read_sources (value_view l.fn.value) ≡ sources_from l.sources (items_view (drop l.item-index l.item-items))
