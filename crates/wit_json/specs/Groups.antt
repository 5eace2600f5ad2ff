-- Groups of unresolved packages as JSON.
use Rattle.std.specs.Prelude.{◌++◌, codes}
use Rattle.json.specs.Json.{Json}
use Rattle.wit_data.specs.declared.unresolved.UnresolvedPackageGroup.{UnresolvedPackageGroup}
use Rattle.wit_json.specs.Unresolved.{json_of_unresolved}
use Rattle.wit_json.specs.Values.{list_of, member, object}
use Rattle.wit_json.specs.Whole.{json_of_sources}

-- the main package, those nested in its files, and the files in which their spans are positions
abbrev pub json_of_group : UnresolvedPackageGroup → Json
json_of_group group =
    object (member (codes "main") (json_of_unresolved group.main) ++ member (codes "nested")
    (list_of json_of_unresolved group.nested)
    ++ member (codes "sources") (json_of_sources group.source_map))
