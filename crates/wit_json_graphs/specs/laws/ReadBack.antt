-- What is written reads back.
use Rattle.std.specs.Prelude.{◌≡◌, Ok}
use Rattle.wit_data.specs.declared.world.WorldKey.{WorldKey}
use Rattle.wit_data.specs.declared.unresolved.UnresolvedPackage.{UnresolvedPackage}
use Rattle.wit_data.specs.declared.unresolved.UnresolvedPackageGroup.{UnresolvedPackageGroup}
use Rattle.wit_json.specs.Graph.{compact}
use Rattle.wit_json.specs.Groups.{json_of_group}
use Rattle.wit_json.specs.Unresolved.{json_of_unresolved}
use Rattle.wit_json.specs.Whole.{json_of_whole}
use Rattle.wit_json.specs.Worlds.{entry_name}
use Rattle.wit_json_graphs.specs.Resolves.{read_resolve}
use Rattle.wit_json_graphs.specs.declared.resolves.ResolveParts.{ResolveParts}
use Rattle.wit_json_graphs.specs.Writable.{AreWritableParts, IsWritableGroup, IsWritableKey, IsWritablePackage}
use Rattle.wit_json_reading.specs.Documents.{read_from}
use Rattle.wit_json_reading.specs.Groups.{read_group}
use Rattle.wit_json_reading.specs.Packages.{read_package}

-- two entries of a world have two names, so no object has one name twice
abbrev pub EntryNamesDiffer : Type 0
EntryNamesDiffer =
    (k l : WorldKey) → IsWritableKey k → IsWritableKey l → entry_name k ≡ entry_name l → k ≡ l

-- the value that is written of an unresolved package reads as that package
abbrev pub PackagesReadBack : Type 0
PackagesReadBack =
    (p : UnresolvedPackage) → IsWritablePackage p → read_package (json_of_unresolved p) ≡ Ok p

-- so does its text
abbrev pub TextsReadBack : Type 0
TextsReadBack =
    (p : UnresolvedPackage) → IsWritablePackage p
    → read_from read_package (compact (json_of_unresolved p)) ≡ Ok p

-- the value that is written of a group of packages with its files reads as that group
abbrev pub GroupsReadBack : Type 0
GroupsReadBack =
    (group : UnresolvedPackageGroup) → IsWritableGroup group
    → read_group (json_of_group group) ≡ Ok group

-- so does its text
abbrev pub GroupTextsReadBack : Type 0
GroupTextsReadBack =
    (group : UnresolvedPackageGroup) → IsWritableGroup group
    → read_from read_group (compact (json_of_group group)) ≡ Ok group

-- the value that is written of a graph with what stands beside it reads as the parts of that `Resolve`
abbrev pub ResolvesReadBack : Type 0
ResolvesReadBack =
    (parts : ResolveParts) → AreWritableParts parts
    → read_resolve (json_of_whole parts.graph parts.features parts.track_rule parts.source_map)
    ≡ Ok parts
