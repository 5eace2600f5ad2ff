-- Interfaces that are one but for the version.
use Rattle.std.specs.Prelude.{◌&&◌, ℕ, Bool, false, List, Option, Some, None, bytes_eq, option_and_then, option_map, slice_get}
use Rattle.std.specs.List.{list_any}
use Rattle.wit_data.specs.declared.interface.Interface.{Interface}
use Rattle.wit_graph_data.specs.declared.graph.Graph.{Graph}
use Rattle.wit_graph_data.specs.declared.graph.Package.{Package}
use Rattle.wit_names.specs.Track.{track_by}
use Rattle.wit_names.specs.declared.package_name.PackageName.{PackageName}
use Rattle.wit_names.specs.declared.track.TrackRule.{TrackRule}
use Rattle.wit_values.specs.Version.{Parts, version_eq}

-- the name of the package of interface i, and its own, where it has both
abbrev pub full_name : Graph → ℕ → Option (PackageName × List ℕ)
full_name g i =
    option_and_then (λ (interface : Interface).
    option_and_then (λ p.
    option_and_then (λ name.
    option_map (λ (owner : Package). (owner.name, name)) (slice_get g.packages p))
    interface.name) interface.«package») (slice_get g.interfaces i)

-- both versions are there and stand on one track
abbrev pub stand_on_one_track : TrackRule → Option Parts → Option Parts → Bool
stand_on_one_track rule (Some v) (Some w) = version_eq (track_by rule v) (track_by rule w)
stand_on_one_track rule (Some v) None = false
stand_on_one_track rule None w = false

-- two packages have one namespace and one name
abbrev pub are_of_one_base : PackageName → PackageName → Bool
are_of_one_base p q = bytes_eq p.namespace q.namespace && bytes_eq p.name q.name

-- two interfaces of these names are one but for the version, and their versions stand on one track
abbrev pub are_versions_by_name : TrackRule → Option (PackageName × List ℕ)
    → Option (PackageName × List ℕ) → Bool
are_versions_by_name rule (Some a) (Some b) =
    (bytes_eq a.1 b.1 && are_of_one_base a.0 b.0) && stand_on_one_track rule a.0.version b.0.version
are_versions_by_name rule (Some a) None = false
are_versions_by_name rule None b = false

-- so interfaces i and j
abbrev pub are_versions_of_one : TrackRule → Graph → ℕ → ℕ → Bool
are_versions_of_one rule g i j = are_versions_by_name rule (full_name g i) (full_name g j)

-- interface i is so with one of some
abbrev pub is_version_of_any : TrackRule → Graph → List ℕ → ℕ → Bool
is_version_of_any rule g some i = list_any (are_versions_of_one rule g i) some
