-- Parts of the definitions under names of their own, for contracts of inner functions and for proofs. Each is what stands
-- in a definition in its place, so none has to be believed.
use Rattle.std.specs.Prelude.{ℕ, Bool, List, ◌++◌, map, Option, slice_get, option_and_then, option_map, bytes_eq, codes, ◌&&◌, nat_eq, None, Some, if◌then◌else◌}
use Rattle.std.specs.List.{list_any}
use Rattle.std.specs.Map.{lookup}
use Rattle.std.specs.Ordering.{is_lt}
use Rattle.wit_values.specs.Version.{version_cmp}
use Rattle.wit_names.specs.declared.package_name.PackageName.{PackageName}
use Rattle.wit_data.specs.declared.interface.Interface.{Interface}
use Rattle.wit_data.specs.declared.types.TypeDef.{TypeDef}
use Rattle.wit_data.specs.declared.world.World.{World}
use Rattle.wit_data.specs.declared.types.TypeDefKind.TheVariants as kind
use Rattle.wit_data.specs.declared.types.Type_.TheVariants as type
use Rattle.wit_elaboration.specs.Entries.{Entry, key_interface}
use Rattle.wit_semver.specs.SemverMerged.{is_replaced, Versioned, SemverMerge, kept_imports, versioned, both, have_one_track, newest_type, types_of_new_entries}
use Rattle.std.specs.Option.{option_map_or}
use Rattle.wit_names.specs.Track.{track_by}
use Rattle.wit_names.specs.declared.track.TrackRule.{TrackRule}
use Rattle.wit_graph_data.specs.declared.graph.Graph.{Graph}

-- an interface of this name in a package of that name, where that has a version
abbrev pub versioned_in : List ℕ → PackageName → Option Versioned
versioned_in name home =
    option_map (λ version. record { name = name; home = home; version = version }) home.version

-- the first is of a smaller version
abbrev pub is_below : Versioned → Versioned → Bool
is_below v w = is_lt (version_cmp v.version w.version)

-- the entry stands under the key of a replaced interface
abbrev pub is_replaced_entry : SemverMerge → Entry → Bool
is_replaced_entry u e = list_any (is_replaced u) (key_interface e.0)

-- the world as it is listed then. Its exports stay, of whatever version: whoever calls them asks for that version
abbrev pub listed_world : SemverMerge → World
listed_world u = record u.world { imports = kept_imports u }

-- the types of an interface
abbrev pub types_of : Interface → List ℕ
types_of interface = map (λ (e : List ℕ × ℕ). e.1) interface.types

-- the name of type t
abbrev pub name_of : List TypeDef → ℕ → Option (List ℕ)
name_of types t = option_and_then (λ (def : TypeDef). def.name) (slice_get types t)

-- the type of this name in interface i
abbrev pub interface_type : List Interface → ℕ → List ℕ → Option ℕ
interface_type interfaces i name =
    option_and_then (λ (interface : Interface). lookup (bytes_eq name) interface.types)
    (slice_get interfaces i)

-- an alias of another type, or the type as it was
abbrev pub retargeted : TypeDef → Option ℕ → TypeDef
retargeted def o = option_map_or (λ t. record def { kind = kind.Type_ (type.Id t) }) o def

-- a type that the newest lacks
abbrev pub missing_text : List ℕ → List ℕ
missing_text name = codes "type `" ++ (name ++ codes "` is missing")

-- functions of one name that disagree
abbrev pub disagreement_text : List ℕ → List ℕ
disagreement_text mismatch = codes "failed to merge interfaces: " ++ mismatch

-- the name of its package, with the track in the place of the version: the same for all on one track
abbrev pub track_package : TrackRule → Versioned → PackageName
track_package rule v = record v.home { version = Some (track_by rule v.version) }

-- is interface j on the track of i, and of a greater version?
abbrev pub is_older_than : TrackRule → Graph → ℕ → ℕ → Bool
is_older_than rule g i j =
    both (λ v w. have_one_track rule v w && is_lt (version_cmp v.version w.version)) (versioned g i)
    (versioned g j)

-- what type t comes to name, where it is of a new entry
abbrev pub new_target : SemverMerge → ℕ → Option ℕ
new_target u t = if list_any (nat_eq t) (types_of_new_entries u) then newest_type u t else None
