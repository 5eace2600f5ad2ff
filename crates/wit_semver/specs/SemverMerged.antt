-- What semver merging makes of a graph, and why it is refused: a function of the graph, the world and the rule of tracks.
-- The world lists its replaced imports no more; what its other entries use of replaced interfaces they use of the newest;
-- then every world is elaborated. All else is as it was.
--
-- Why: what is linked into one world was built against different versions of one interface, so the world imports each of
-- them, and a host has to offer all. A greater version on the track of another has what that has, so one import is
-- enough, and all that is linked then speaks of the same types.
-- Source: `merge_world_imports_based_on_semver` and `update_interface_dep_of_type` of wit-parser 0.263.0.
use Rattle.std.specs.Prelude.{ℕ, Bool, not, ◌&&◌, List, [], ◌∷◌, ◌++◌, map, filter, find, nat_eq, Option, None, Some, slice_get, slice_set, option_and_then, if◌then◌else◌, flat_map, option_map, bytes_eq, false, ◌≡◌, true, codes, unwrap_or, Contains}
use Rattle.std.specs.List.{enumerate_from, list_any}
use Rattle.std.specs.Option.{option_map_or}
use Rattle.std.specs.Ordering.{is_lt}
use Rattle.wit_values.specs.Version.{Parts, version_cmp}
use Rattle.wit_names.specs.PackageName.{same_package}
use Rattle.wit_names.specs.Track.{track_by}
use Rattle.wit_names.specs.declared.package_name.PackageName.{PackageName}
use Rattle.wit_names.specs.declared.track.TrackRule.{TrackRule}
use Rattle.wit_data.specs.Uses.{alias_target, type_interface_dep}
use Rattle.wit_data.specs.declared.interface.Interface.{Interface}
use Rattle.wit_data.specs.declared.types.TypeDef.{TypeDef}
use Rattle.wit_data.specs.declared.world.World.{World}
use Rattle.wit_data.specs.declared.types.TypeDefKind.TheVariants as kind
use Rattle.wit_data.specs.declared.types.Type_.TheVariants as type
use Rattle.wit_data.specs.declared.world.WorldItem.TheVariants as item
use Rattle.wit_data.specs.declared.world.WorldKey.TheVariants as key
use Rattle.wit_graph_data.specs.Error.{NoCause}
use Rattle.wit_graph_data.specs.IdText.{key_text}
use Rattle.wit_graph_data.specs.declared.cause.Cause.TheVariants as cause
use Rattle.wit_graph_data.specs.declared.error_kind.ResolveErrorKind.{ResolveErrorKind}
use Rattle.wit_graph_data.specs.declared.error_kind.ResolveErrorKind.TheVariants.{InvalidTransitiveDependency, PackageCycle, Semantic}
use Rattle.wit_graph_data.specs.declared.graph.Graph.{Graph}
use Rattle.wit_graph_data.specs.declared.graph.Package.{Package}
use Rattle.wit_elaboration.specs.AllElaborated.{all_elaborated, DependsOnItself, HasWorldInConflict, RefersToItself, UsesItself}
use Rattle.wit_elaboration.specs.Entries.{Entry, key_interface, keyed_interfaces}
use Rattle.wit_remap_spec.specs.FunctionMismatch.{HaveFunctionMismatch}
use Rattle.wit_graph_data.specs.Named.{interface_type}

-- ---- tracks
--
-- Interfaces on one track are versions of one interface that can stand for each other, the greater for the less: SemVer
-- 2.0.0 and the rule of tracks tell of which versions that is so. Of a package without a version nothing tells it, and
-- interfaces of two names are two interfaces.

-- an interface of a package with a version, by names: its own, that of its package, and the version
pub record Versioned : Type 0 where
  pub name : List ℕ
  pub home : PackageName
  pub version : Parts

-- the name, package and version of an interface; none where it has no name or its package no version
abbrev pub versioned_of : List Package → Interface → Option Versioned
versioned_of packages interface =
    option_and_then (λ name. option_and_then (λ p. option_and_then (λ (home : Package).
    option_map (λ version. record { name = name; home = home.name; version = version })
    home.name.version) (slice_get packages p)) interface.package) interface.name

-- the name, package and version of interface i
abbrev pub versioned : Graph → ℕ → Option Versioned
versioned g i = option_and_then (versioned_of g.packages) (slice_get g.interfaces i)

-- are two on one track? They have one name, and their packages one name with the track in the place of the version
abbrev pub have_one_track : TrackRule → Versioned → Versioned → Bool
have_one_track rule v w =
    same_package (record v.home { version = Some (track_by rule v.version) })
    (record w.home { version = Some (track_by rule w.version) }) && bytes_eq v.name w.name

-- what a test tells of two interfaces, where both are of packages with versions
abbrev pub both : (Versioned → Versioned → Bool) → Option Versioned → Option Versioned → Bool
both test None other = false
both test (Some v) other = option_map_or (test v) other false

-- are interfaces i and j on one track?
abbrev pub are_on_one_track : TrackRule → Graph → ℕ → ℕ → Bool
are_on_one_track rule g i j = both (have_one_track rule) (versioned g i) (versioned g j)

-- ---- which imports are replaced

-- a world of a graph, whose imports are merged by a rule of tracks
pub record SemverMerge : Type 0 where
  pub rule : TrackRule
  pub graph : Graph
  pub world : World

abbrev pub semver_merge : TrackRule → Graph → World → SemverMerge
semver_merge rule g world = record { rule = rule; graph = g; world = world }

-- the interfaces that the world imports under their own keys. What is imported under a label is a thing of its own, which
-- is given under that label and nowhere else: nothing stands for it, and it for nothing
abbrev pub imported : SemverMerge → List ℕ
imported u = keyed_interfaces u.world.imports

-- is interface i one of them, of which another is of a greater version on its track?
abbrev pub is_replaced : SemverMerge → ℕ → Bool
is_replaced u i =
    list_any (nat_eq i) (imported u)
    && list_any (λ j.
    both (λ v w. have_one_track u.rule v w && is_lt (version_cmp v.version w.version))
    (versioned u.graph i) (versioned u.graph j)) (imported u)

-- the greatest of them on the track of interface i: the first there that isn't replaced, in a valid graph the only one,
-- since no two interfaces have one name and one version. Without any it is i itself, which nothing reads, since where i is
-- replaced there is one
abbrev pub newest : SemverMerge → ℕ → ℕ
newest u i =
    unwrap_or
    (find (λ j. are_on_one_track u.rule u.graph i j && not (is_replaced u j)) (imported u)) i

-- the imports that stay: all but those under the keys of replaced interfaces
abbrev pub kept_imports : SemverMerge → List Entry
kept_imports u =
    filter (λ (e : Entry). not (list_any (is_replaced u) (key_interface e.0))) u.world.imports

-- ---- what aliases name
--
--     foo:x@0.2.0, @0.2.1, @0.3.0    interfaces 0, 1, 2: x { type t }    types 0, 1, 2
--     foo:main                       interface 3: y { use x@0.2.0.{t} }  type 3 = type 0
--
--     the world imports 0, 3, 1, 2: interface 1 is the newest on the track of 0, which is replaced
--     y stays and uses 0 by type 3, which names t there: it comes to name t of 1, so type 3 = type 1
--
-- (`merged` and `of_alias` of `ExamplesOfSemverMerges` in examples_merge)
--
-- An alias that went on naming a type of a replaced interface would have elaboration import that one again. Those in the
-- interfaces that the world lists get new targets, and no others: a valid world lists all that it reaches, so these are all
-- that lead it there, and what else the graph has other worlds use, which keep their versions.

-- the types of an entry: those of its interface, or the type that it is
abbrev pub entry_types : List Interface → Entry → List ℕ
entry_types interfaces (k, item.Interface i stability docs span external_id) =
    option_map_or (λ (interface : Interface). map (λ (e : List ℕ × ℕ). e.1) interface.types)
    (slice_get interfaces i) []
entry_types interfaces (k, item.Function f) = []
entry_types interfaces (k, item.Type_ t span) = t ∷ []

-- the types that may come to name others: those of the imports that stay and of the exports
abbrev pub types_of_new_entries : SemverMerge → List ℕ
types_of_new_entries u =
    flat_map (entry_types u.graph.interfaces) (kept_imports u ++ u.world.exports)

-- the replaced interface that type t uses: of which it is an alias of a type, and not its own owner
abbrev pub replaced_use : SemverMerge → ℕ → Option ℕ
replaced_use u t =
    option_and_then (λ f. if is_replaced u f then Some f else None)
    (type_interface_dep u.graph.types t)

-- the name of the type that type t names as an alias
abbrev pub target_name : List TypeDef → ℕ → Option (List ℕ)
target_name types t =
    option_and_then (λ (def : TypeDef).
    option_and_then
    (λ s. option_and_then (λ (named : TypeDef). named.name) (slice_get types s))
    (alias_target def.kind)) (slice_get types t)

-- where type t uses a replaced interface, the newest's type of the name of what t names: names are what two versions have
-- in common
abbrev pub newest_type : SemverMerge → ℕ → Option ℕ
newest_type u t =
    option_and_then (λ f.
    option_and_then (λ name. interface_type u.graph name (newest u f))
    (target_name u.graph.types t)) (replaced_use u t)

-- the types: one of these as an alias of the newest's type, where there is one; each other as it was
abbrev pub types_with_new_targets : SemverMerge → List TypeDef
types_with_new_targets u =
    map (λ (e : ℕ × TypeDef). option_map_or (λ t. record e.1 { kind = kind.Type_ (type.Id t) })
    (if list_any (nat_eq e.0) (types_of_new_entries u) then newest_type u e.0 else None) e.1)
    (enumerate_from 0 u.graph.types)

-- ---- the graph

-- the graph with the world at its place listing the imports that stay, and its uses following. Its exports stay, of
-- whatever version: whoever calls them asks for that version
abbrev pub with_new_entries_at : SemverMerge → ℕ → Graph
with_new_entries_at u w =
    record u.graph {
      types = types_with_new_targets u;
      worlds = slice_set u.graph.worlds w (record u.world { imports = kept_imports u });
    }

-- the graph with its new entries in world w, and the aliases at their new targets; as it was where there is no such world
abbrev pub with_new_entries : TrackRule → Graph → ℕ → Graph
with_new_entries rule g w =
    option_map_or (λ (world : World). with_new_entries_at (semver_merge rule g world) w)
    (slice_get g.worlds w) g

-- the graph after semver merging of world w. Every world is elaborated, since an interface with new targets may stand in
-- others, too, which import then what it uses now
abbrev pub semver_merged : TrackRule → Graph → ℕ → Graph
semver_merged rule g w = all_elaborated (with_new_entries rule g w)

-- ---- why it is refused
--
-- 25: the newest breaks what a compatible version keeps, so what uses the older one couldn't use it. A type is asked for
-- where an alias names one, and functions are compared where both versions have one of the name: no interface names a
-- function of another, so nothing in the graph misses one that the newest lacks.
-- 4, 6, 22, 23: the newest may use what the older one didn't, so what comes to use it may come to depend on itself, or the
-- exports of a world be in conflict. They read the graph with its new entries, which there isn't where a type is missing
-- (25); functions that disagree (25) are a cause beside all others. Of several causes any may be told.
-- Source: `merge_world_imports_based_on_semver` of wit-parser 0.263.0; that a missing type is refused, and its text, are
-- rules of this project.

-- that interface `old` can't be replaced by interface `new`, for this reason
abbrev pub semver_merge_text : Graph → ℕ → ℕ → List ℕ → List ℕ
semver_merge_text g old new reason =
    codes "failed to upgrade `"
    ++ (key_text g.packages g.interfaces (key.Interface old)
    ++ (codes "` to `"
    ++ (key_text g.packages g.interfaces (key.Interface new)
    ++ (codes "`, was this semver-compatible update not semver compatible?: " ++ reason))))

-- 25: type t uses a replaced interface, and the newest has no type of the name of what t names
pub record LacksType (u : SemverMerge) (t : ℕ) (message : List ℕ) : Type 0 where
  pub f : ℕ
  pub name : List ℕ
  pub uses : replaced_use u t ≡ Some f
  pub named : target_name u.graph.types t ≡ Some name
  pub absent : interface_type u.graph name (newest u f) ≡ None
  pub message_is : message
      ≡ semver_merge_text u.graph f (newest u f) (codes "type `" ++ (name ++ codes "` is missing"))

-- 25: interface f is replaced, and disagrees with the newest in a function that both have
pub record Disagrees (u : SemverMerge) (f : ℕ) (message : List ℕ) : Type 0 where
  pub old : Interface
  pub new : Interface
  pub mismatch : List ℕ
  pub replaced : is_replaced u f ≡ true
  pub old_is : slice_get u.graph.interfaces f ≡ Some old
  pub new_is : slice_get u.graph.interfaces (newest u f) ≡ Some new
  pub have : HaveFunctionMismatch old new mismatch
  pub message_is : message
      ≡ semver_merge_text u.graph f (newest u f) (codes "failed to merge interfaces: " ++ mismatch)

-- no type is missing: there is a graph with new entries
abbrev pub IsComplete : SemverMerge → Type 0
IsComplete u =
    (t : ℕ) (message : List ℕ) → Contains (types_of_new_entries u) t → LacksType u t message → ⊥

-- why the imports of the world at place w can't be merged by tracks, by number
pub data SemverMergeCause (u : SemverMerge) (w : ℕ) : ResolveErrorKind → Type 0 where
  conflict_4 : (span : Option (ℕ × ℕ)) (name : List ℕ) → IsComplete u
      → HasWorldInConflict (with_new_entries_at u w) span name
      → SemverMergeCause u w (InvalidTransitiveDependency span name)
  package_cycle_6 : (home : PackageName) → IsComplete u
      → DependsOnItself (with_new_entries_at u w) home
      → SemverMergeCause u w (PackageCycle None home)
  interface_cycle_22 : (message : List ℕ) → IsComplete u
      → UsesItself (with_new_entries_at u w) message
      → SemverMergeCause u w (Semantic None message cause.InterfaceCycle)
  type_cycle_23 : (message : List ℕ) → IsComplete u
      → RefersToItself (with_new_entries_at u w) message
      → SemverMergeCause u w (Semantic None message cause.TypeCycle)
  type_missing_25 : (t : ℕ) (message : List ℕ) → Contains (types_of_new_entries u) t
      → LacksType u t message → SemverMergeCause u w (Semantic None message cause.UpgradeMismatch)
  functions_disagree_25 : (f : ℕ) (message : List ℕ) → Disagrees u f message
      → SemverMergeCause u w (Semantic None message cause.UpgradeMismatch)

-- a cause of the semver merging of world w
abbrev pub IsSemverMergeCause : TrackRule → Graph → ℕ → ResolveErrorKind → Type 0
IsSemverMergeCause rule g w error =
    (world : World) × (slice_get g.worlds w ≡ Some world)
    × SemverMergeCause (semver_merge rule g world) w error

-- no cause holds against it
abbrev pub SemverMergeIsAccepted : TrackRule → Graph → ℕ → Type 0
SemverMergeIsAccepted rule g w = NoCause (IsSemverMergeCause rule g w)
