-- What the steps of semver merging hand on: which interface replaces which, and what types name then.
use Rattle.std.specs.Prelude.{◌≡◌, ℕ, Bool, false, true, List, map, nat_eq, slice_set, Option, None, Some, Contains, slice_get, if◌then◌else◌, option_map}
use Rattle.std.specs.List.{enumerate_from, list_any}
use Rattle.std.specs.Map.{lookup}
use Rattle.std.specs.Option.{option_map_or}
use Rattle.wit_names.specs.declared.track.TrackRule.{TrackRule}
use Rattle.wit_data.specs.declared.types.TypeDef.{TypeDef}
use Rattle.wit_data.specs.declared.world.World.{World}
use Rattle.wit_elaboration.specs.Entries.{Entry}
use Rattle.wit_graph_data.specs.declared.graph.Graph.{Graph}
use Rattle.wit_semver.specs.SemverMerged.{IsComplete, LacksType, SemverMerge, Versioned, both, is_replaced, kept_imports, newest, newest_type, types_of_new_entries, semver_merge, versioned}
use Rattle.wit_semver.specs.steps.SemverMerged.{Agrees}
use Rattle.wit_semver.specs.contracts.tracks.TrackKeyPartialEq.TheImpl.{eq-value}
use Rattle.wit_semver.specs.declared.merging.NewEntries.{NewEntries}
use Rattle.wit_semver.specs.declared.tracks.TrackKey.{TrackKey}
use Rattle.wit_semver.specs.declared.tracks.VersionedInterface.{VersionedInterface}
use Rattle.wit_semver.specs.declared.semver_merge_plan.SemverMergePlan.{SemverMergePlan}
use Rattle.wit_semver.specs.steps.Parts.{is_below, retargeted, track_package}

-- an interface with what is told of it
abbrev pub told : VersionedInterface → Versioned
told v = record { name = v.name.now; home = v.home.now; version = v.version.now }

-- the key of its track
abbrev pub key_of : TrackRule → Versioned → TrackKey
key_of rule v = record { home = track_package rule v; interface = v.name }

-- the key of the track of interface i
abbrev pub key_at : TrackRule → Graph → ℕ → Option TrackKey
key_at rule g i = option_map (key_of rule) (versioned g i)

-- what replaces interface i
abbrev pub replacement : SemverMerge → ℕ → Option ℕ
replacement u i = if is_replaced u i then Some (newest u i) else None

-- a table tells what replaces which interface
abbrev pub AreReplacements : SemverMerge → List (ℕ × ℕ) → Type 0
AreReplacements u found = (i : ℕ) → lookup (nat_eq i) found ≡ replacement u i

-- ---- the greatest version on each track

-- two keys are of one track
abbrev pub same_track : TrackKey → TrackKey → Bool
same_track = eq-value.it

-- interface i is of a smaller version than j
abbrev pub is_smaller : Graph → ℕ → ℕ → Bool
is_smaller g i j = both is_below (versioned g i) (versioned g j)

-- it is of a greater version than what is known, if anything is
abbrev pub is_newer : Graph → Option ℕ → Versioned → Bool
is_newer g None v = true
is_newer g (Some j) v = option_map_or (λ w. is_below w v) (versioned g j) true

-- a table tells of each track on which some interfaces are one of them, of which none is of a greater version
pub record IsNewestTable (rule : TrackRule) (g : Graph) (ids : List ℕ)
    (table : List (TrackKey × ℕ)) : Type 0 where
  pub from : (k : TrackKey) (j : ℕ) → lookup (same_track k) table ≡ Some j
      → Contains ids j × (key_at rule g j ≡ Some k)
  pub into : (i : ℕ) (k : TrackKey) → Contains ids i → key_at rule g i ≡ Some k
      → (j : ℕ) × (lookup (same_track k) table ≡ Some j) × (is_smaller g j i ≡ false)

-- ---- what ids lead to

-- a table tells what f gives of some ids, and nothing of others
abbrev pub IsFilled : (ℕ → Option ℕ) → List ℕ → List (ℕ × ℕ) → Type 0
IsFilled f ids found =
    (i : ℕ) → lookup (nat_eq i) found ≡ (if list_any (nat_eq i) ids then f i else None)

-- ---- a world whose imports are to be merged

-- what is told of it, as an upgrade
abbrev pub semver_merge_of : SemverMergePlan → SemverMerge
semver_merge_of a = semver_merge a.rule a.graph.now a.world.now

-- it tells what replaces which interface
abbrev pub IsSemverMergeReady : SemverMergePlan → Type 0
IsSemverMergeReady a = AreReplacements (semver_merge_of a) a.replaced

-- one of some types uses a replaced interface and lacks its target in the newest
abbrev pub LackTypes : SemverMerge → List ℕ → List ℕ → Type 0
LackTypes u ids message = (t : ℕ) × Contains ids t × LacksType u t message

-- ---- the graph that is made

-- types that name what they are told to
abbrev pub with_targets : List TypeDef → List (ℕ × ℕ) → List TypeDef
with_targets types targets =
    map (λ (e : ℕ × TypeDef). retargeted e.1 (lookup (nat_eq e.0) targets))
    (enumerate_from 0 types)

-- the graph, of which world w lists these imports
abbrev pub with_imports : Graph → ℕ → List Entry → Graph
with_imports g w imports =
    record g {
      worlds = option_map_or
          (λ (world : World). slice_set g.worlds w (record world { imports = imports }))
          (slice_get g.worlds w) g.worlds;
    }

-- and such types
abbrev pub with_lists : Graph → ℕ → List Entry → List (ℕ × ℕ) → Graph
with_lists g w imports targets =
    record (with_imports g w imports) { types = with_targets g.types targets }

-- these are the new entries of a world whose imports are to be merged
pub record HasNewEntries (u : SemverMerge) (entries : NewEntries) : Type 0 where
  pub imports_are : entries.imports ≡ kept_imports u
  pub types_are : entries.types ≡ types_of_new_entries u
  pub targets_are : IsFilled (newest_type u) (types_of_new_entries u) entries.targets

-- nothing of what reads the graph as it was holds against merging the imports of world w, and this is what
-- it lists then and what types name then
pub record AreNewEntries (rule : TrackRule) (g : Graph) (w : ℕ) (imports : List Entry)
    (targets : List (ℕ × ℕ)) : Type 0 where
  pub world : World
  pub there : slice_get g.worlds w ≡ Some world
  pub complete : IsComplete (semver_merge rule g world)
  pub agree : Agrees (semver_merge rule g world)
  pub imports_are : imports ≡ kept_imports (semver_merge rule g world)
  pub targets_are : IsFilled (newest_type (semver_merge rule g world))
      (types_of_new_entries (semver_merge rule g world)) targets
