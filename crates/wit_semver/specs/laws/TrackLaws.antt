-- Laws of semver merging, by whatever rule of tracks.
use Rattle.std.specs.Prelude.{◌≡◌, ◌↔◌, ℕ, true, false, List, None, Some, slice_get, slice_set, Contains}
use Rattle.std.specs.Map.{keys_of}
use Rattle.std.specs.declared.cmp.Ordering.TheVariants.{Greater}
use Rattle.wit_values.specs.Version.{version_cmp}
use Rattle.wit_data.specs.Each.{EachAt, SomeAt}
use Rattle.wit_data.specs.Uses.{alias_target, type_interface_dep}
use Rattle.wit_names.specs.declared.track.TrackRule.{TrackRule}
use Rattle.wit_data.specs.declared.types.TypeDef.{TypeDef}
use Rattle.wit_data.specs.declared.world.World.{World}
use Rattle.wit_data.specs.declared.world.WorldKey.{WorldKey}
use Rattle.wit_elaboration.specs.Elaborated.{Elaborated}
use Rattle.wit_elaboration.specs.Elaboration.{graph_uses}
use Rattle.wit_elaboration.specs.Entries.{keyed_interfaces}
use Rattle.wit_elaboration.specs.laws.KeptByElaboration.{labelled}
use Rattle.wit_elaboration.specs.Valid.{IsValid}
use Rattle.wit_graph_data.specs.declared.graph.Graph.{Graph}
use Rattle.wit_semver.specs.SemverMerged.{IsComplete, types_of_new_entries, semver_merged, semver_merge, with_new_entries, SemverMerge, Versioned, are_on_one_track, imported, is_replaced, newest, versioned, SemverMergeIsAccepted, target_name}
use Rattle.wit_semver.specs.steps.SemverMerged.{Agrees}
use Rattle.wit_semver.specs.laws.Unchanged.{SameButLists, SameButTarget}
use Rattle.wit_semver.specs.steps.Parts.{listed_world, interface_type, new_target}

-- what stands for a replaced interface is an import on its track, which stays, and no import there is of a greater
-- version
pub record IsGreatest (u : SemverMerge) (f n : ℕ) : Type 0 where
  pub is_imported : Contains (imported u) n
  pub on_track : are_on_one_track u.rule u.graph f n ≡ true
  pub stays : is_replaced u n ≡ false
  pub greatest : (j : ℕ) (v w : Versioned) → Contains (imported u) j
      → are_on_one_track u.rule u.graph n j ≡ true
      → versioned u.graph j ≡ Some v → versioned u.graph n ≡ Some w
      → version_cmp v.version w.version ≡ Greater → ⊥

abbrev pub NewestIsGreatest : Type 0
NewestIsGreatest = (u : SemverMerge) (f : ℕ) → is_replaced u f ≡ true → IsGreatest u f (newest u f)

-- a merge of a valid graph against which no cause holds, of world `old` at place w, which becomes `new`
pub record IsSemverMerged (rule : TrackRule) (g : Graph) (w : ℕ) (old new : World) : Type 0 where
  pub valid : IsValid g
  pub there : slice_get g.worlds w ≡ Some old
  pub accepted : SemverMergeIsAccepted rule g w
  pub is : slice_get (semver_merged rule g w).worlds w ≡ Some new

-- the interfaces that the world imports under their own keys are exactly the former ones less the replaced: nothing
-- comes back and nothing new is needed
abbrev pub KeysAreExact : Type 0
KeysAreExact =
    (rule : TrackRule) (g : Graph) (w : ℕ) (old new : World) (j : ℕ)
    → IsSemverMerged rule g w old new
    → Contains (keyed_interfaces new.imports) j
    ↔ (Contains (keyed_interfaces old.imports) j
    × (is_replaced (semver_merge rule g old) j ≡ false))

-- no two of them are on one track
abbrev pub OneOnEachTrack : Type 0
OneOnEachTrack =
    (rule : TrackRule) (g : Graph) (w : ℕ) (old new : World) (i j : ℕ)
    → IsSemverMerged rule g w old new → Contains (keyed_interfaces new.imports) i
    → Contains (keyed_interfaces new.imports) j
    → are_on_one_track rule (semver_merged rule g w) i j ≡ true → i ≡ j

-- the imports under labels stay as they were
abbrev pub LabelsAreKept : Type 0
LabelsAreKept =
    (rule : TrackRule) (g : Graph) (w : ℕ) (old new : World) → IsSemverMerged rule g w old new
    → labelled new.imports ≡ labelled old.imports

-- and so do the keys of the exports
abbrev pub ExportsAreKept : Type 0
ExportsAreKept =
    (rule : TrackRule) (g : Graph) (w : ℕ) (old new : World) (k : WorldKey)
    → IsSemverMerged rule g w old new
    → Contains (keys_of new.exports) k ↔ Contains (keys_of old.exports) k

-- each world is the elaboration of its list: the named one's less the replaced, of each other its former one
abbrev pub WorldsAreElaborated : Type 0
WorldsAreElaborated =
    (rule : TrackRule) (g : Graph) (w : ℕ) (old : World) (v : ℕ) (listed new : World) → IsValid g
    → slice_get g.worlds w ≡ Some old → SemverMergeIsAccepted rule g w
    → slice_get (with_new_entries rule g w).worlds v ≡ Some listed
    → slice_get (semver_merged rule g w).worlds v ≡ Some new
    → Elaborated (semver_merged rule g w).types (graph_uses (semver_merged rule g w)) listed new

-- and the graph stays valid
abbrev pub SemverMergesStayValid : Type 0
SemverMergesStayValid =
    (rule : TrackRule) (g : Graph) (w : ℕ) (old : World) → IsValid g
    → slice_get g.worlds w ≡ Some old → SemverMergeIsAccepted rule g w
    → IsValid (semver_merged rule g w)

-- a second semver merge of the same world by the same rule has no cause against it, and changes nothing
abbrev pub SemverMergesOnce : Type 0
SemverMergesOnce =
    (rule : TrackRule) (g : Graph) (w : ℕ) (old : World) → IsValid g
    → slice_get g.worlds w ≡ Some old → SemverMergeIsAccepted rule g w
    → SemverMergeIsAccepted rule (semver_merged rule g w) w
    × (semver_merged rule (semver_merged rule g w) w ≡ semver_merged rule g w)

-- each type names what it named
abbrev pub RetargetsNone : SemverMerge → Type 0
RetargetsNone u = (t : ℕ) → new_target u t ≡ None

-- where it does, and no function disagrees, no cause holds, and of a valid graph all stays but the imports of the world: the
-- replaced go
abbrev pub SameTypesKeepWorlds : Type 0
SameTypesKeepWorlds =
    (u : SemverMerge) (w : ℕ) → IsValid u.graph → slice_get u.graph.worlds w ≡ Some u.world
    → RetargetsNone u → IsComplete u → Agrees u
    → SemverMergeIsAccepted u.rule u.graph w
    × (semver_merged u.rule u.graph w
    ≡ record u.graph { worlds = slice_set u.graph.worlds w (listed_world u) })

-- everything of a graph is in another at its id: types as they were but for what aliases name, worlds but for their
-- lists, interfaces, packages and their names as they were
pub record KeepsThings (old new : Graph) : Type 0 where
  pub types : EachAt (λ t (def : TypeDef). SomeAt new.types t (SameButTarget def)) old.types
  pub interfaces : new.interfaces ≡ old.interfaces
  pub worlds : EachAt (λ v (world : World). SomeAt new.worlds v (SameButLists world)) old.worlds
  pub packages : new.packages ≡ old.packages
  pub names : new.package_names ≡ old.package_names

-- so it is of any graph whatever
abbrev pub SemverMergedKeep : Type 0
SemverMergedKeep = (rule : TrackRule) (g : Graph) (w : ℕ) → KeepsThings g (semver_merged rule g w)

-- and what an alias of a valid graph comes to name has the name of what it named
abbrev pub AliasesKeepNames : Type 0
AliasesKeepNames =
    (rule : TrackRule) (g : Graph) (w : ℕ) → IsValid g → (t : ℕ)
    → target_name (semver_merged rule g w).types t ≡ target_name g.types t

-- each alias of a new entry that names a type of a replaced interface f, not its own owner, comes to name the type
-- of the newest that has the name of what it named
abbrev pub AliasesNameNewest : Type 0
AliasesNameNewest =
    (u : SemverMerge) (w t f : ℕ) → IsValid u.graph → slice_get u.graph.worlds w ≡ Some u.world
    → SemverMergeIsAccepted u.rule u.graph w
    → Contains (types_of_new_entries u) t → type_interface_dep u.graph.types t ≡ Some f
    → is_replaced u f ≡ true
    → SomeAt (semver_merged u.rule u.graph w).types t (λ (new : TypeDef).
    (name : List ℕ) × (s : ℕ) × (target_name u.graph.types t ≡ Some name)
    × (interface_type u.graph.interfaces (newest u f) name ≡ Some s)
    × (alias_target new.kind ≡ Some s))
