-- What a command does, and runs of commands. A command changes the state and answers, or refuses with an
-- error that has a reason and then leaves all but the sources as it was. Want of memory is no reason, but
-- may always be answered where memory is taken. Only their own commands change features and the rule of tracks.
use Rattle.std.specs.Prelude.{◌≡◌, ◌⊎◌, ◌≤◌, ◌<◌, ◌^◌, ℕ, Bool, true, List, [], ◌∷◌, ◌++◌, map, Option, None, Some, if◌then◌else◌, bytes_eq}
use Rattle.std.specs.List.{AllByRecursion, list_any}
use Rattle.std.specs.Map.{lookup}
use Rattle.wit_sources.specs.SourceMap.{Sources, with_sources}
use Rattle.wit_data.specs.Shape.{IsGroupShaped}
use Rattle.wit_names.specs.PackageName.{same_package}
use Rattle.wit_names.specs.declared.package_name.PackageName.{PackageName}
use Rattle.wit_data.specs.declared.unresolved.UnresolvedPackageGroup.{UnresolvedPackageGroup}
use Rattle.wit_commands.specs.declared.change.Change.{Change}
use Rattle.wit_commands.specs.declared.change.Change.TheVariants as change
use Rattle.wit_graph_data.specs.Error.{NoCause}
use Rattle.wit_graph_data.specs.declared.features.Features.{Features}
use Rattle.wit_graph_data.specs.declared.graph.Graph.{Graph}
use Rattle.wit_graph_data.specs.declared.error_kind.ResolveErrorKind.{ResolveErrorKind}
use Rattle.wit_elaboration.specs.Entries.{Entry}
use Rattle.wit_graph_data.specs.IdText.{key_text}
use Rattle.wit_graph_data.specs.declared.error_kind.ResolveErrorKind.TheVariants.{OffsetOverflow, OutOfMemory}
use Rattle.wit_link.specs.Appending.{AreAdded, IsGroupsCause, files_end, packages_of}
use Rattle.wit_link.specs.GroupOrder.{AreSorted, IsSortCause, Unresolved}
use Rattle.wit_resolve_graph.specs.Merging.{HasSourcesAfter, Merges, RefusesMerge}
use Rattle.wit_graph_data.specs.Named.{world_named}
use Rattle.wit_resolve_graph.specs.State.{State}
use Rattle.wit_semver.specs.SemverMerged.{semver_merged, IsSemverMergeCause}
use Rattle.wit_transform.specs.Transformed.{IsExportizeCause, IsImportizeCause, imports_at, exportized, importized, transformed}
use Rattle.wit_resolve_graph.specs.declared.command.Command.{Command}
use Rattle.wit_resolve_graph.specs.declared.command.Command.TheVariants.{AddFeature, Exportize, Importize, Merge, PushGroups, Semver, SetAllFeatures, SetTrackRule}
use Rattle.wit_resolve_graph.specs.declared.command.Reply.{Reply}
use Rattle.wit_resolve_graph.specs.declared.command.Reply.TheVariants.{Done, Pushed, Merged, NoWorld, Refused}
use Rattle.std.specs.Option.{option_map_or}

-- ---- features

-- the features with one more, which is there once
abbrev pub with_feature : Features → List ℕ → Features
with_feature features name =
    record features {
      names = if list_any (bytes_eq name) features.names then features.names
          else features.names ++ name ∷ [];
    }

-- ---- groups

-- the sources with the files of groups after them
abbrev pub with_files : Sources → List UnresolvedPackageGroup → Sources
with_files sources [] = sources
with_files sources (group ∷ groups) = with_files (with_sources sources group.source_map) groups

-- groups are added: their packages in order, dependencies first, their files at the end, main group first,
-- and the answer is the id of the main group's main package; no cause holds against their order, against
-- the end of their files or against a package
pub record PushesGroups (old : State) (main : UnresolvedPackageGroup)
    (deps : List UnresolvedPackageGroup) (id : ℕ) (new : State) : Type 0 where
  pub order : List ℕ
  pub sorted : List Unresolved
  pub ids : List ℕ
  pub sortable : NoCause (IsSortCause (packages_of old.source_map.end (main ∷ deps)))
  pub fits : files_end old.source_map.end (main ∷ deps) < 2 ^ 32
  pub are_sorted : AreSorted (packages_of old.source_map.end (main ∷ deps)) order sorted
  pub are_pushed : AreAdded old.features old.graph sorted new.graph ids
  pub id_is : lookup (same_package main.main.name) new.graph.package_names ≡ Some id
  pub features : new.features ≡ old.features
  pub rule : new.track_rule ≡ old.track_rule
  pub files : new.source_map ≡ with_files old.source_map (main ∷ deps)

-- the addition of groups is refused with this error
pub record RefusesGroups (old : State) (main : UnresolvedPackageGroup)
    (deps : List UnresolvedPackageGroup) (error : ResolveErrorKind) (new : State) : Type 0 where
  pub cause : (error ≡ OutOfMemory)
      ⊎ IsGroupsCause old.features old.graph old.source_map.end (main ∷ deps) error
  -- where their files end past 4294967295, no other cause is told
  pub past_end : 2 ^ 32 ≤ files_end old.source_map.end (main ∷ deps)
      → (error ≡ OutOfMemory) ⊎ (error ≡ OffsetOverflow)
  pub graph : new.graph ≡ old.graph
  pub features : new.features ≡ old.features
  pub rule : new.track_rule ≡ old.track_rule
  pub files : HasSourcesAfter error old.source_map (with_files old.source_map (main ∷ deps))
      new.source_map

-- ---- commands on a world

-- the graph is changed at the world of a name in a package of a name: no cause holds against it, and all else is as
-- it was
pub record Transforms (old : State) (home : PackageName) (world : List ℕ) (changed : ℕ → Graph)
    (IsCauseOf : ℕ → ResolveErrorKind → Type 0) (new : State) : Type 0 where
  pub w : ℕ
  pub there : world_named old.graph home world ≡ Some w
  pub accepted : NoCause (IsCauseOf w)
  pub is_changed : new ≡ record old { graph = changed w }

-- a change is refused, and nothing has changed
pub record RefusesTransform (old : State) (home : PackageName) (world : List ℕ)
    (IsCauseOf : ℕ → ResolveErrorKind → Type 0) (error : ResolveErrorKind)
    (new : State) : Type 0 where
  pub w : ℕ
  pub there : world_named old.graph home world ≡ Some w
  pub cause : (error ≡ OutOfMemory) ⊎ IsCauseOf w error
  pub same : new ≡ old

-- for each import of world w, whether what names its key is listed; without a list all are
abbrev pub answers_at : State → Option (List (List ℕ)) → ℕ → List Bool
answers_at state keys w =
    map (λ (e : Entry).
    option_map_or (λ (listed : List (List ℕ)).
    list_any (bytes_eq (key_text state.graph.packages state.graph.interfaces e.0))
    listed) keys true) (imports_at state.graph w)

-- ---- steps

-- from old, the command may be answered so and lead to new
abbrev pub Step : State → Command → Reply → State → Type 0
Step old (AddFeature name) Done new = new ≡ record old { features = with_feature old.features name }
Step old (AddFeature name) (Refused error) new = (error ≡ OutOfMemory) × (new ≡ old)
Step old (AddFeature name) _ new = ⊥
Step old (SetAllFeatures all) Done new =
    new ≡ record old { features = record old.features { all = all } }
Step old (SetAllFeatures all) _ new = ⊥
Step old (SetTrackRule rule) Done new = new ≡ record old { track_rule = rule }
Step old (SetTrackRule rule) _ new = ⊥
Step old (PushGroups main deps) (Pushed id) new = PushesGroups old main deps id new
Step old (PushGroups main deps) (Refused error) new = RefusesGroups old main deps error new
Step old (PushGroups main deps) _ new = ⊥
Step old (Merge other) (Merged remap) new = Merges old other remap new
Step old (Merge other) (Refused error) new = RefusesMerge old other error new
Step old (Merge other) _ new = ⊥
Step old (Importize home world out) NoWorld new =
    (world_named old.graph home world ≡ None) × (new ≡ old)
Step old (Importize home world out) Done new =
    Transforms old home world (λ w. transformed old.graph w (importized out))
    (λ w. IsImportizeCause old.graph w out) new
Step old (Importize home world out) (Refused error) new =
    RefusesTransform old home world (λ w. IsImportizeCause old.graph w out) error new
Step old (Importize home world out) _ new = ⊥
Step old (Exportize home world out keys) NoWorld new =
    (world_named old.graph home world ≡ None) × (new ≡ old)
Step old (Exportize home world out keys) Done new =
    Transforms old home world
    (λ w. transformed old.graph w (exportized (answers_at old keys w) out))
    (λ w. IsExportizeCause old.graph w (answers_at old keys w) out) new
Step old (Exportize home world out keys) (Refused error) new =
    RefusesTransform old home world (λ w. IsExportizeCause old.graph w (answers_at old keys w) out)
    error new
Step old (Exportize home world out keys) _ new = ⊥
Step old (Semver home world) NoWorld new = (world_named old.graph home world ≡ None) × (new ≡ old)
Step old (Semver home world) Done new =
    Transforms old home world (semver_merged old.track_rule old.graph)
    (IsSemverMergeCause old.track_rule old.graph) new
Step old (Semver home world) (Refused error) new =
    RefusesTransform old home world (IsSemverMergeCause old.track_rule old.graph) error new
Step old (Semver home world) _ new = ⊥

-- one step after another, with one reply to each command
abbrev pub Run : State → List Command → List Reply → State → Type 0
Run old [] [] new = new ≡ old
Run old (command ∷ commands) (reply ∷ replies) new =
    (mid : State) × Step old command reply mid × Run mid commands replies new
Run old [] (reply ∷ replies) new = ⊥
Run old (command ∷ commands) [] new = ⊥

-- groups that are pushed have their shape; nothing else has one
abbrev pub IsCommandShaped : Command → Type 0
IsCommandShaped (PushGroups main deps) = AllByRecursion IsGroupShaped (main ∷ deps)
IsCommandShaped _ = Unit {0}

-- the command that a change is
abbrev pub command_of : Change → Command
command_of (change.AddFeature name) = AddFeature name
command_of (change.SetAllFeatures all) = SetAllFeatures all
command_of (change.SetTrackRule rule) = SetTrackRule rule
command_of (change.PushGroups main deps) = PushGroups main deps
command_of (change.Importize home world out) = Importize home world out
command_of (change.Exportize home world out keys) = Exportize home world out keys
command_of (change.Semver home world) = Semver home world
