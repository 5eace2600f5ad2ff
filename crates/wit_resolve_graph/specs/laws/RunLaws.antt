-- What every run keeps.
use Rattle.std.specs.Prelude.{◌≡◌, ℕ, suc, List, [], ◌∷◌, ◌++◌}
use Rattle.wit_data.specs.Each.{Each, EachAt, SomeAt}
use Rattle.wit_data.specs.declared.interface.Interface.{Interface}
use Rattle.wit_names.specs.declared.package_name.PackageName.{PackageName}
use Rattle.wit_names.specs.declared.track.TrackRule.{TrackRule}
use Rattle.wit_data.specs.declared.types.TypeDef.{TypeDef}
use Rattle.wit_data.specs.declared.unresolved.UnresolvedPackageGroup.{UnresolvedPackageGroup}
use Rattle.wit_data.specs.declared.world.World.{World}
use Rattle.wit_graph_data.specs.declared.graph.Graph.{Graph}
use Rattle.wit_graph_data.specs.declared.graph.Package.{Package}
use Rattle.wit_merge_spec.specs.facts.Unchanged.{SameHome, SameInterface, SamePackage}
use Rattle.wit_semver.specs.laws.Unchanged.{SameKind}
use Rattle.wit_semver.specs.SemverMerged.{semver_merged}
use Rattle.wit_link_spec.specs.Addition.{Addition}
use Rattle.wit_link.specs.Appending.{IsAdded}
use Rattle.wit_merge_spec.specs.Matches.{GraphMerge}
use Rattle.wit_merge_spec.specs.Merged.{merged}
use Rattle.wit_transform.specs.Transformed.{WorldLists, transformed}
use Rattle.wit_resolve_graph.specs.Sources.{PushesAnswer}
use Rattle.wit_resolve_graph.specs.State.{State}
use Rattle.wit_resolve_graph.specs.Step.{PushesGroups, Run}
use Rattle.wit_resolve_graph.specs.declared.command.Command.{Command}
use Rattle.wit_resolve_graph.specs.declared.command.Command.TheVariants.{Merge}
use Rattle.wit_resolve_graph.specs.declared.command.Reply.{Reply}

-- all of a type but its stability, which a merge joins, and what it names as an alias, which semver merging changes
pub record KeepsType (old new : TypeDef) : Type 0 where
  pub rest : new ≡ record old { kind = new.kind; stability = new.stability }
  pub kind : SameKind old.kind new.kind

-- everything of a graph is in another at its id: types as they were but for these, interfaces with what they had, worlds
-- of their packages (a transformed world has another name and other lists), packages under their names with their interfaces
pub record Keeps (old new : Graph) : Type 0 where
  pub types : EachAt (λ t (def : TypeDef). SomeAt new.types t (KeepsType def)) old.types
  pub interfaces : EachAt
      (λ i (interface : Interface). SomeAt new.interfaces i (SameInterface interface))
      old.interfaces
  pub worlds : EachAt (λ w (world : World). SomeAt new.worlds w (SameHome world)) old.worlds
  pub packages : EachAt (λ p (home : Package). SomeAt new.packages p (SamePackage home))
      old.packages
  pub names : (more : List (PackageName × ℕ)) × (new.package_names ≡ old.package_names ++ more)

-- what was there before a run is there after it, with the same ids
abbrev pub RunsKeep : Type 0
RunsKeep =
    (old new : State) (commands : List Command) (replies : List Reply)
    → Run old commands replies new → Keeps old.graph new.graph

-- ---- what single calls keep: what was there before is there after it, with the same ids

-- a package, or groups of packages, are added, or a source is parsed and its packages are added
abbrev pub AdditionsKeep : Type 0
AdditionsKeep = (a : Addition) (new : Graph) (id : ℕ) → IsAdded a new id → Keeps a.graph new

abbrev pub GroupsKeep : Type 0
GroupsKeep =
    (old new : State) (main : UnresolvedPackageGroup) (deps : List UnresolvedPackageGroup) (id : ℕ)
    → PushesGroups old main deps id new → Keeps old.graph new.graph

abbrev pub SourcesKeep : Type 0
SourcesKeep =
    (old new : State) (group : UnresolvedPackageGroup) (id : ℕ) → PushesAnswer old group id new
    → Keeps old.graph new.graph

-- a world is transformed, whatever a filter answers
abbrev pub TransformationsKeep : Type 0
TransformationsKeep =
    (g : Graph) (w : ℕ) (change : World → WorldLists) → Keeps g (transformed g w change)

-- another graph is merged into it, or the imports of a world are merged by a rule of tracks
abbrev pub MergesKeep : Type 0
MergesKeep = (m : GraphMerge) → Keeps m.graph (merged m)

abbrev pub SemverMergesKeep : Type 0
SemverMergesKeep = (rule : TrackRule) (g : Graph) (w : ℕ) → Keeps g (semver_merged rule g w)

-- ---- the order of the names of packages

-- packages under their names, with the ids from n on
abbrev pub numbered : ℕ → List Package → List (PackageName × ℕ)
numbered n [] = []
numbered n (home ∷ homes) = (home.name, n) ∷ numbered (suc n) homes

-- the names stand in the order of the packages
abbrev pub HasNamesInOrder : Graph → Type 0
HasNamesInOrder g = g.package_names ≡ numbered 0 g.packages

abbrev pub StaysInOrder : Graph → Graph → Type 0
StaysInOrder old new = HasNamesInOrder old → HasNamesInOrder new

-- so does another graph that a command brings
abbrev pub BringsOrder : Command → Type 0
BringsOrder (Merge other) = HasNamesInOrder other.graph
BringsOrder _ = Unit {0}

-- a run leaves the names in order
abbrev pub RunsStayInOrder : Type 0
RunsStayInOrder =
    (old new : State) (commands : List Command) (replies : List Reply) → Each BringsOrder commands
    → Run old commands replies new → StaysInOrder old.graph new.graph

-- so do single calls
abbrev pub AdditionsStayInOrder : Type 0
AdditionsStayInOrder =
    (a : Addition) (new : Graph) (id : ℕ) → IsAdded a new id → StaysInOrder a.graph new

abbrev pub GroupsStayInOrder : Type 0
GroupsStayInOrder =
    (old new : State) (main : UnresolvedPackageGroup) (deps : List UnresolvedPackageGroup) (id : ℕ)
    → PushesGroups old main deps id new → StaysInOrder old.graph new.graph

abbrev pub SourcesStayInOrder : Type 0
SourcesStayInOrder =
    (old new : State) (group : UnresolvedPackageGroup) (id : ℕ)
    → PushesAnswer old group id new → StaysInOrder old.graph new.graph

abbrev pub TransformationsStayInOrder : Type 0
TransformationsStayInOrder =
    (g : Graph) (w : ℕ) (change : World → WorldLists) → StaysInOrder g (transformed g w change)

abbrev pub MergesStayInOrder : Type 0
MergesStayInOrder = (m : GraphMerge) → HasNamesInOrder m.other → StaysInOrder m.graph (merged m)

abbrev pub SemverMergesStayInOrder : Type 0
SemverMergesStayInOrder =
    (rule : TrackRule) (g : Graph) (w : ℕ) → StaysInOrder g (semver_merged rule g w)
