-- What semver merging leaves of a world's imports, at a `Resolve` with whatever rule of tracks is in force.
use Rattle.std.specs.Prelude.{◌≡◌, ◌↔◌, ◌<◌, ℕ, false, List, Some, length, slice_get, Contains}
use Rattle.wit_names.specs.declared.package_name.PackageName.{PackageName}
use Rattle.wit_data.specs.declared.world.World.{World}
use Rattle.wit_elaboration.specs.Entries.{keyed_interfaces}
use Rattle.wit_graph_data.specs.declared.graph.Graph.{Graph}
use Rattle.wit_graph_data.specs.Named.{world_named}
use Rattle.wit_resolve_graph.specs.State.{State}
use Rattle.wit_resolve_graph.specs.Step.{Step}
use Rattle.wit_resolve_graph.specs.declared.command.Command.TheVariants.{Semver}
use Rattle.wit_resolve_graph.specs.declared.command.Reply.TheVariants.{Done}
use Rattle.wit_semver.specs.SemverMerged.{semver_merged, is_replaced, semver_merge, SemverMergeIsAccepted}

-- world w is in both graphs, and the interfaces that it imports under their own keys in the new one are exactly the
-- former ones less the replaced
pub record ImportsLessReplaced (old : State) (w : ℕ) (new : Graph) : Type 0 where
  pub before : World
  pub was : slice_get old.graph.worlds w ≡ Some before
  pub after : World
  pub is : slice_get new.worlds w ≡ Some after
  pub exact : (j : ℕ) → Contains (keyed_interfaces after.imports) j
      ↔ (Contains (keyed_interfaces before.imports) j
      × (is_replaced (semver_merge old.track_rule old.graph before) j ≡ false))

-- so it is of the world that a command names, wherever the command is carried out
abbrev pub CommandIsExact : State → Type 0
CommandIsExact old =
    (home : PackageName) (name : List ℕ) (new : State) → Step old (Semver home name) Done new
    → (w : ℕ) × (world_named old.graph home name ≡ Some w) × ImportsLessReplaced old w new.graph

-- and of each world against whose semver merge no cause holds
abbrev pub CallIsExact : State → Type 0
CallIsExact old =
    (w : ℕ) → w < length old.graph.worlds → SemverMergeIsAccepted old.track_rule old.graph w
    → ImportsLessReplaced old w (semver_merged old.track_rule old.graph w)
