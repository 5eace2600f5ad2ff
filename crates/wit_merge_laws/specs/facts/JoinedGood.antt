-- The things of two graphs that are one are good, and the lists of its worlds are in order.
use Rattle.std.proofs.Common.{◌≡◌, ℕ, length, Some, slice_get, refl, Contains}
use Rattle.wit_digraph.specs.Relation.{IsAcyclic}
use Rattle.wit_data.specs.Each.{Each}
use Rattle.wit_data.specs.Entries.{ExportsAreAllowed, ImportsAreAllowed}
use Rattle.wit_data.specs.Ownership.{AliasesNamed}
use Rattle.wit_data.specs.declared.world.World.{World}
use Rattle.wit_elaboration.specs.Elaboration.{graph_uses}
use Rattle.wit_elaboration.specs.Imported.{HasTransitiveConflict}
use Rattle.wit_elaboration.specs.Sound.{HasSoundEntries}
use Rattle.wit_elaboration.specs.facts.SoundFacts.{lists_in_order}
use Rattle.wit_elaboration.specs.Valid.{IsValid}
use Rattle.wit_graph_data.specs.declared.graph.Graph.{Graph}
use Rattle.wit_graph_theory.specs.facts.CoveredIsValid.{IsGoodWhere-of_covered}
use Rattle.wit_graph_theory.specs.Cut.{IsGoodWhere}
use Rattle.wit_remap_spec.specs.steps.Kept.{everything}
use Rattle.wit_graph_theory.specs.Operations.{merge_sources}
use Rattle.wit_graph_theory.specs.steps.Sources.{Source}
use Rattle.wit_merge_spec.specs.Matches.{GraphMerge}
use Rattle.wit_merge_spec.specs.Merged.{merge_maps, joined_graph}
use Rattle.wit_merge_spec.specs.Cause.{HasNoMismatch}
use Rattle.wit_merge_laws.specs.facts.WorldsStand.{joined_covered, joined_stands, sources_good}

-- in two graphs as one no interface uses itself, and no world is in conflict
pub record MergeCanElaborate (m : GraphMerge) : Type 0 where
  pub acyclic : IsAcyclic (graph_uses (joined_graph m))
  pub clear : (world : World) → Contains (joined_graph m).worlds world
      → HasTransitiveConflict (graph_uses (joined_graph m)) world.exports → ⊥

module _ (m : GraphMerge) (valid : IsValid m.graph) (valid_other : IsValid m.other) (one : HasNoMismatch m) where
  abbrev g : Graph
  g = joined_graph m

  abbrev at : ℕ → Source
  at = merge_sources m.graph m.other (merge_maps m)

  -- the things of the two as one are good
  pub joined_good : IsGoodWhere everything g.types g.interfaces g.worlds
  joined_good = IsGoodWhere-of_covered at g (sources_good m valid valid_other one) (joined_stands m valid valid_other one) everything (joined_covered m valid valid_other one)

  pub aliases : Each (AliasesNamed g.types g.interfaces) g.types
  aliases t def there = (joined_good.types_are t def there refl).alias

  -- so are the lists of its worlds
  module _ (w' : ℕ) (listed : World) (there : slice_get g.worlds w' ≡ Some listed) where
    pub listed_imports : ImportsAreAllowed g.interfaces g.types w' listed
    listed_imports i e on = (joined_good.imports_are w' listed there refl i e on).is

    pub listed_exports : ExportsAreAllowed g.interfaces listed
    listed_exports i e on = (joined_good.exports_are w' listed there refl i e on).is

    pub in_order : HasSoundEntries g.types (length (graph_uses g)) listed.imports listed.exports
    in_order = lists_in_order g.types g.interfaces aliases w' listed listed_imports listed_exports
