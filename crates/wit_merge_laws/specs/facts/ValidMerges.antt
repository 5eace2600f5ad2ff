-- What merging makes of two valid graphs against which no cause holds is valid: what is shown of its types, interfaces,
-- worlds and packages, joined.
use Rattle.std.proofs.Common.{None, refl, subst}
use Rattle.wit_digraph.specs.Relation.{IsAcyclic}
use Rattle.wit_data.specs.declared.world.World.{World}
use Rattle.wit_elaboration.specs.Elaborated.{Elaborated}
use Rattle.wit_elaboration.specs.Elaboration.{graph_uses}
use Rattle.wit_elaboration.specs.Valid.{IsValid}
use Rattle.wit_graph_data.specs.declared.error_kind.ResolveErrorKind.TheVariants.{PackageCycle}
use Rattle.wit_graph_data.specs.declared.graph.Graph.{Graph}
use Rattle.wit_elaboration.specs.AllElaborated.{elaborated_world}
use Rattle.wit_graph_theory.specs.facts.CoveredIsValid.{IsValid-of_covered}
use Rattle.wit_graph_theory.specs.facts.Good.{IsGoodAsAWhole}
use Rattle.wit_graph_theory.specs.facts.LawsOfElaboration.{LawsOfElaboration}
use Rattle.wit_graph_theory.specs.facts.ListFacts.{from_map}
use Rattle.wit_graph_theory.specs.Operations.{merge_sources}
use Rattle.wit_graph_theory.specs.facts.PackageCycleFacts.{acyclic_packages, packages_stay_acyclic}
use Rattle.wit_graph_theory.specs.laws.PackageCycles.{AreElaboratedFrom}
use Rattle.wit_merge_spec.specs.Cause.{HasNoMismatch, MergeIsAccepted, package_cycle_6}
use Rattle.wit_merge_spec.specs.Matches.{GraphMerge}
use Rattle.wit_merge_spec.specs.Merged.{merge_maps, joined_graph, merged}
use Rattle.wit_merge_laws.specs.facts.JoinedGood.{MergeCanElaborate, aliases, listed_exports, listed_imports}
use Rattle.wit_merge_laws.specs.laws.MergingLaws.{MergesStayValid}
use Rattle.wit_merge_laws.specs.facts.NoCycles.{are_one, can_elaborate, joined_types_acyclic}
use Rattle.wit_merge_laws.specs.facts.OnceStand.{stand_once}
use Rattle.wit_merge_laws.specs.facts.PackagesStand.{good_names, good_tables, interfaces_in_tables}
use Rattle.wit_merge_laws.specs.facts.MergedWorlds.{is_elaborated, merged_canonical, merged_covered, merged_stands}
use Rattle.wit_merge_laws.specs.facts.UsesListed.{joined_lists_uses}
use Rattle.wit_merge_laws.specs.facts.WorldsStand.{sources_good}
use Rattle.wit_elaboration.specs.steps.Parts.{graph_package_uses}

module _ (laws : LawsOfElaboration) (m : GraphMerge) (valid : IsValid m.graph) (valid_other : IsValid m.other) (can : MergeIsAccepted m) where
  abbrev g : Graph
  g = joined_graph m

  abbrev one : HasNoMismatch m
  one = are_one m can

  elaborates : MergeCanElaborate m
  elaborates = can_elaborate m valid valid_other can laws.refused

  -- no package depends on itself, with worlds as they are listed
  listed_packages : IsAcyclic (graph_package_uses g)
  listed_packages =
      acyclic_packages g.types g.interfaces g.packages (interfaces_in_tables m valid valid_other) g.worlds (λ p q home there cycle.
      can (PackageCycle None home.name)
      (package_cycle_6 home.name one (record { p = p; q = q; on_cycle = cycle; there = home; is = there; home_is = refl })))

  are_elaborated : AreElaboratedFrom g.types g.interfaces g.packages g.worlds (merged m).worlds
  are_elaborated = record {
    aliases = aliases m valid valid_other one;
    uses = elaborates.acyclic;
    tables = interfaces_in_tables m valid valid_other;
    worlds = λ w new there.
        let from = from_map (elaborated_world g) g.worlds w new there in
        record {
          old = from.0;
          at = from.1;
          imports = listed_imports m valid valid_other one w from.0 from.1;
          exports = listed_exports m valid valid_other one w from.0 from.1;
          lists_uses = joined_lists_uses laws.least m valid valid_other one w from.0 from.1;
          elaborated = subst (λ (x : World). Elaborated g.types (graph_uses g) from.0 x) from.2 (is_elaborated laws m valid valid_other one elaborates w from.0 from.1);
        };
  }

  -- nor with elaborated ones
  packages_acyclic : IsAcyclic (graph_package_uses (merged m))
  packages_acyclic = packages_stay_acyclic laws.entries g.types g.interfaces g.packages g.worlds (merged m).worlds are_elaborated listed_packages

  pub merged_valid : IsValid (merged m)
  merged_valid =
      let whole : IsGoodAsAWhole (merged m) = record {
        package_names = good_names m valid valid_other;
        once = stand_once laws m valid valid_other one elaborates;
        no_cycles = record { uses = elaborates.acyclic; types = joined_types_acyclic m valid valid_other one; packages = packages_acyclic };
        canonical = merged_canonical laws m valid valid_other one elaborates;
      } in
      IsValid-of_covered (merge_sources m.graph m.other (merge_maps m)) (merged m) (sources_good m valid valid_other one) (merged_stands laws m valid valid_other one elaborates)
      (merged_covered laws m valid valid_other one elaborates) (good_tables m valid valid_other) whole

pub valid_merges : LawsOfElaboration → MergesStayValid
valid_merges laws m valid valid_other can = merged_valid laws m valid valid_other can
