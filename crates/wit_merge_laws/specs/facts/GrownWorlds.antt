-- A merge that leaves what the graph has as it is: each world that was there is its own elaboration and in no conflict, so
-- only those that come are elaborated.
use Rattle.std.proofs.Common.{◌≡◌, ◌∙◌, inl, inr, ℕ, List, ◌++◌, map, Some, slice_get, refl, sym, ap, subst, Contains}
use Rattle.std.proofs.lemmas.List.{map-append}
use Rattle.std.proofs.lemmas.List.Elements.{Contains-append_cases, Contains-append_right}
use Rattle.wit_digraph.specs.Cycles.{IsOnCycle}
use Rattle.wit_digraph.specs.Relation.{IsAcyclic}
use Rattle.wit_data.specs.declared.world.World.{World}
use Rattle.wit_elaboration.specs.AllElaborated.{DependsOnItself, HasWorldInConflict, RefersToItself, UsesItself}
use Rattle.wit_elaboration.specs.Elaborated.{with_elaborated_lists}
use Rattle.wit_elaboration.specs.Elaboration.{elaborated_world, graph_uses}
use Rattle.wit_elaboration.specs.steps.Elaboration.{IsRefusedWorld}
use Rattle.wit_elaboration.specs.Imported.{HasTransitiveConflict}
use Rattle.wit_elaboration.specs.Valid.{IsValid}
use Rattle.wit_graph_data.specs.declared.error_kind.ResolveErrorKind.{ResolveErrorKind}
use Rattle.wit_graph_data.specs.declared.error_kind.ResolveErrorKind.TheVariants.{InvalidTransitiveDependency}
use Rattle.wit_graph_data.specs.declared.graph.Graph.{Graph}
use Rattle.wit_graph_theory.specs.facts.LawsOfElaboration.{LawsOfElaboration}
use Rattle.wit_graph_theory.specs.facts.ListFacts.{place_of}
use Rattle.wit_link_spec.specs.facts.CanonicalStays.{canonical_longer}
use Rattle.wit_merge_spec.specs.Cause.{HasNoMismatch, IsMergeCause, MergeIsAccepted, borrow_in_result_15, conflict_4, interface_cycle_22, merge_mismatch_24, mismatch_8, offset_overflow_27, package_cycle_6}
use Rattle.wit_merge_spec.specs.Matches.{GraphMerge}
use Rattle.wit_merge_spec.specs.Merged.{joined_graph, merged}
use Rattle.wit_merge_spec.specs.steps.Leaving.{LeavesGraph, grown_graph, new_worlds, with_new_worlds}
use Rattle.wit_merge_laws.specs.facts.GrownPackages.{grown_packages_acyclic}
use Rattle.wit_merge_laws.specs.facts.GrownUses.{grown_uses_acyclic, is_grown, more_interfaces, more_types, types_are, uses_are, valid_items}
use Rattle.wit_merge_laws.specs.facts.NoCycles.{joined_types_acyclic}
use Rattle.wit_merge_laws.specs.facts.NothingFacts.{map_same}
use Rattle.wit_merge_laws.specs.laws.GrowingLaws.{GrowsAlone, GrowthIsAccepted, NothingNewIsCyclic, OldWorldsStay, MergesGrow, WorldStays}
use Rattle.wit_elaboration.specs.steps.Parts.{graph_package_uses}

pub no_new_cycles : NothingNewIsCyclic
no_new_cycles m valid valid_other one leaves = record {
  types = joined_types_acyclic m valid valid_other one;
  uses = grown_uses_acyclic m valid valid_other one leaves;
  packages = grown_packages_acyclic m valid valid_other one leaves;
}

-- what is acyclic has no cycle
none_on : (rows : List (List ℕ)) → IsAcyclic rows → (p q : ℕ) → IsOnCycle rows p q → ⊥
none_on rows acyclic p q cycle = acyclic.no_cycle p q cycle.leads_back.0 (cycle.is_used, cycle.leads_back.1)

module _ (laws : LawsOfElaboration) (m : GraphMerge) (valid : IsValid m.graph) (valid_other : IsValid m.other) (one : HasNoMismatch m) (leaves : LeavesGraph m) where
  abbrev joined : Graph
  joined = joined_graph m

  abbrev uses : List (List ℕ)
  uses = graph_uses joined

  stays : (w : ℕ) (world : World) → slice_get m.graph.worlds w ≡ Some world → WorldStays m world
  stays w world at =
      let acyclic = subst IsAcyclic (uses_are m leaves) (grown_uses_acyclic m valid valid_other one leaves) in
      let longer = canonical_longer m.graph (valid_items m.graph valid) (more_types m) (more_interfaces m) laws.local valid.no_cycles.uses acyclic w world at (valid.canonical w world at) in
      record {
        is = (λ k. with_elaborated_lists (types_are m leaves k) (uses_are m leaves k) world) ∙ sym longer.world_is;
        clear = subst (λ (rows : List (List ℕ)). HasTransitiveConflict rows world.exports → ⊥) (sym (uses_are m leaves)) longer.no_conflict;
      }

  -- ---- the worlds of the two as one

  worlds_are : joined.worlds ≡ m.graph.worlds ++ new_worlds m
  worlds_are = ap (λ (l : List World). l ++ new_worlds m) leaves.worlds

  merged_is : merged m ≡ record (grown_graph m) { worlds = m.graph.worlds ++ map (elaborated_world joined) (new_worlds m) }
  merged_is = λ k. record (is_grown m leaves k) { worlds = elaborated k }
    where
      elaborated : map (elaborated_world joined) joined.worlds ≡ m.graph.worlds ++ map (elaborated_world joined) (new_worlds m)
      elaborated =
          ap (map (elaborated_world joined)) worlds_are
          ∙ (map-append (elaborated_world joined) m.graph.worlds (new_worlds m)
          ∙ ap (λ (l : List World). l ++ map (elaborated_world joined) (new_worlds m)) (map_same (elaborated_world joined) m.graph.worlds (λ w world at. (stays w world at).is)))

  no_use : (message : List ℕ) → UsesItself joined message → ⊥
  no_use message is = none_on uses (grown_uses_acyclic m valid valid_other one leaves) is.i is.j is.on_cycle

  no_dependency : (home : _) → DependsOnItself joined home → ⊥
  no_dependency home is = none_on (graph_package_uses joined) (grown_packages_acyclic m valid valid_other one leaves) is.p is.q is.on_cycle

  no_type_cycle : (message : List ℕ) → RefersToItself joined message → ⊥
  no_type_cycle message is = (joined_types_acyclic m valid valid_other one).no_cycle is.t is.u is.on_cycle.leads_back.0 (is.on_cycle.is_used, is.on_cycle.leads_back.1)

  conflict : (span : _) (name : List ℕ) → HasWorldInConflict joined span name → IsRefusedWorld (with_new_worlds m) (InvalidTransitiveDependency span name)
  conflict span name is = record {
    world = is.world;
    there = elim (Contains-append_cases m.graph.worlds (new_worlds m) is.world (subst (λ (l : List World). Contains l is.world) worlds_are is.there)) [
      | inl old ↦ let place = place_of m.graph.worlds is.world old in absurd ((stays place.0 is.world place.1).clear is.conflict)
      | inr new ↦ new
    ];
    conflict = is.conflict;
    name = name;
    name_is = is.name_is;
    error_is = ap (λ (s : _). InvalidTransitiveDependency s name) is.span_is;
  }

  refused : (error : ResolveErrorKind) → IsRefusedWorld (with_new_worlds m) error → IsMergeCause m error
  refused error is = subst (IsMergeCause m) (sym is.error_is) (conflict_4 is.world.span is.name one (record {
    interfaces = no_use;
    types = no_type_cycle;
    world = is.world;
    there = subst (λ (l : List World). Contains l is.world) (sym worlds_are) (Contains-append_right m.graph.worlds (new_worlds m) is.world is.there);
    conflict = is.conflict;
    name_is = is.name_is;
    span_is = refl;
  }))

  grows_alone : GrowsAlone m
  grows_alone = record { merged_is = merged_is; no_use = no_use; no_dependency = no_dependency; conflict = conflict; refused = refused }

pub old_worlds : LawsOfElaboration → OldWorldsStay
old_worlds laws m world valid valid_other one leaves has = let place = place_of m.graph.worlds world has in stays laws m valid valid_other one leaves place.0 world place.1

pub merges_grow : LawsOfElaboration → MergesGrow
merges_grow laws m valid valid_other one leaves = grows_alone laws m valid valid_other one leaves

-- ---- no cause holds

pub accepted_growth : LawsOfElaboration → GrowthIsAccepted
accepted_growth laws m valid valid_other one leaves can = by
  where
    alone : GrowsAlone m
    alone = grows_alone laws m valid valid_other one leaves

    by : MergeIsAccepted m
    by error (conflict_4 span name same is) = let refused = alone.conflict span name is in can.worlds refused.world refused.there refused.conflict
    by error (package_cycle_6 home same is) = alone.no_dependency home is
    by error (mismatch_8 from into joined apart) = can.stabilities from into (record { joined = joined; apart = apart })
    by error (borrow_in_result_15 message same is) = can.results message is
    by error (interface_cycle_22 message same is) = alone.no_use message is
    by error (merge_mismatch_24 message differ) = one message differ
    by error (offset_overflow_27 from to known past) = can.spans (record { from = from; to = to; known = known; past = past })
