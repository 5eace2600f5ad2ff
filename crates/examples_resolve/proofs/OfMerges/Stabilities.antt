-- The examples of stabilities.
use Rattle.std.proofs.Common.{◌≡◌, false, true, refl, ap, lit<}
use Rattle.std.specs.Prelude.{codes}
use Rattle.wit_values.specs.facts.Lists.{differ}
use Rattle.wit_digraph.specs.PostOrder.{post_order, post_order_within}
use Rattle.wit_data.specs.declared.stability.Stability.{Stability}
use Rattle.wit_graph_data.specs.declared.error_kind.ResolveErrorKind.TheVariants.{StabilityMismatch}
use Rattle.wit_graph_data.specs.declared.graph.Graph.{Graph}
use Rattle.wit_graph_theory.specs.examples.TestFacts.{feature_of}
use Rattle.wit_link_spec.specs.Gates.{OptionalSpan}
use Rattle.wit_remap_spec.specs.Joined.{Disagree}
use Rattle.wit_merge_spec.specs.Cause.{AreJoined, IsMergeCause}
use Rattle.wit_merge_spec.specs.Cause as merging
use Rattle.wit_merge_spec.specs.Matches.{GraphMerge}
use Rattle.wit_merge_spec.specs.Structure.{structure, structure_within}
use Rattle.examples_resolve.proofs.OfMerges.Passing.{GatesJoin, can_merge, joined_accepted}
use Rattle.examples_resolve.specs.merge.Graphs.{gate_f, gate_g, merge_of_graphs}
use Rattle.examples_resolve.specs.merge.Stabilities.{Disagrees, DisagreesNowhere, ExamplesOfStabilities}
use Rattle.wit_merge_spec.specs.steps.Parts.{StabilitiesMismatch}

other_feature : gate_g ≡ gate_f → ⊥
other_feature same = differ (codes "g") (codes "f") refl (ap feature_of same)

-- the two gates disagree
pub gates_apart : Disagree gate_g gate_f
gates_apart = record { from_known = λ same. cc; into_known = λ same. cc; differ = other_feature }

-- where they are joined 8 is told
pub disagreeing : (g other : Graph) → AreJoined (merge_of_graphs g other) gate_g gate_f → Disagrees g other
disagreeing g other joined = merging.mismatch_8 gate_g gate_f joined gates_apart

of_mismatch : (m : GraphMerge) (span : OptionalSpan) (from into : Stability) → IsMergeCause m (StabilityMismatch span from into) → StabilitiesMismatch m from into
of_mismatch m _ _ _ (merging.mismatch_8 from into joined apart) = record { joined = joined; apart = apart }

-- where all are joined it isn't
pub nowhere : (g other : Graph) → GatesJoin (merge_of_graphs g other) → DisagreesNowhere g other
nowhere g other all span from into c = joined_accepted (merge_of_graphs g other) all from into (of_mismatch (merge_of_graphs g other) span from into c)

pub stabilities : ExamplesOfStabilities
unfolding post_order post_order_within structure structure_within
stabilities = record {
  interfaces = disagreeing _ _ (merging.interfaces (record { x = 0; from = _; x' = 0; into = _; from_is = refl; matched = refl; into_is = refl }));
  same_interface = nowhere _ _ (record { types = refl; interfaces = refl; worlds = refl });
  other_interface = nowhere _ _ (record { types = refl; interfaces = refl; worlds = refl });
  interface_without = nowhere _ _ (record { types = refl; interfaces = refl; worlds = refl });
  interface_with = nowhere _ _ (record { types = refl; interfaces = refl; worlds = refl });
  worlds = disagreeing _ _ (merging.worlds (record { x = 0; from = _; x' = 0; into = _; from_is = refl; matched = refl; into_is = refl }));
  same_world = nowhere _ _ (record { types = refl; interfaces = refl; worlds = refl });
  other_world = nowhere _ _ (record { types = refl; interfaces = refl; worlds = refl });
  imports = disagreeing _ _ (merging.entries (record { x = 0; from = _; x' = 0; into = _; from_is = refl; matched = refl; into_is = refl }) false 0 0 _ _ refl (_, _, _, (0, lit< tt, refl)) (_, _, _, (0, lit< tt, refl)));
  exports = disagreeing _ _ (merging.entries (record { x = 0; from = _; x' = 0; into = _; from_is = refl; matched = refl; into_is = refl }) true 0 0 _ _ refl (_, _, _, (0, lit< tt, refl)) (_, _, _, (0, lit< tt, refl)));
  same_import = nowhere _ _ (record { types = refl; interfaces = refl; worlds = refl });
  under_a_label = nowhere _ _ (record { types = refl; interfaces = refl; worlds = refl });
  functions = nowhere _ _ (record { types = refl; interfaces = refl; worlds = refl });
  interface_part_is_active = refl;
  interface_keeps = refl;
  world_part_is_active = refl;
  import_is_active = refl;
  label_keeps = refl;
  function_keeps = refl;
  interface_taken = can_merge _ (record { interfaces = refl; worlds = refl; types = refl; rank = λ i. i; uses = refl; packages = refl; exports = refl; gates = record { types = refl; interfaces = refl; worlds = refl }; results = refl; spans = refl });
  interface_kept = can_merge _ (record { interfaces = refl; worlds = refl; types = refl; rank = λ i. i; uses = refl; packages = refl; exports = refl; gates = record { types = refl; interfaces = refl; worlds = refl }; results = refl; spans = refl });
  world_taken = can_merge _ (record { interfaces = refl; worlds = refl; types = refl; rank = λ i. i; uses = refl; packages = refl; exports = refl; gates = record { types = refl; interfaces = refl; worlds = refl }; results = refl; spans = refl });
  import_taken = can_merge _ (record { interfaces = refl; worlds = refl; types = refl; rank = λ i. i; uses = refl; packages = refl; exports = refl; gates = record { types = refl; interfaces = refl; worlds = refl }; results = refl; spans = refl });
  label_kept = can_merge _ (record { interfaces = refl; worlds = refl; types = refl; rank = λ i. i; uses = refl; packages = refl; exports = refl; gates = record { types = refl; interfaces = refl; worlds = refl }; results = refl; spans = refl });
  function_kept = can_merge _ (record { interfaces = refl; worlds = refl; types = refl; rank = λ i. i; uses = refl; packages = refl; exports = refl; gates = record { types = refl; interfaces = refl; worlds = refl }; results = refl; spans = refl });
}
