use Rattle.std.proofs.Common.{ℕ, drop}
use Rattle.std.specs.List.{enumerate_from, flat_map}
use Rattle.wit_data.specs.declared.world.World.{World}
use Rattle.wit_merge_match.specs.steps.Matched.{AreLabelled}
use Rattle.wit_merge_match.proofs.world_labels.LabelNotes.add_unnamed.Given as goal
use Rattle.wit_merge_spec.specs.steps.Parts.{labels_of_world}

-- what stands in the worlds behind is noted
abbrev pub invariant-loop-index : goal.invariant-loop-index
invariant-loop-index l = AreLabelled l.self.graph.now l.self.other.now l.fn.found (flat_map (λ (e : ℕ × World). labels_of_world e.0 e.1) (drop l.index (enumerate_from 0 l.self.other.now.worlds))) l.found
