use Rattle.std.proofs.Common.{ℕ, List, Option, ◌++◌, drop}
use Rattle.std.specs.List.{flat_map}
use Rattle.wit_elaboration.specs.Entries.{Entry}
use Rattle.wit_merge_match.specs.steps.Matched.{AreLabelled}
use Rattle.wit_merge_spec.specs.Matches.{WorldLabel, interface_at_label}
use Rattle.wit_merge_match.proofs.world_labels.LabelNotes.note_side.Given as goal

-- those behind are noted
abbrev pub invariant-loop-index : goal.invariant-loop-index
invariant-loop-index l = (named : List (Option ℕ)) → (later : List (ℕ × WorldLabel)) → AreLabelled l.self.graph.now l.self.other.now named later l.fn.found
    → AreLabelled l.self.graph.now l.self.other.now named (flat_map (λ (e : Entry). interface_at_label l.world l.exported e.0 e.1) (drop l.index l.entries) ++ later) l.found
