use Rattle.std.proofs.Common.{◌≡◌, length}
use denote.Shadow.{shadow}
use denote.Text.{Utf8}
use Rattle.wit_labels.proofs.strong.label_class.Given as goal
use Rattle.wit_labels.specs.steps.Parts.{label_class}

abbrev pub invariant-loop-group : goal.invariant-loop-group
invariant-loop-group l = (label_class l.rest ≡ label_class l.label) × shadow (Utf8 l.rest)

abbrev pub decreases-loop-group : goal.decreases-loop-group
decreases-loop-group l = length l.rest
