use Rattle.std.proofs.Common.{◌≡◌, length}
use denote.Shadow.{shadow}
use denote.Text.{Utf8}
use Rattle.wit_labels.specs.Groups.{rest_of}
use Rattle.wit_labels.proofs.groups.rest_of.Given as goal

abbrev pub invariant-loop-after : goal.invariant-loop-after
invariant-loop-after l = (rest_of l.rest ≡ rest_of l.label) × shadow (Utf8 l.rest)

abbrev pub decreases-loop-after : goal.decreases-loop-after
decreases-loop-after l = length l.rest
