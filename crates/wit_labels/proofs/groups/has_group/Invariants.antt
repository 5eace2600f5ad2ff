use Rattle.std.proofs.Common.{◌≡◌, length}
use Rattle.std.specs.List.{list_any}
use Rattle.std.specs.Str.{bytes_eq}
use denote.Shadow.{shadow}
use denote.Text.{Utf8}
use Rattle.wit_labels.specs.Groups.{groups_of}
use Rattle.wit_labels.proofs.groups.has_group.Given as goal

abbrev pub invariant-loop-first : goal.invariant-loop-first
invariant-loop-first l =
    (list_any (bytes_eq l.group) (groups_of l.rest)
    ≡ list_any (bytes_eq l.group) (groups_of l.label)) × shadow (Utf8 l.rest)

abbrev pub decreases-loop-first : goal.decreases-loop-first
decreases-loop-first l = length l.rest
