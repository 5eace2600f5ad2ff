use Rattle.std.proofs.Common.{◌≡◌, false, take}
use Rattle.std.specs.List.{list_any}
use Rattle.wit_link_include.specs.steps.Included.{said}
use Rattle.wit_link_include.proofs.leading.any_leads.Given as goal

-- none of the first ones does
abbrev pub invariant-loop-id : goal.invariant-loop-id
invariant-loop-id l = list_any (said l.known.entries) (take l.id-index l.ids) ≡ false
