use Rattle.std.proofs.Common.{◌≡◌, take}
use Rattle.wit_link_include.specs.steps.Included.{numbered}
use Rattle.wit_link_include.proofs.numbering.numbered.Given as goal

-- the first ones are there
abbrev pub invariant-loop-place : goal.invariant-loop-place
invariant-loop-place g l = l.table ≡ numbered l.first (take l.place l.ids)
