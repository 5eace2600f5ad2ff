use Rattle.std.proofs.Common.{◌≡◌, drop}
use Rattle.wit_merge.specs.steps.MergeSteps.{firsts_from}
use Rattle.wit_merge.proofs.counterparts.counterparts.Given as goal

-- the counterparts among those behind
abbrev pub invariant-loop-index : goal.invariant-loop-index
invariant-loop-index g l = l.counterparts ≡ firsts_from l.index (drop l.index l.found) l.count
