use Rattle.std.proofs.Common.{◌≡◌, ◌++◌, codes, string_bytes, take}
use Rattle.wit_merge_match.specs.steps.ComparisonSteps.{path_of}
use Rattle.wit_merge_spec.specs.Structure.{dotted}
use Rattle.wit_merge_match.proofs.comparison.Sides.told.Given as goal

-- the path along the first frames
abbrev pub invariant-loop-index : goal.invariant-loop-index
invariant-loop-index l = string_bytes l.text ≡ codes "at " ++ dotted (path_of l.self (take l.index l.stack))
