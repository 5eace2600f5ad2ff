use Rattle.std.proofs.Common.{◌≡◌, map, take}
use Rattle.wit_merge_match.specs.steps.Matched.{type_under}
use Rattle.wit_merge_match.proofs.types.type_matches.Given as goal

-- those of the first ones
abbrev pub invariant-loop-def : goal.invariant-loop-def
invariant-loop-def l = l.found ≡ map (type_under l.graph l.worlds l.interfaces) (take l.def-index l.other.types)
