use Rattle.wit_merge_match.specs.steps.Differing.{merging_of}
use Rattle.wit_merge_match.specs.steps.Stabilities.{WorldsApartAt}
use Rattle.wit_merge_match.proofs.Steps.{NoneBelow}
use Rattle.wit_merge_match.proofs.matched_graphs.MatchedGraphs.worlds_apart.Given as goal

-- the first ones can be joined
abbrev pub invariant-loop-index : goal.invariant-loop-index
invariant-loop-index l = NoneBelow (WorldsApartAt (merging_of l.self)) l.index
