use Rattle.wit_merge_match.specs.steps.Differing.{merging_of}
use Rattle.wit_merge_match.specs.steps.Stabilities.{InterfacesApartAt}
use Rattle.wit_merge_match.proofs.Steps.{NoneBelow}
use Rattle.wit_merge_match.proofs.matched_graphs.MatchedGraphs.interfaces_apart.Given as goal

-- the first ones can be joined
abbrev pub invariant-loop-index : goal.invariant-loop-index
invariant-loop-index l = NoneBelow (InterfacesApartAt (merging_of l.self)) l.index
