use Rattle.wit_merge_match.specs.steps.Differing.{InterfaceDiffersAt, WorldDiffersAt, merging_of}
use Rattle.wit_merge_match.proofs.Steps.{NoneBelow}
use Rattle.wit_merge_match.proofs.mismatch.find_mismatch.Given as goal

-- nothing is told of the first interfaces
abbrev pub invariant-loop-index : goal.invariant-loop-index
invariant-loop-index l = NoneBelow (InterfaceDiffersAt (merging_of l.comparing)) l.index

-- nor of the first worlds
abbrev pub invariant-loop-index-2 : goal.invariant-loop-index-2
invariant-loop-index-2 l = NoneBelow (WorldDiffersAt (merging_of l.comparing)) l.index
