use Rattle.wit_labels.proofs.FirstSteps.{TellsSoFar}
use Rattle.wit_labels.proofs.renaming.first_indices.Given as goal

-- the first ones of the renamings so far
abbrev pub invariant-loop-index : goal.invariant-loop-index
invariant-loop-index l = TellsSoFar l.names l.index l.firsts
