use Rattle.std.proofs.Common.{take}
use Rattle.wit_link_include.specs.steps.Included.{AreRenamed}
use Rattle.wit_link_include.proofs.renaming.check_names.Given as goal

-- the renamings so far are of labels
abbrev pub invariant-loop-renaming : goal.invariant-loop-renaming
invariant-loop-renaming l = AreRenamed l.world (take l.renaming-index l.names)
