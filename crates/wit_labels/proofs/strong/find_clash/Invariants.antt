use Rattle.std.proofs.Common.{length}
use Rattle.std.specs.Map.{keys_of}
use Rattle.wit_labels.proofs.Clashing.{AreMet}
use Rattle.wit_labels.proofs.strong.find_clash.Given as goal

abbrev pub invariant-loop-key : goal.invariant-loop-key
invariant-loop-key l = AreMet (keys_of l.entries) (length l.yielded) l.met
