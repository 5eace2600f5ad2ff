use Rattle.std.proofs.Common.{◌↔◌}
use Rattle.wit_elaboration.specs.Sound.{AreSound}
use Rattle.wit_elaboration.proofs.elaborable.are_sound.Given as goal

-- those that are left decide
abbrev pub invariant-loop-key : goal.invariant-loop-key
invariant-loop-key l =
    AreSound l.types l.interfaces l.key-iterator ↔ AreSound l.types l.interfaces l.entries
