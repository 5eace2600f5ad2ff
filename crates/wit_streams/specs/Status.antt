-- The status with which a program ends.
use Rattle.std.specs.Prelude.{ℕ, Bool, true, false, Result, Ok, Err}
use Rattle.wit_streams.specs.declared.fault.StreamFault.{StreamFault}

-- 0 where the input was understood and the answer is written, else 1
abbrev pub exit_status : Result Bool StreamFault → ℕ
exit_status (Ok true) = 0
exit_status (Ok false) = 1
exit_status (Err fault) = 1
