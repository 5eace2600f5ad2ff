use Rattle.std.proofs.Common.{◌≡◌, ◌<◌, ◌^◌, drop}
use Rattle.wit_json_reading.specs.Values.{decimal_after, decimal_of}
use Rattle.wit_json_reading.proofs.Digits.{number_below}
use Rattle.wit_json_reading.proofs.values.decimal.Given as goal

-- what all digits write is what those that are left write behind the number so far
abbrev pub invariant-loop-index : goal.invariant-loop-index
invariant-loop-index l = (decimal_of l.fn.text ≡ number_below (2 ^ 64) (decimal_after l.number (drop l.index l.digits))) × (l.number < 2 ^ 64)
