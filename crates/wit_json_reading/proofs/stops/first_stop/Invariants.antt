use Rattle.std.proofs.Common.{◌≡◌, drop}
use Rattle.wit_json_reading.specs.Stops.{stop_from, stop_in}
use Rattle.wit_json_reading.proofs.stops.first_stop.Given as goal

-- what is left of the text tells where it stops
abbrev pub invariant-loop-index : goal.invariant-loop-index
invariant-loop-index l = stop_from l.brackets.items l.state l.index (drop l.index l.bytes) ≡ stop_in l.fn.text
