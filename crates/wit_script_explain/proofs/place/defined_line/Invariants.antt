use Rattle.std.proofs.Common.{◌≡◌, drop}
use Rattle.wit_script_explain.specs.Places.{defined_line}
use Rattle.wit_script_explain.proofs.place.defined_line.Given as goal

-- it is begun at none of the places so far
abbrev pub invariant-loop-place : goal.invariant-loop-place
invariant-loop-place l = defined_line l.script l.name (drop l.place-index l.places) ≡ defined_line l.script l.name l.places
