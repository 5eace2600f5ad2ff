use Rattle.std.proofs.Common.{◌≡◌, take, string_bytes, codes, ◌++◌}
use Rattle.std.specs.List.{flat_map}
use Rattle.wit_ways.specs.declared.arrow.Arrow.{Arrow}
use Rattle.wit_ways.proofs.shown.steps_text.Given as goal

abbrev pub invariant-loop-arrow : goal.invariant-loop-arrow
invariant-loop-arrow l = string_bytes l.text ≡ flat_map (λ (step : Arrow). codes " -> " ++ step.to) (take l.arrow-index l.way)
