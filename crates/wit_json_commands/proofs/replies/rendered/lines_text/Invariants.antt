use Rattle.std.proofs.Common.{◌≡◌, take, string_bytes}
use Rattle.std.specs.List.{flat_map}
use Rattle.wit_json_commands.specs.Refusals.{place_lines}
use Rattle.wit_ways.specs.declared.arrow.Arrow.{Arrow}
use Rattle.wit_json_commands.proofs.replies.rendered.lines_text.Given as goal

-- the lines of the first steps
abbrev pub invariant-loop-arrow : goal.invariant-loop-arrow
invariant-loop-arrow l = string_bytes l.text ≡ flat_map (λ (step : Arrow). place_lines l.files.files step.span) (take l.arrow-index l.way)
