use Rattle.std.proofs.Common.{◌≡◌, take, string_bytes}
use Rattle.std.specs.List.{flat_map}
use Rattle.wit_json_commands.specs.Refusals.{place_lines}
use Rattle.wit_json_commands.proofs.replies.rendered.places_text.Given as goal

-- the lines of the first spans
abbrev pub invariant-loop-span : goal.invariant-loop-span
invariant-loop-span l = string_bytes l.text ≡ flat_map (place_lines l.files.files) (take l.span-index l.spans)
