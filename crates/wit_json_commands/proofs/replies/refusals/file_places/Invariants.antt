use Rattle.std.proofs.Common.{◌≡◌, ◌++◌, drop, filter_map}
use Rattle.wit_json_commands.specs.FilePlaces.{file_place}
use Rattle.wit_json_commands.proofs.replies.refusals.file_places.Given as goal

-- the places of the first spans, and of those that are left
abbrev pub invariant-loop-span : goal.invariant-loop-span
invariant-loop-span l = l.places ++ filter_map (file_place l.files.files) (drop l.span-index l.spans) ≡ filter_map (file_place l.files.files) l.spans
