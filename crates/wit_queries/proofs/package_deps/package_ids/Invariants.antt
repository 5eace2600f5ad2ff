use Rattle.std.proofs.Common.{◌≡◌, take}
use Rattle.wit_queries.proofs.package_deps.package_ids.Given as goal

-- those of the first ones
abbrev pub invariant-loop-place : goal.invariant-loop-place
invariant-loop-place l = l.ids.items ≡ take l.place-index l.places
