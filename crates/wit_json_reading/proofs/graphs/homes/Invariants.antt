use Rattle.std.proofs.Common.{◌≡◌, drop, []}
use Rattle.wit_json_reading.specs.Graphs.{homes_from}
use Rattle.wit_json_reading.proofs.graphs.homes.Given as goal

-- the names so far, and the packages that are left
abbrev pub invariant-loop-home : goal.invariant-loop-home
invariant-loop-home l = homes_from [] l.packages ≡ homes_from l.names (drop l.home-index l.home-items)
