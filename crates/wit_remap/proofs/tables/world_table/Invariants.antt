use Rattle.std.proofs.Common.{◌≡◌, take}
use Rattle.wit_remap.specs.steps.Movers.{maps_of}
use Rattle.wit_remap.specs.steps.Fits.{worlds_at}
use Rattle.wit_remap.proofs.tables.world_table.Given as goal

-- the table of the worlds so far
abbrev pub invariant-loop-place : goal.invariant-loop-place
invariant-loop-place l = l.table ≡ worlds_at (maps_of l.mover) (take l.place-index l.worlds)
