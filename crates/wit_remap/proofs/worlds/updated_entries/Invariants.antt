use Rattle.std.proofs.Common.{◌≡◌, ◌++◌, map}
use Rattle.wit_remap_spec.specs.Image.{entry_image}
use Rattle.wit_remap.specs.steps.Fits.{EntriesFit, Fits}
use Rattle.wit_remap.specs.steps.Movers.{maps_of}
use Rattle.wit_remap.proofs.worlds.updated_entries.Given as goal

-- those so far, and those to come
abbrev pub invariant-loop-key : goal.invariant-loop-key
invariant-loop-key l = record {
  all : l.updated ++ map (entry_image (maps_of l.mover) 0) l.key-iterator ≡ map (entry_image (maps_of l.mover) 0) l.fn.entries;
  fits : EntriesFit (Fits l.mover.offset) l.key-iterator;
}
