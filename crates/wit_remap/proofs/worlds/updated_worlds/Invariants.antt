use Rattle.std.proofs.Common.{◌≡◌, ◌++◌, ℕ, map}
use Rattle.std.specs.Vec.Iter.{into_iter_items}
use Rattle.wit_data.specs.Each.{Each}
use Rattle.wit_data.specs.declared.world.World.{World}
use Rattle.wit_remap.specs.steps.Fits.{Fits, WorldFits, HasKeysApart, updated_world}
use Rattle.wit_remap.specs.steps.Movers.{maps_of}
use Rattle.wit_remap.specs.steps.Parts.{kept_of}
use Rattle.wit_remap.proofs.worlds.updated_worlds.Given as goal

-- those so far, and those to come
abbrev pub invariant-loop-index : goal.invariant-loop-index
invariant-loop-index l = record {
  all : l.updated ++ map (updated_world (maps_of l.mover) l.part) (into_iter_items l.index-iterator) ≡ map (updated_world (maps_of l.mover) l.part) l.fn.worlds;
  fits : Each (λ (e : ℕ × World). WorldFits (Fits l.mover.offset) e.1) (into_iter_items l.index-iterator);
  keys : Each (λ (e : ℕ × World). HasKeysApart (maps_of l.mover) (kept_of l.part) e.1) (into_iter_items l.index-iterator);
}
