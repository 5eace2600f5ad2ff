use Rattle.std.proofs.Common.{◌≡◌, ◌∙◌, ℕ, List, map, slice_get, ap, sym}
use Rattle.std.specs.Vec.Iter.{into_iter_items}
use Rattle.wit_data.specs.declared.world.World.{World}
use Rattle.wit_remap.specs.steps.Fits.{Fits, WorldFits, HasKeysApart, updated_world}
use Rattle.wit_remap.specs.steps.Movers.{maps_of}
use Rattle.wit_remap.specs.steps.Parts.{kept_of}
use Rattle.wit_remap.proofs.Kept.{first_of, others_of, mapped-next}
use Rattle.wit_remap.proofs.worlds.updated_worlds.Goals as goal

pub updated_world-requires-clause-fits : goal.updated_world-requires-clause-fits
updated_world-requires-clause-fits c =
    first_of (λ (e : ℕ × World). WorldFits (Fits c.args.mover.now.offset) e.1) (into_iter_items c.loop-index.index-iterator) (into_iter_items c.next.new.self) (c.in-Some.index, c.in-Some.world)
    c.loop-index.invariant.fits c.in-Some.ensures.steps.0

pub updated_world-requires-clause-keys : goal.updated_world-requires-clause-keys
updated_world-requires-clause-keys c =
    first_of (λ (e : ℕ × World). HasKeysApart (maps_of c.args.mover.now) (kept_of c.args.part.now) e.1) (into_iter_items c.loop-index.index-iterator) (into_iter_items c.next.new.self) (c.in-Some.index, c.in-Some.world)
    c.loop-index.invariant.keys c.in-Some.ensures.steps.0

pub loop-index-init : goal.loop-index-init
loop-index-init c =
    let whole : into_iter_items c.into_iter-index-iterator.result ≡ c.args.worlds = c.into_iter-index-iterator.ensures.into_iter_gives.0 ∙ c.into_vec-index-items.ensures in
    record {
      all = rw c.new-updated.ensures (ap (map (updated_world (maps_of c.args.mover.now) c.args.part.now)) whole);
      fits = λ i x at. c.requires.fits i x (ap (λ (l : List (ℕ × World)). slice_get l i) (sym whole) ∙ at);
      keys = λ i x at. c.requires.keys i x (ap (λ (l : List (ℕ × World)). slice_get l i) (sym whole) ∙ at);
    }

pub loop-index-preserved : goal.loop-index-preserved
loop-index-preserved c =
    let f = updated_world (maps_of c.args.mover.now) c.args.part.now in
    let left = into_iter_items c.loop-index.index-iterator in
    let rest = into_iter_items c.next.new.self in
    let e : ℕ × World = (c.in-Some.index, c.in-Some.world) in
    record {
      all = rw c.in_ok-push.ensures.ok (mapped-next f c.loop-index.updated left rest (map f c.args.worlds) e c.in_ok-updated_world.field-0 (c.in_ok-updated_world.ensures ∙ ap (λ (w : ℕ). f (w, e.1)) c.from_index-id.ensures) c.loop-index.invariant.all c.in-Some.ensures.steps.0);
      fits = others_of (λ (e : ℕ × World). WorldFits (Fits c.args.mover.now.offset) e.1) left rest e c.loop-index.invariant.fits c.in-Some.ensures.steps.0;
      keys = others_of (λ (e : ℕ × World). HasKeysApart (maps_of c.args.mover.now) (kept_of c.args.part.now) e.1) left rest e c.loop-index.invariant.keys c.in-Some.ensures.steps.0;
    }
