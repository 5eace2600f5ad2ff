use Rattle.std.proofs.Common.{sym, arith}
use Rattle.wit_values.specs.facts.Lists.{map-next}
use Rattle.wit_remap.specs.steps.Movers.{maps_of}
use Rattle.wit_remap.specs.steps.Fits.{world_at}
use Rattle.wit_remap.proofs.Rows.{mapped-new, item_at}
use Rattle.wit_remap.proofs.tables.world_table.Goals as goal

pub push-requires : goal.push-requires
push-requires c =
    let m = maps_of c.args.mover.now in
    let xs = c.args.worlds.now in
    let e = c.loop-place-item.result in
    rw (c.in_ok-from_str.ensures.ok, c.as_str.ensures, c.loop-place.invariant)
    (mapped-new (world_at m) xs c.loop-place.place-index e c.requires (item_at xs c.loop-place.place-index e (omega arith) c.loop-place-item.is))

pub loop-place-preserved : goal.loop-place-preserved
loop-place-preserved c =
    let m = maps_of c.args.mover.now in
    let xs = c.args.worlds.now in
    let e = c.loop-place-item.result in
    rw (c.in_ok-push.ensures.ok, c.loop-place.invariant, c.in_ok-from_str.ensures.ok, c.as_str.ensures, c.world_id-id.ensures, c.from_index.ensures)
    (sym (map-next (world_at m) xs c.loop-place.place-index e (item_at xs c.loop-place.place-index e (omega arith) c.loop-place-item.is)))
