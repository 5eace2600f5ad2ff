use Rattle.std.proofs.Common.{◌≡◌, ℕ, List, Some, slice_get, ap, sym, arith}
use Rattle.std.specs.Option.{option_map}
use Rattle.wit_values.specs.facts.Lists.{filter_map-next_none, filter_map-next_some}
use Rattle.wit_remap.specs.steps.Movers.{maps_of}
use Rattle.wit_remap.specs.steps.Fits.{named_at}
use Rattle.wit_remap.proofs.Rows.{filled-new, item_at}
use Rattle.wit_remap.proofs.tables.interface_table.Goals as goal
use Rattle.wit_remap.proofs.tables.interface_table.Goals.{in-Some+in_ok-from_str-in-Some+in_ok-push-in-Some, in-None}

pub push-requires : goal.push-requires
push-requires c =
    let m = maps_of c.args.mover.now in
    let xs = c.args.interfaces.now in
    let i = c.loop-place.place-index in
    let e = c.loop-place-item.result in
    rw (c.in_ok-from_str-in-Some.ensures.ok, c.as_str.ensures, c.loop-place.invariant)
    (filled-new (named_at m) xs i e c.in-Some.name (m.interfaces e.0) c.requires (item_at xs i e (omega arith) c.loop-place-item.is) (ap (option_map (λ (name : List ℕ). (name, m.interfaces e.0))) c.in-Some.is))

pub loop-place-preserved : goal.loop-place-preserved
loop-place-preserved c =
    let m = maps_of c.args.mover.now in
    let xs = c.args.interfaces.now in
    let i = c.loop-place.place-index in
    let e = c.loop-place-item.result in
    let at : slice_get xs i ≡ Some e = item_at xs i e (omega arith) c.loop-place-item.is in
    elim c.match-interface.branch [
      | in-Some+in_ok-from_str-in-Some+in_ok-push-in-Some w ↦
          rw (w.table-is, w.in_ok-push-in-Some.ensures.ok, c.loop-place.invariant, w.in_ok-from_str-in-Some.ensures.ok, w.as_str.ensures, w.interface_id-id.ensures, w.from_index.ensures)
          (sym (filter_map-next_some (named_at m) xs i e (w.in-Some.name, m.interfaces e.0) at (ap (option_map (λ (name : List ℕ). (name, m.interfaces e.0))) w.in-Some.is)))
      | in-None w ↦ rw (w.table-is, c.loop-place.invariant) (sym (filter_map-next_none (named_at m) xs i e at (ap (option_map (λ (name : List ℕ). (name, m.interfaces e.0))) w.in-None.is)))
    ]
