use Rattle.std.proofs.Common.{◌≡◌, ◌∙◌, List, map, slice_get, ap, sym}
use Rattle.wit_data.specs.Entries.{Entry}
use Rattle.wit_remap_spec.specs.Image.{entry_image}
use Rattle.wit_remap.specs.steps.Movers.{maps_of}
use Rattle.wit_remap.proofs.EntrySteps.{first_fits, others_fit, updated-next, updated-new, updated-all, entries_same}
use Rattle.wit_remap.proofs.worlds.updated_entries.Goals as goal

pub updated_item-requires : goal.updated_item-requires
updated_item-requires c =
    first_fits c.args.mover.now.offset c.loop-key.key-iterator c.next.new.self (c.in-Some.key, c.in-Some.item) c.loop-key.invariant.fits c.in-Some.ensures.steps

pub push-requires : goal.push-requires
push-requires c =
    let f = entry_image (maps_of c.args.mover.now) 0 in
    rw (c.updated_key.ensures 0)
    (updated-new f c.loop-key.updated c.loop-key.key-iterator c.next.new.self (map f c.args.entries) (c.in-Some.key, c.in-Some.item) c.requires.keys c.loop-key.invariant.all c.in-Some.ensures.steps)

pub loop-key-preserved : goal.loop-key-preserved
loop-key-preserved c =
    let f = entry_image (maps_of c.args.mover.now) 0 in
    record {
      all = rw (c.in_ok-push.ensures.ok, c.updated_key.ensures 0, c.updated_item.ensures 0)
          (updated-next f c.loop-key.updated c.loop-key.key-iterator c.next.new.self (map f c.args.entries) (c.in-Some.key, c.in-Some.item) c.loop-key.invariant.all c.in-Some.ensures.steps);
      fits = others_fit c.args.mover.now.offset c.loop-key.key-iterator c.next.new.self (c.in-Some.key, c.in-Some.item) c.loop-key.invariant.fits c.in-Some.ensures.steps;
    }

pub loop-key-init : goal.loop-key-init
loop-key-init c =
    let f = entry_image (maps_of c.args.mover.now) 0 in
    let whole : c.into_iter-key-iterator.result ≡ c.args.entries = c.into_iter-key-iterator.ensures.into_iter_gives ∙ c.into_pairs-key-items.ensures in
    record {
      all = rw (c.in_ok-reserve.ensures, c.new-updated.ensures) (ap (map f) whole);
      fits = λ i x at. c.requires.fits i x (ap (λ (l : List Entry). slice_get l i) (sym whole) ∙ at);
    }

pub returns : goal.returns
returns c = λ w.
    updated-all (entry_image (maps_of c.args.mover.now) 0) c.loop-key.updated c.loop-key.key-iterator (map (entry_image (maps_of c.args.mover.now) 0) c.args.entries) c.loop-key.invariant.all c.in-None.ensures.steps.0
    ∙ entries_same c.args.mover.now 0 w c.args.entries
