use Rattle.std.proofs.Common.{◌≡◌, ◌∙◌, ℕ, List, map, slice_get, ap, sym, subst}
use Rattle.std.specs.Vec.Iter.{into_iter_items}
use Rattle.wit_data.specs.declared.function.Function.{Function}
use Rattle.wit_data.specs.declared.interface.Interface.{Interface}
use Rattle.wit_remap_spec.specs.Kept.{KeptIds, cut_interface}
use Rattle.wit_remap_spec.specs.Image.{interface_image}
use Rattle.wit_remap.specs.steps.Fits.{Fits, FunctionFits, InterfaceFits}
use Rattle.wit_remap.specs.steps.Movers.{maps_of}
use Rattle.wit_remap.specs.steps.Parts.{kept_of}
use Rattle.wit_remap.proofs.Kept.{Each-filter, first_of, others_of, mapped-next}
use Rattle.wit_remap.proofs.parts.updated_interfaces.Goals as goal

-- what is left of an interface fits
cut_fits : (offset : ℕ) (kept : KeptIds) (interface : Interface) → InterfaceFits (Fits offset) interface → InterfaceFits (Fits offset) (cut_interface kept interface)
cut_fits offset kept interface fits = record {
  own = fits.own;
  functions = Each-filter (λ (e : List ℕ × Function). FunctionFits (Fits offset) e.1) (λ (e : List ℕ × Function). kept.functions e.1) interface.functions fits.functions;
}

pub update-requires : goal.update-requires
update-requires c =
    subst (InterfaceFits (Fits c.args.mover.now.offset)) (sym c.cut_interface.ensures) (cut_fits c.args.mover.now.offset (kept_of c.args.part.now) c.in-Some.item.1
    (first_of (λ (e : ℕ × Interface). InterfaceFits (Fits c.args.mover.now.offset) e.1) (into_iter_items c.loop-item.item-iterator) (into_iter_items c.next.new.self) c.in-Some.item c.loop-item.invariant.fits c.in-Some.ensures.steps.0))

pub loop-item-init : goal.loop-item-init
loop-item-init c =
    let f = λ (e : ℕ × Interface). interface_image (maps_of c.args.mover.now) (cut_interface (kept_of c.args.part.now) e.1) in
    let whole : into_iter_items c.into_iter-item-iterator.result ≡ c.args.interfaces = c.into_iter-item-iterator.ensures.into_iter_gives.0 ∙ c.into_vec-item-items.ensures in
    record {
      all = rw c.new-updated.ensures (ap (map f) whole);
      fits = λ i x at. c.requires i x (ap (λ (l : List (ℕ × Interface)). slice_get l i) (sym whole) ∙ at);
    }

pub loop-item-preserved : goal.loop-item-preserved
loop-item-preserved c =
    let f = λ (e : ℕ × Interface). interface_image (maps_of c.args.mover.now) (cut_interface (kept_of c.args.part.now) e.1) in
    let left = into_iter_items c.loop-item.item-iterator in
    let rest = into_iter_items c.next.new.self in
    record {
      all = rw c.in_ok-push.ensures.ok (mapped-next f c.loop-item.updated left rest (map f c.args.interfaces) c.in-Some.item c.update.new.self (c.update.ensures ∙ ap (interface_image (maps_of c.args.mover.now)) c.cut_interface.ensures) c.loop-item.invariant.all c.in-Some.ensures.steps.0);
      fits = others_of (λ (e : ℕ × Interface). InterfaceFits (Fits c.args.mover.now.offset) e.1) left rest c.in-Some.item c.loop-item.invariant.fits c.in-Some.ensures.steps.0;
    }
