use Rattle.std.proofs.Common.{◌≡◌, ◌++◌, ℕ, map}
use Rattle.std.specs.Vec.Iter.{into_iter_items}
use Rattle.wit_data.specs.Each.{Each}
use Rattle.wit_data.specs.declared.interface.Interface.{Interface}
use Rattle.wit_remap_spec.specs.Kept.{cut_interface}
use Rattle.wit_remap_spec.specs.Image.{interface_image}
use Rattle.wit_remap.specs.steps.Fits.{Fits, InterfaceFits}
use Rattle.wit_remap.specs.steps.Movers.{maps_of}
use Rattle.wit_remap.specs.steps.Parts.{kept_of}
use Rattle.wit_remap.proofs.parts.updated_interfaces.Given as goal

-- those so far, and those to come
abbrev pub invariant-loop-item : goal.invariant-loop-item
invariant-loop-item l = record {
  all : l.updated ++ map (λ (e : ℕ × Interface). interface_image (maps_of l.mover) (cut_interface (kept_of l.part) e.1)) (into_iter_items l.item-iterator)
      ≡ map (λ (e : ℕ × Interface). interface_image (maps_of l.mover) (cut_interface (kept_of l.part) e.1)) l.fn.interfaces;
  fits : Each (λ (e : ℕ × Interface). InterfaceFits (Fits l.mover.offset) e.1) (into_iter_items l.item-iterator);
}
