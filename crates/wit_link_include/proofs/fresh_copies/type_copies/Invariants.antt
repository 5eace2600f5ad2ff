use Rattle.std.proofs.Common.{◌≡◌, ℕ, Bool, length, map, take}
use Rattle.std.specs.Map.{keys_of}
use Rattle.wit_remap_spec.specs.Image.{type_image}
use Rattle.wit_remap_spec.specs.Selected.{selected}
use Rattle.wit_link_include.specs.steps.Included.{maps_of, places}
use Rattle.wit_link_include.proofs.fresh_copies.type_copies.Given as goal

-- those of the first ones
abbrev pub invariant-loop-id : goal.invariant-loop-id
invariant-loop-id l = (kept : ℕ → Bool) → keys_of l.copies.types ≡ places kept l.graph.types → l.types ≡ map (type_image (maps_of l.copies)) (take (length l.yielded) (selected kept l.graph.types))
