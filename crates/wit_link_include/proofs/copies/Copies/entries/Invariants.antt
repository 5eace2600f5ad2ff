use Rattle.std.proofs.Common.{◌≡◌, ◌++◌, map}
use Rattle.wit_remap_spec.specs.Image.{entry_image}
use Rattle.wit_link_include.specs.steps.Included.{maps_of}
use Rattle.wit_link_include.proofs.copies.Copies.entries.Given as goal

-- the copies so far, and those of what is left
abbrev pub invariant-loop-key : goal.invariant-loop-key
invariant-loop-key l = l.copies ++ map (entry_image (maps_of l.self) l.self.from) l.key-iterator ≡ map (entry_image (maps_of l.self) l.self.from) l.entries
