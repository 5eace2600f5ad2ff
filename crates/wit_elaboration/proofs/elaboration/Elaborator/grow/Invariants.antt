use Rattle.std.proofs.Common.{◌≡◌, length, take}
use Rattle.wit_data.specs.Uses.{uses_of}
use Rattle.wit_elaboration.proofs.elaboration.Elaborator.grow.Given as goal

-- the rows of the interfaces so far, behind those that were there
abbrev pub invariant-loop-index : goal.invariant-loop-index
invariant-loop-index l = record {
  rows : l.self ≡ uses_of l.types (take (length l.self) l.interfaces);
  index : l.index ≡ length l.self;
  begins : take (length l.fn.self) l.self ≡ l.fn.self;
}
