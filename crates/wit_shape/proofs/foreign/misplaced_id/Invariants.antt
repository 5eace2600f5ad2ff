use Rattle.std.proofs.Common.{◌≡◌, length, take, eqb}
use Rattle.wit_data.specs.facts.EachFacts.{EachBelow}
use Rattle.wit_shape.specs.Faults.{IsNewFirst}
use Rattle.std.specs.List.{IsDistinct}
use Rattle.wit_shape.proofs.foreign.misplaced_id.Given as goal

-- the first ones are listed, and differ
abbrev pub invariant-loop-id : goal.invariant-loop-id
invariant-loop-id l = record {
  listed : l.met.order ≡ take l.id-index l.ids;
  nodes : l.met.nodes ≡ length l.ids;
  differ : IsDistinct eqb (take l.id-index l.ids);
  new : EachBelow l.id-index (IsNewFirst l.ids l.count) l.ids;
}
