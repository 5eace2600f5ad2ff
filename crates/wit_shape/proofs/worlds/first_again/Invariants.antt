use Rattle.std.proofs.Common.{◌≡◌, take, eqb}
use Rattle.std.specs.Prelude.{Contains}
use Rattle.wit_data.specs.facts.EachFacts.{EachBelow}
use Rattle.std.specs.List.{IsDistinct}
use Rattle.wit_shape.proofs.worlds.first_again.Given as goal

-- the first ones are listed, and differ
abbrev pub invariant-loop-number : goal.invariant-loop-number
invariant-loop-number l = record {
  listed : l.met.order ≡ take l.number-index l.numbers;
  nodes : l.met.nodes ≡ l.bound;
  differ : IsDistinct eqb (take l.number-index l.numbers);
  new : EachBelow l.number-index (λ i id. Contains (take i l.numbers) id → ⊥) l.numbers;
}
