use Rattle.std.proofs.Common.{◌≡◌, ◌<◌, ℕ, Some, true}
use Rattle.std.specs.Prelude.{slice_get}
use Rattle.wit_ways.specs.Ways.{is_among}
use Rattle.wit_ways.specs.declared.arrow.Arrow.{Arrow}
use Rattle.wit_ways.specs.declared.way.Reached.{Reached}
use Rattle.wit_ways.proofs.way.Search.goal.Given as goal

-- none so far
abbrev pub invariant-loop-index : goal.invariant-loop-index
invariant-loop-index l =
    (q : ℕ) (r : Reached) (a : Arrow) → q < l.index → slice_get l.self.reached q ≡ Some r → slice_get l.arrows r.arrow ≡ Some a → r.met ≡ true → is_among l.goals a.to ≡ true → ⊥
