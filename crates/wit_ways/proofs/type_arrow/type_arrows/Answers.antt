use Rattle.std.proofs.Common.{◌∙◌, ◌++◌, ℕ, List, ap, sym}
use Rattle.wit_ways.specs.TypeArrows.{references_of}
use Rattle.wit_ways.specs.declared.arrow.Arrow.{Arrow}
use Rattle.wit_ways.proofs.Ranges.{range_next}
use Rattle.wit_ways.proofs.type_arrow.type_arrows.Goals as goal

pub loop-index-preserved : goal.loop-index-preserved
loop-index-preserved c =
    let of = references_of c.args.graph.now in
    let n : ℕ = c.loop-index.index in
    c.in_ok-add_type.ensures ∙ ap (λ (i : ℕ). c.loop-index.arrows ++ of i) c.from_index-id.ensures
    ∙ ap (λ (a : List Arrow). a ++ of n) c.loop-index.invariant ∙ sym (range_next of n)
