use Rattle.std.proofs.Common.{◌∙◌, ◌++◌, ℕ, List, ap, sym}
use Rattle.wit_ways.specs.Arrows.{package_arrows}
use Rattle.wit_ways.specs.declared.arrow.Arrow.{Arrow}
use Rattle.wit_ways.proofs.Ranges.{range_next}
use Rattle.wit_ways.proofs.graph_arrow.dependencies_in.Goals as goal

pub loop-index-preserved : goal.loop-index-preserved
loop-index-preserved c =
    let of = package_arrows c.args.graph.now in
    let n : ℕ = c.loop-index.index in
    c.in_ok-add_dependencies.ensures ∙ ap (λ (i : ℕ). c.loop-index.arrows ++ of i) c.from_index.ensures
    ∙ ap (λ (a : List Arrow). a ++ of n) c.loop-index.invariant ∙ sym (range_next of n)
