use Rattle.std.proofs.Common.{◌∙◌, ◌++◌, ℕ, List, ap, sym}
use Rattle.wit_ways.specs.Arrows.{interface_arrows}
use Rattle.wit_ways.specs.declared.arrow.Arrow.{Arrow}
use Rattle.wit_ways.proofs.Ranges.{range_next}
use Rattle.wit_ways.proofs.uses.uses_in.Goals as goal

pub loop-index-preserved : goal.loop-index-preserved
loop-index-preserved c =
    let of = interface_arrows c.args.features.now c.args.offset c.args.types.now c.args.interfaces.now c.args.names.now in
    let n : ℕ = c.loop-index.index in
    c.in_ok-add_uses.ensures ∙ ap (λ (i : ℕ). c.loop-index.arrows ++ of i) c.from_index-user.ensures
    ∙ ap (λ (a : List Arrow). a ++ of n) c.loop-index.invariant ∙ sym (range_next of n)
