use Rattle.std.proofs.Common.{◌≡◌, ◌∙◌, bit_or, sym, ap, subst, arith, length, drop, get_or}
use Rattle.std.specs.Prelude.{EachIndex, slice_index}
use Rattle.std.proofs.lemmas.List.{take_at, take_more, take_all}
use Rattle.wit_digraph.specs.Relation.{direct}
use Rattle.wit_elaboration.specs.steps.Closures.{IsRowOf}
use Rattle.wit_elaboration.proofs.ReachedColumns.{HasReached-more, HasReached-end}
use Rattle.wit_elaboration.proofs.closure_rows.row_of.Goals as goal

pub loop-used-preserved : goal.loop-used-preserved
loop-used-preserved c =
    let uses = c.args.uses.now in
    let rows = c.args.rows.now in
    let at = c.loop-used.used-index in
    let list = c.direct_uses-used-items.result.now in
    let used = get_or c.direct_uses-used-items.result.now c.loop-used.used-index 0 in
    let whole = take_at c.or_into.new.into (drop (length c.or_into.new.into) c.loop-used.row.items) c.loop-used.row.len (omega arith) in
    let row : list ≡ direct uses c.args.node = c.direct_uses-used-items.ensures in
    let told = c.requires.told at 0 (omega (arith, ap length row)) in
    let told' : IsRowOf uses (direct rows used) used = subst (λ xs. IsRowOf uses (direct rows (get_or xs at 0)) (get_or xs at 0)) (sym row) told in
    let told'' : IsRowOf uses c.row_at.result.now used = subst (λ xs. IsRowOf uses xs used) (sym c.row_at.ensures) told' in
    record {
      reached = rw (whole, take_more list at 0 (omega arith))
          (HasReached-more uses c.loop-used.row.items c.row_at.result.now c.or_into.new.into c.args.node used _ c.loop-used.invariant.reached told'' (omega arith)
          (subst (λ old. EachIndex c.or_into.new.into (λ k. slice_index c.or_into.new.into k ≡ bit_or (slice_index old k) (slice_index c.row_at.result.now k))) c.deref_mut-in-loop-used.ensures.value c.or_into.ensures));
      joins = omega (arith, c.loop-used.invariant.joins);
    }

pub returns-clause-row : goal.returns-clause-row
returns-clause-row c =
    let all = take_all c.loop-used.used-index c.direct_uses-used-items.result.now (omega arith) ∙ c.direct_uses-used-items.ensures in
    rw c.from_vec.ensures (HasReached-end c.args.uses.now c.loop-used.row.items c.args.node (rw all at c.loop-used.invariant.reached))
