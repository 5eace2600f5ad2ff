use Rattle.std.proofs.Common.{ℕ, List, get_or, refl, subst, sym, arith, Contains}
use Rattle.std.proofs.lemmas.Bool.{false≢true}
use Rattle.std.proofs.lemmas.List.Elements.{Contains-get_or}
use Rattle.wit_digraph.specs.Relation.{direct}
use Rattle.wit_digraph.specs.steps.Rows.{HasBit}
use Rattle.wit_elaboration.proofs.Marking.{none_more, none_all}
use Rattle.wit_elaboration.proofs.passes.has_use.Goals as goal

pub loop-used-preserved : goal.loop-used-preserved
loop-used-preserved c =
    none_more (HasBit c.args.row.now) c.direct_uses-used-items.result.now c.loop-used.used-index c.loop-used-test.true c.loop-used.invariant
    (λ found. let on = c.has_bit.ensures.1 found in let off = c.if-has_bit.false in cc)

pub returns-then-has_bit : goal.returns-then-has_bit
returns-then-has_bit c =
    let used = get_or c.direct_uses-used-items.result.now c.loop-used.used-index 0 in
    let among : Contains (direct c.args.uses.now c.args.node) used = subst (λ (xs : List ℕ). Contains xs used) c.direct_uses-used-items.ensures (Contains-get_or c.direct_uses-used-items.result.now c.loop-used.used-index 0 c.loop-used-test.true) in
    (λ on. (used, among, c.has_bit.ensures.0 c.if-has_bit.true), λ found. refl)

pub returns : goal.returns
returns c =
    let none = none_all (HasBit c.args.row.now) c.direct_uses-used-items.result.now c.loop-used.used-index (omega arith) c.loop-used.invariant in
    (λ on. absurd (false≢true on), λ found. absurd (none found.0 (subst (λ (xs : List ℕ). Contains xs found.0) (sym c.direct_uses-used-items.ensures) found.1) found.2))
