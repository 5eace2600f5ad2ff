use Rattle.std.proofs.Common.{ℕ, rules, subst, sym}
use Rattle.wit_ways.specs.Told.{IsRoundAt, IsTypeRound}
use Rattle.wit_ways.proofs.TypeRounds.{one_more, none_at_all, some_round}
use Rattle.wit_ways.proofs.told_way.first_round.Goals as goal

pub loop-index-preserved : goal.loop-index-preserved
loop-index-preserved c =
    one_more c.args.graph.now c.args.arrows.now c.args.name.now c.loop-index.index c.in_ok-way.way (search rules)
    (subst (λ (i : ℕ). IsRoundAt c.args.graph.now c.args.arrows.now c.args.name.now i c.in_ok-way.way) c.from_index.ensures c.in_ok-way.ensures) c.loop-index.invariant

pub returns-then-not-is_empty : goal.returns-then-not-is_empty
returns-then-not-is_empty c =
    some_round c.args.graph.now c.args.arrows.now c.args.name.now c.from_index.result c.in_ok-way.way (search rules) c.in_ok-way.ensures

pub returns : goal.returns
returns c =
    subst (IsTypeRound c.args.graph.now c.args.arrows.now c.args.name.now) (sym c.new.ensures)
    (none_at_all c.args.graph.now c.args.arrows.now c.args.name.now c.loop-index.index (search rules) c.loop-index.invariant)
