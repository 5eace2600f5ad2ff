use Rattle.std.proofs.Common.{◌≡◌, ◌<◌, ◌+◌, ◌∙◌, ◌-◌, ◌++◌, [], ◌∷◌, length, get_or, take, subst, sym, ap, arith}
use Rattle.std.proofs.lemmas.List.{take_more, take_all}
use Rattle.std.proofs.lemmas.List.Elements.{Contains-get_or, All-contains}
use Rattle.wit_digraph.specs.Relation.{direct}
use Rattle.wit_elaboration.proofs.Closing.{IsClosing, IsClosing-told, IsClosing-more, IsClosing-end}
use Rattle.wit_elaboration.proofs.Counting.{counted, counted-none, counted-more, counted-all}
use Rattle.wit_digraph.specs.facts.MemberFacts.{not_before}
use Rattle.wit_elaboration.proofs.closure_rows.add_rows.Goals as goal

pub loop-node-init : goal.loop-node-init
loop-node-init c = record {
  closing = record {
    long = c.requires.long;
    told = λ k d below. absurd (omega (arith, below));
  };
  joins = sym (counted-none c.args.uses.now 0);
  few = omega arith;
}

pub row_of-requires-clause-told : goal.row_of-requires-clause-told
row_of-requires-clause-told c =
    rw c.as_slice.ensures
    (IsClosing-told c.args.uses.now c.loop-node.rows c.args.order.now c.loop-node.node-index c.loop-node.invariant.closing c.requires.order.uses_first c.loop-node-test.true)

pub loop-node-preserved : goal.loop-node-preserved
loop-node-preserved c =
    let uses = c.args.uses.now in
    let order = c.args.order.now in
    let at = c.loop-node.node-index in
    let node = get_or c.args.order.now c.loop-node.node-index 0 in
    let below : node < length uses = All-contains (λ x. x < length uses) order node c.requires.order.in_range (Contains-get_or order at 0 c.loop-node-test.true) in
    let same : node - 0 ≡ node = omega arith in
    let more : counted uses 0 (take at order ++ node ∷ []) ≡ counted uses 0 (take at order) + length (direct uses node) =
    subst (λ i. counted uses 0 (take at order ++ node ∷ []) ≡ counted uses 0 (take at order) + length (direct uses i)) same
    (counted-more uses 0 node (take at order) (omega arith) (omega arith) (not_before order at c.requires.once c.loop-node-test.true)) in
    record {
      closing = rw (c.set.ensures, take_more order at 0 c.loop-node-test.true)
          (IsClosing-more uses c.loop-node.rows (take at order) c.in_ok-row.row node c.loop-node.invariant.closing below c.in_ok-row.ensures.row);
      joins = rw (take_more order at 0 c.loop-node-test.true) (omega (arith, c.in_ok-row.ensures.joins, c.loop-node.invariant.joins, more));
      few = omega (arith, c.in_ok-row.ensures.few, c.loop-node.invariant.few);
    }

pub returns-clause-rows : goal.returns-clause-rows
returns-clause-rows c =
    let all = take_all c.loop-node.node-index c.args.order.now (omega arith) in
    IsClosing-end c.args.uses.now c.loop-node.rows c.args.order.now (subst (λ done. IsClosing c.args.uses.now c.loop-node.rows done) all c.loop-node.invariant.closing) c.requires.order.all

pub returns-clause-joins : goal.returns-clause-joins
returns-clause-joins c =
    let all = take_all c.loop-node.node-index c.args.order.now (omega arith) in
    c.loop-node.invariant.joins ∙ ap (counted c.args.uses.now 0) all ∙ counted-all c.args.uses.now 0 c.args.order.now (λ i from below. c.requires.order.all i (omega (arith, below)))
