use Rattle.std.proofs.Common.{rules, ◌≡◌, ◌≢◌, ℕ, List, length, get_or, drop, replicate, ap, subst, ◌∙◌, arith}
use Rattle.std.proofs.lemmas.List.{take_at, take_all}
use Rattle.wit_digraph.specs.steps.Rows.{HasBit, bit_of}
use Rattle.wit_elaboration.specs.steps.Closures.{HasColumnsOf, column}
use Rattle.wit_digraph.specs.facts.BitFacts.{no_bits}
use Rattle.wit_elaboration.proofs.ColumnFacts.{no_columns, columns_more}
use Rattle.wit_elaboration.proofs.closure_rows.columns_of.Goals as goal

pub loop-node-init : goal.loop-node-init
loop-node-init c =
    let zeros : c.in_ok-columns.columns.items ≡ replicate 16 0 = search rules in
    record {
      wide = search rules;
      columns = no_columns c.args.nodes.now c.in_ok-columns.columns.items (λ k. ap (λ (row : List ℕ). bit_of row k) zeros ∙ no_bits 16 k);
    }

pub loop-node-preserved : goal.loop-node-preserved
loop-node-preserved c =
    let row = c.set_bit.new.row in
    let node : ℕ = get_or c.args.nodes.now c.loop-node.node-index 0 in
    let whole = take_at row (drop (length row) c.loop-node.columns.items) c.loop-node.columns.len (omega arith) in
    let place : c.column_of.result ≡ column node = c.column_of.ensures.column in
    let set : HasBit row (column node) = subst (λ (k : ℕ). HasBit row k) place c.set_bit.ensures.set in
    let others : (k : ℕ) → k ≢ column node → bit_of row k ≡ bit_of c.loop-node.columns.items k =
    λ k apart. c.set_bit.ensures.others k (λ same. apart (same ∙ place)) ∙ ap (λ (r : List ℕ). bit_of r k) c.deref_mut.ensures.value in
    rw whole record {
      wide = omega (arith, c.loop-node.invariant.wide);
      columns = columns_more c.args.nodes.now c.loop-node.columns.items row c.loop-node.node-index c.loop-node-test.true c.loop-node.invariant.columns set others;
    }

pub returns-clause-columns : goal.returns-clause-columns
returns-clause-columns c =
    subst (λ (nodes : List ℕ). HasColumnsOf nodes c.loop-node.columns.items) (take_all c.loop-node.node-index c.args.nodes.now (omega arith)) c.loop-node.invariant.columns
