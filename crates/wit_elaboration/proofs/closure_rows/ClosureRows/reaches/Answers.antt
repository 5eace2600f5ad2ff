use Rattle.std.proofs.Common.{◌≡◌, ◌∙◌, ℕ, List, length, drop, refl, ap, arith, subst, sym}
use Rattle.std.proofs.lemmas.List.{take_at}
use Rattle.wit_digraph.specs.Relation.{direct, Reaches}
use Rattle.wit_digraph.specs.steps.Rows.{HasBit}
use Rattle.wit_elaboration.specs.steps.Closures.{IsMarkRow, column}
use Rattle.wit_elaboration.proofs.ReachedColumns.{has_column}
use Rattle.wit_elaboration.proofs.Closing.{IsPath-below}
use Rattle.wit_elaboration.proofs.closure_rows.ClosureRows.reaches.Goals as goal

pub returns-then-uses-le-COLUMNS-clause-exact : goal.returns-then-uses-le-COLUMNS-clause-exact
returns-then-uses-le-COLUMNS-clause-exact c =
    let uses = c.args.uses.now in
    let from = c.args.from in
    let row : c.row_at.result.now ≡ direct c.args.self.now.rows from = c.row_at.ensures ∙ ap (λ (rows : List (List ℕ)). direct rows from) c.as_slice.ensures in
    let on : HasBit c.row_at.result.now c.column_of.result = c.has_bit.ensures.0 c.if-not-has_bit.false in
    let on' : HasBit (direct c.args.self.now.rows from) (column c.args.to) =
    subst (λ (r : List ℕ). HasBit r (column c.args.to)) row (subst (λ (k : ℕ). HasBit c.row_at.result.now k) c.column_of.ensures.column on) in (
      λ yes. has_column uses (direct c.args.self.now.rows from) from c.args.to (c.requires.closure.rows.each from c.requires.from) c.if-uses-le-COLUMNS.true
          (λ k reached. IsPath-below uses c.requires.acyclic from reached.0 k c.requires.from reached.1) c.requires.to on',
      λ reached. refl,
    )

pub returns-clause-exact : goal.returns-clause-exact
returns-clause-exact c =
    let uses = c.args.uses.now in
    let marks = c.mark_leading.new.marks in
    let told : IsMarkRow uses c.args.self.now.order (λ (t : ℕ). t ≡ c.args.to) marks =
    subst (λ (order : List ℕ). IsMarkRow uses order (λ (t : ℕ). t ≡ c.args.to) marks) c.as_slice-2.ensures c.mark_leading.ensures.marked in
    let now : c.deref.result.now ≡ marks = c.deref.ensures.value ∙ take_at marks (drop (length marks) c.args.self.now.marks.items) c.args.self.now.marks.len (omega arith) in (
      λ yes.
          let found = told.sound c.args.from (subst (λ (r : List ℕ). HasBit r c.args.from) now (c.has_bit-2.ensures.0 yes)) in
          subst (λ (k : ℕ). Reaches uses c.args.from k) found.2 found.1,
      λ reached. c.has_bit-2.ensures.1 (subst (λ (r : List ℕ). HasBit r c.args.from) (sym now) (told.complete c.args.from (c.requires.closure.order.all c.args.from c.requires.from) (c.args.to, reached, refl))),
    )
