use Rattle.std.proofs.Common.{◌∙◌, ℕ, List, filter, map, take, ap, subst}
use Rattle.std.specs.Prelude.{◌↔◌, IfOk, IsTrue, nat_lt}
use Rattle.std.proofs.lemmas.List.{take_all}
use Rattle.wit_digraph.specs.Relation.{IsAcyclic}
use Rattle.wit_shape.proofs.uses.is_acyclic_among.Goals as goal

pub returns : goal.returns
returns c =
    let rows : List (List ℕ) = take c.args.count c.args.uses.now in
    subst (λ (l : List (List ℕ)). IfOk c.is_acyclic.result (λ acyclic. IsTrue acyclic ↔ IsAcyclic l))
    (c.as_slice-2.ensures ∙ c.loop-row.invariant ∙ ap (λ (l : List (List ℕ)). map (λ (row : List ℕ). filter (λ j. nat_lt j c.args.count) row) l) (take_all c.loop-row.row-index rows c.loop-row-test.false))
    c.is_acyclic.ensures
