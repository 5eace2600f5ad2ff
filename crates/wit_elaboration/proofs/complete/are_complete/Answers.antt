use Rattle.std.proofs.Common.{IfOk, Result, Ok, Err}
use Rattle.wit_elaboration.proofs.CompleteWorlds.{complete}
use Rattle.wit_elaboration.proofs.complete.are_complete.Goals as goal

-- what two clauses say of a value
both : {T E : Type 0} (P Q R : T → Type 0) (r : Result T E) → ((x : T) → P x → Q x → R x) → IfOk r P → IfOk r Q → IfOk r R
both P Q R (Ok x) f p q = f x p q
both P Q R (Err e) f p q = tt

pub returns-clause-sorted : goal.returns-clause-sorted
returns-clause-sorted c = both _ _ _ c.stand_in_order.result (λ whole p q yes. c.are_sorted.ensures c.if-not-are_sorted.false) c.stand_in_order.ensures.order c.stand_in_order.ensures.settled

pub returns-clause-complete : goal.returns-clause-complete
returns-clause-complete c =
    both _ _ _ c.stand_in_order.result
    (λ whole first settled yes. complete c.args.types.now c.args.uses.now c.args.imports.now c.requires.acyclic c.requires.listed c.keys_differ.ensures.test (c.are_sorted.ensures c.if-not-are_sorted.false) (first yes) (settled yes))
    c.stand_in_order.ensures.order c.stand_in_order.ensures.settled
