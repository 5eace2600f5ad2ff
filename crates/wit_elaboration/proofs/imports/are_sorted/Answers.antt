use Rattle.std.proofs.Common.{◌≡◌, ◌∙◌, ℕ, ap, sym, subst, arith}
use Rattle.std.proofs.lemmas.Map.Iter.{rest_all, rest_more}
use Rattle.std.specs.Map.Iter.{deref_pair}
use Rattle.wit_elaboration.specs.Entries.{elaboration_class, role_of}
use Rattle.wit_elaboration.proofs.SortedClasses.{RisesOn, rises-all, rises-more, rises-start}
use Rattle.wit_elaboration.proofs.imports.are_sorted.Goals as goal

pub loop-item-init : goal.loop-item-init
loop-item-init c = rises-start c.args.types.now (c.into_iter-item-iterator.ensures.into_iter_gives ∙ c.iter-item-items.ensures.rest)

pub loop-item-preserved : goal.loop-item-preserved
loop-item-preserved c =
    let types = c.args.types.now in
    let next : c.class-next.result ≡ elaboration_class (role_of types c.in-Some.item.now) = c.class-next.ensures ∙ ap elaboration_class c.of.ensures in
    subst (λ (n : ℕ). RisesOn types n c.next.new.self c.args.entries.now) (sym next)
    (rises-more types (rest_more deref_pair _ _ _ _ c.in-Some.is c.next.ensures.steps) c.loop-item.invariant (let later = c.if-next-class.false in omega (arith, next)))

pub returns : goal.returns
returns c = λ _. rises-all c.args.types.now (rest_all deref_pair _ _ _ c.in-None.is c.next.ensures.steps) c.loop-item.invariant
