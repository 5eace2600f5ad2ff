use Rattle.std.proofs.Common.{◌∙◌, sym, arith, ap, length, refl}
use Rattle.std.proofs.lemmas.Bool.{false≢true}
use Rattle.wit_link_lookup.proofs.Ready.{type-flag}
use Rattle.wit_data.specs.facts.EachFacts.{all_of, one_more, one_skip}
use Rattle.wit_link_lookup.proofs.Elements.{element_at}
use Rattle.wit_link_lookup.proofs.checker.Checker.look_at_types.Goals as goal

pub loop-index-preserved-then-not-flag_at : goal.loop-index-preserved-then-not-flag_at
loop-index-preserved-then-not-flag_at c =
    let none = sym (type-flag c.args.self.now c.requires c.loop-index.index) ∙ (sym c.flag_at.ensures ∙ c.if-not-flag_at.true) in
    one_skip c.loop-index.invariant (λ _ _ active. absurd (false≢true (sym none ∙ active)))

pub look_at_type-requires-clause-taken : goal.look_at_type-requires-clause-taken
look_at_type-requires-clause-taken c =
    let active = sym (type-flag c.args.self.now c.requires c.loop-index.index) ∙ (sym c.flag_at.ensures ∙ c.if-not-flag_at.false) in
    record { t = c.loop-index.index; at = (element_at c.args.self.now.addition.unresolved.now.types c.as_slice-types.result.now _ c.loop-index.index c.index-types-index.result c.as_slice-types.ensures refl c.loop-index-test.true c.index-types-index.is); active = active }

pub loop-index-preserved : goal.loop-index-preserved
loop-index-preserved c = one_more c.loop-index.invariant _ (element_at c.args.self.now.addition.unresolved.now.types c.as_slice-types.result.now _ c.loop-index.index c.index-types-index.result c.as_slice-types.ensures refl c.loop-index-test.true c.index-types-index.is) (λ _. c.in_ok-look_at_type.ensures.stays)

pub returns-clause-stay : goal.returns-clause-stay
returns-clause-stay c = all_of c.loop-index.invariant (omega (arith, ap length c.as_slice-types.ensures))
