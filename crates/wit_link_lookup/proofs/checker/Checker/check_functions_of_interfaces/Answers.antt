use Rattle.std.proofs.Common.{◌∙◌, sym, arith, ap, length, refl}
use Rattle.std.proofs.lemmas.Bool.{false≢true}
use Rattle.wit_graph_theory.specs.facts.ListFacts.{contained_at}
use Rattle.wit_link_spec.specs.Gates.{of_function}
use Rattle.wit_link_lookup.proofs.Ready.{interface-flag}
use Rattle.wit_data.specs.facts.EachFacts.{all_of, one_more, one_skip}
use Rattle.wit_link_lookup.proofs.Elements.{element_at}
use Rattle.wit_link_lookup.proofs.checker.Checker.check_functions_of_interfaces.Goals as goal

pub loop-index-preserved-then-not-flag_at : goal.loop-index-preserved-then-not-flag_at
loop-index-preserved-then-not-flag_at c =
    let none = sym (interface-flag c.args.self.now c.requires c.loop-index.index) ∙ (sym c.flag_at.ensures ∙ c.if-not-flag_at.true) in
    one_skip c.loop-index.invariant (λ _ _ active. absurd (false≢true (sym none ∙ active)))

pub check_functions-requires : goal.check_functions-requires
check_functions-requires c =
    let active = sym (interface-flag c.args.self.now c.requires c.loop-index.index) ∙ (sym c.flag_at.ensures ∙ c.if-not-flag_at.false) in
    λ i e at. of_function c.loop-index.index c.index-interfaces-index.result e.0 e.1 (element_at c.args.self.now.addition.unresolved.now.interfaces c.as_slice-interfaces.result.now _ c.loop-index.index c.index-interfaces-index.result c.as_slice-interfaces.ensures refl c.loop-index-test.true c.index-interfaces-index.is) active (contained_at c.index-interfaces-index.result.functions i e at)

pub loop-index-preserved : goal.loop-index-preserved
loop-index-preserved c = one_more c.loop-index.invariant _ (element_at c.args.self.now.addition.unresolved.now.interfaces c.as_slice-interfaces.result.now _ c.loop-index.index c.index-interfaces-index.result c.as_slice-interfaces.ensures refl c.loop-index-test.true c.index-interfaces-index.is) (λ _. c.in_ok-check_functions.ensures.met)

pub returns-clause-met : goal.returns-clause-met
returns-clause-met c = all_of c.loop-index.invariant (omega (arith, ap length c.as_slice-interfaces.ensures))
