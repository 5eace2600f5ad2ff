use Rattle.std.proofs.Common.{◌∙◌, inl, inr, sym, arith, ap, length, refl}
use Rattle.std.proofs.lemmas.Bool.{false≢true}
use Rattle.wit_graph_theory.specs.facts.ListFacts.{contained_at}
use Rattle.wit_link_spec.specs.Reasons.{of_include}
use Rattle.wit_link_lookup.proofs.Ready.{world-flag}
use Rattle.wit_link_lookup.proofs.ReferencesStay.{refers-entry}
use Rattle.wit_data.specs.facts.EachFacts.{all_of, one_more, one_skip}
use Rattle.wit_link_lookup.proofs.Elements.{element_at}
use Rattle.wit_link_lookup.proofs.checker.Checker.look_at_worlds.Goals as goal

pub loop-index-preserved-then-not-flag_at : goal.loop-index-preserved-then-not-flag_at
loop-index-preserved-then-not-flag_at c =
    let none = sym (world-flag c.args.self.now c.requires c.loop-index.index) ∙ (sym c.flag_at.ensures ∙ c.if-not-flag_at.true) in
    one_skip c.loop-index.invariant (λ _ _ active. absurd (false≢true (sym none ∙ active)))

pub look_at_entries-requires-clause-refer : goal.look_at_entries-requires-clause-refer
look_at_entries-requires-clause-refer c =
    let active = sym (world-flag c.args.self.now c.requires c.loop-index.index) ∙ (sym c.flag_at.ensures ∙ c.if-not-flag_at.false) in
    λ i e at. refers-entry c.args.self.now c.loop-index.index c.index-worlds-index.result e.0 e.1 (element_at c.args.self.now.addition.unresolved.now.worlds c.as_slice-worlds.result.now _ c.loop-index.index c.index-worlds-index.result c.as_slice-worlds.ensures refl c.loop-index-test.true c.index-worlds-index.is) active (inl (contained_at c.index-worlds-index.result.imports i e at))

pub look_at_entries-requires-in-loop-index-clause-refer : goal.look_at_entries-requires-in-loop-index-clause-refer
look_at_entries-requires-in-loop-index-clause-refer c =
    let active = sym (world-flag c.args.self.now c.requires c.loop-index.index) ∙ (sym c.flag_at.ensures ∙ c.if-not-flag_at.false) in
    λ i e at. refers-entry c.args.self.now c.loop-index.index c.index-worlds-index.result e.0 e.1 (element_at c.args.self.now.addition.unresolved.now.worlds c.as_slice-worlds.result.now _ c.loop-index.index c.index-worlds-index.result c.as_slice-worlds.ensures refl c.loop-index-test.true c.index-worlds-index.is) active (inr (contained_at c.index-worlds-index.result.exports i e at))

pub look_at_includes-requires-clause-refer : goal.look_at_includes-requires-clause-refer
look_at_includes-requires-clause-refer c =
    let active = sym (world-flag c.args.self.now c.requires c.loop-index.index) ∙ (sym c.flag_at.ensures ∙ c.if-not-flag_at.false) in
    λ i include at on. of_include c.loop-index.index c.index-worlds-index.result include (element_at c.args.self.now.addition.unresolved.now.worlds c.as_slice-worlds.result.now _ c.loop-index.index c.index-worlds-index.result c.as_slice-worlds.ensures refl c.loop-index-test.true c.index-worlds-index.is) active (contained_at c.index-worlds-index.result.includes i include at) on

pub loop-index-preserved : goal.loop-index-preserved
loop-index-preserved c =
    one_more c.loop-index.invariant _ (element_at c.args.self.now.addition.unresolved.now.worlds c.as_slice-worlds.result.now _ c.loop-index.index c.index-worlds-index.result c.as_slice-worlds.ensures refl c.loop-index-test.true c.index-worlds-index.is) (λ _. record {
      imports = c.in_ok-look_at_entries.ensures.stay;
      exports = c.in_ok-look_at_entries-2.ensures.stay;
      includes = c.in_ok-look_at_includes.ensures.stay;
    })

pub returns-clause-stay : goal.returns-clause-stay
returns-clause-stay c = all_of c.loop-index.invariant (omega (arith, ap length c.as_slice-worlds.ensures))
