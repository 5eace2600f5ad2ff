use Rattle.std.proofs.Common.{◌∙◌, inl, inr, sym, arith, ap, length, refl}
use Rattle.std.proofs.lemmas.Bool.{false≢true}
use Rattle.wit_graph_theory.specs.facts.ListFacts.{contained_at}
use Rattle.wit_link_spec.specs.Gates.{of_entry, of_include}
use Rattle.wit_link_lookup.proofs.Ready.{world-flag}
use Rattle.wit_data.specs.facts.EachFacts.{all_of, one_more, one_skip}
use Rattle.wit_link_lookup.proofs.Elements.{element_at}
use Rattle.wit_link_lookup.proofs.checker.Checker.check_parts_of_worlds.Goals as goal

pub loop-index-preserved-then-not-flag_at : goal.loop-index-preserved-then-not-flag_at
loop-index-preserved-then-not-flag_at c =
    let none = sym (world-flag c.args.self.now c.requires c.loop-index.index) ∙ (sym c.flag_at.ensures ∙ c.if-not-flag_at.true) in
    one_skip c.loop-index.invariant (λ _ _ active. absurd (false≢true (sym none ∙ active)))

pub check_entries-requires : goal.check_entries-requires
check_entries-requires c =
    let active = sym (world-flag c.args.self.now c.requires c.loop-index.index) ∙ (sym c.flag_at.ensures ∙ c.if-not-flag_at.false) in
    λ i e at note place noted. of_entry c.loop-index.index c.index-worlds-index.result e note place (element_at c.args.self.now.addition.unresolved.now.worlds c.as_slice-worlds.result.now _ c.loop-index.index c.index-worlds-index.result c.as_slice-worlds.ensures refl c.loop-index-test.true c.index-worlds-index.is) active (inl (contained_at c.index-worlds-index.result.imports i e at)) noted

pub check_entries-requires-in-loop-index : goal.check_entries-requires-in-loop-index
check_entries-requires-in-loop-index c =
    let active = sym (world-flag c.args.self.now c.requires c.loop-index.index) ∙ (sym c.flag_at.ensures ∙ c.if-not-flag_at.false) in
    λ i e at note place noted. of_entry c.loop-index.index c.index-worlds-index.result e note place (element_at c.args.self.now.addition.unresolved.now.worlds c.as_slice-worlds.result.now _ c.loop-index.index c.index-worlds-index.result c.as_slice-worlds.ensures refl c.loop-index-test.true c.index-worlds-index.is) active (inr (contained_at c.index-worlds-index.result.exports i e at)) noted

pub check_includes-requires : goal.check_includes-requires
check_includes-requires c =
    let active = sym (world-flag c.args.self.now c.requires c.loop-index.index) ∙ (sym c.flag_at.ensures ∙ c.if-not-flag_at.false) in
    λ i include at. of_include c.loop-index.index c.index-worlds-index.result include (element_at c.args.self.now.addition.unresolved.now.worlds c.as_slice-worlds.result.now _ c.loop-index.index c.index-worlds-index.result c.as_slice-worlds.ensures refl c.loop-index-test.true c.index-worlds-index.is) active (contained_at c.index-worlds-index.result.includes i include at)

pub loop-index-preserved : goal.loop-index-preserved
loop-index-preserved c =
    one_more c.loop-index.invariant _ (element_at c.args.self.now.addition.unresolved.now.worlds c.as_slice-worlds.result.now _ c.loop-index.index c.index-worlds-index.result c.as_slice-worlds.ensures refl c.loop-index-test.true c.index-worlds-index.is) (λ _. record {
      imports = c.in_ok-check_entries.ensures.met;
      exports = c.in_ok-check_entries-2.ensures.met;
      includes = c.in_ok-check_includes.ensures.met;
    })

pub returns-clause-met : goal.returns-clause-met
returns-clause-met c = all_of c.loop-index.invariant (omega (arith, ap length c.as_slice-worlds.ensures))
