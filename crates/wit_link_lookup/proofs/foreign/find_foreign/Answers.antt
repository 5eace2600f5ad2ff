use Rattle.std.proofs.Common.{◌∙◌, [], None, Option, ℕ, ap, arith, map, subst}
use Rattle.std.specs.List.{range_with_len}
use Rattle.wit_digraph.specs.facts.MemberFacts.{Contains-nil}
use Rattle.wit_link_spec.specs.steps.AdditionRefs.{addition_of}
use Rattle.wit_link_lookup.specs.steps.ForeignItems.{AreThere, found_among}
use Rattle.wit_link_lookup.proofs.NamedItems.{before-all}
use Rattle.wit_link_lookup.proofs.Steps.{found_from}
use Rattle.wit_link_lookup.proofs.foreign.find_foreign.Goals as goal

pub loop-index-init : goal.loop-index-init
loop-index-init c =
    let a = addition_of c.args.addition.now in
    record {
      found = found_from a [] (record { interfaces = c.in_ok-interfaces.interfaces; worlds = c.in_ok-worlds.worlds })
          (c.in_ok-interfaces.ensures ∙ ap (λ (n : ℕ). map (λ (i : ℕ). let o : Option ℕ = None in o) (range_with_len 0 n)) c.len.ensures)
          (c.in_ok-worlds.ensures ∙ ap (λ (n : ℕ). map (λ (i : ℕ). let o : Option ℕ = None in o) (range_with_len 0 n)) c.len-2.ensures);
      there = λ e has active none. Contains-nil has;
      packages = λ span requested known lacks below. absurd (omega (arith, below));
    }

pub returns-clause-found : goal.returns-clause-found
returns-clause-found c =
    c.loop-index.invariant.found ∙ ap (found_among (addition_of c.args.addition.now)) (before-all c.args.addition.now.unresolved.now.foreign_deps c.loop-index.index (omega (arith, c.loop-index-test.false, c.len-index-end.ensures.len)))

pub returns-clause-there : goal.returns-clause-there
returns-clause-there c =
    subst (AreThere (addition_of c.args.addition.now)) (before-all c.args.addition.now.unresolved.now.foreign_deps c.loop-index.index (omega (arith, c.loop-index-test.false, c.len-index-end.ensures.len))) c.loop-index.invariant.there

pub returns-clause-packages : goal.returns-clause-packages
returns-clause-packages c = λ span requested known lacks below. c.loop-index.invariant.packages span requested known lacks (omega (arith, below, c.loop-index-test.false, c.len-index-end.ensures.len))
