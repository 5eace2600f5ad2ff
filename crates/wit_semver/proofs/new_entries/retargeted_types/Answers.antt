use Rattle.std.proofs.Common.{◌≡◌, ◌∙◌, ◌+◌, ◌≤◌, ◌++◌, ◌∷◌, [], ℕ, List, length, map, nat_eq, sym, ap, arith}
use Rattle.std.specs.List.{enumerate_from}
use Rattle.std.specs.Map.{lookup}
use Rattle.std.proofs.lemmas.List.{take_all}
use Rattle.wit_values.specs.facts.Lists.{map-next}
use Rattle.wit_data.specs.declared.types.TypeDef.{TypeDef}
use Rattle.wit_graph_theory.specs.facts.PackagesAcyclic.{length-numbered, numbered_into}
use Rattle.wit_semver.proofs.new_entries.retargeted_types.Goals as goal
use Rattle.wit_semver.specs.steps.Parts.{retargeted}

pub loop-index-preserved : goal.loop-index-preserved
loop-index-preserved c =
    let types = c.args.types.now in
    let targets = c.args.targets.now in
    let index = c.loop-index.index in
    let def = c.at.result.now in
    let f = λ (e : ℕ × TypeDef). retargeted e.1 (lookup (nat_eq e.0) targets) in
    let zero_more : 0 + index ≡ index = omega arith in
    let item : c.in_ok-retargeted.field-0 ≡ f (0 + index, def) =
    c.in_ok-retargeted.ensures ∙ ap (retargeted def) (c.copied-target.ensures ∙ c.get.ensures ∙ ap (λ (i : ℕ). lookup (nat_eq i) targets) (c.from_index.ensures ∙ sym zero_more)) in
    c.in_ok-push.ensures.ok ∙ ap (λ (x : TypeDef). c.loop-index.made ++ x ∷ []) item ∙ ap (λ (xs : List TypeDef). xs ++ f (0 + index, def) ∷ []) c.loop-index.invariant
    ∙ sym (map-next f (enumerate_from 0 types) index (0 + index, def) (numbered_into 0 types index def c.at.ensures))

pub returns : goal.returns
returns c =
    let types = c.args.types.now in
    let long = length-numbered 0 types in
    let past : length (enumerate_from 0 types) ≤ c.loop-index.index = omega (arith, long, c.loop-index-test.false, c.len-index-end.ensures) in
    c.loop-index.invariant ∙ ap (map (λ (e : ℕ × TypeDef). retargeted e.1 (lookup (nat_eq e.0) c.args.targets.now))) (take_all c.loop-index.index (enumerate_from 0 types) past)
