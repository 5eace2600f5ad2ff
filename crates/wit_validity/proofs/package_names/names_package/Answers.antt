use Rattle.std.proofs.Common.{ℕ, Some, sym, ap, ◌∙◌}
use Rattle.std.proofs.lemmas.Bool.Decides.{Decides-eqb}
use Rattle.wit_names.specs.facts.PackageNameFacts.{same_package-Decides}
use Rattle.wit_validity.proofs.LookUps.{is_found, none_found}
use Rattle.wit_validity.proofs.package_names.names_package.Goals as goal

pub returns-in-Some : goal.returns-in-Some
returns-in-Some c =
    let there = is_found same_package-Decides c.args.names.now c.args.name.now c.index.result c.args.index c.keys_differ.ensures.test (sym c.in-Some.ensures ∙ ap (λ (i : ℕ). Some i) (sym c.index.ensures)) in
    let same = Decides-eqb c.index.result c.args.index in
    (λ passed. there.0 (same.0 passed), λ has. same.1 (there.1 has))

pub returns-in-None : goal.returns-in-None
returns-in-None c = none_found same_package-Decides c.args.names.now c.args.name.now c.args.index c.keys_differ.ensures.test (sym c.in-None.ensures)
