use Rattle.std.proofs.Common.{◌≡◌, Option, Some, rules, subst}
use Rattle.wit_data.specs.declared.types.Type_.{Type_}
use Rattle.wit_merge_match.specs.steps.ComparisonSteps.{AreThere}
use Rattle.wit_merge_match.proofs.CompareSteps.{none_some_by, some_none_by}
use Rattle.wit_merge_match.proofs.comparison.Sides.compare_held.Goals as goal

pub compare_some-requires-clause-one : goal.compare_some-requires-clause-one
compare_some-requires-clause-one c =
    let is : c.args.one ≡ Some c.in-Some-Some.from = search rules in
    subst (λ (o : Option Type_). AreThere c.args.self.now.from.now o) is c.requires.one

pub compare_some-requires-clause-other : goal.compare_some-requires-clause-other
compare_some-requires-clause-other c =
    let is : c.args.other ≡ Some c.in-Some-Some.into = search rules in
    subst (λ (o : Option Type_). AreThere c.args.self.now.into.now o) is c.requires.other

pub returns-in-Some-None-clause-compares : goal.returns-in-Some-None-clause-compares
returns-in-Some-None-clause-compares c = none_some_by c.args.self.now c.requires.sides c.args.one c.args.other (search rules) (search rules) c.requires.other

pub returns-in-Some-None-2-clause-compares : goal.returns-in-Some-None-2-clause-compares
returns-in-Some-None-2-clause-compares c = some_none_by c.args.self.now c.requires.sides c.args.one c.args.other (search rules) (search rules) c.requires.one
