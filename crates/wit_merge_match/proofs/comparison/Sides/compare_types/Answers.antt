use Rattle.std.proofs.Common.{rules}
use Rattle.wit_merge_match.proofs.CompareSteps.{name_alone, name_there, names_apart}
use Rattle.wit_merge_match.proofs.comparison.Sides.compare_types.Goals as goal

pub returns-else-are_matched-clause-compares : goal.returns-else-are_matched-clause-compares
returns-else-are_matched-clause-compares c =
    names_apart c.args.self.now c.requires.sides c.args.from c.args.into (search rules) (search rules) (λ same. let on = c.are_matched.ensures.1 same in cc)

pub returns-in-true-false-clause-compares : goal.returns-in-true-false-clause-compares
returns-in-true-false-clause-compares c = name_alone c.args.self.now c.requires.sides c.args.from c.args.into (search rules) (search rules) c.requires.into

pub returns-in-true-false-2-clause-compares : goal.returns-in-true-false-2-clause-compares
returns-in-true-false-2-clause-compares c = name_there c.args.self.now c.requires.sides c.args.from c.args.into (search rules) (search rules) c.requires.from
