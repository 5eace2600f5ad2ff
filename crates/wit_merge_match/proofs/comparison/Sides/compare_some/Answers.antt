use Rattle.std.proofs.Common.{rules}
use Rattle.wit_merge_match.proofs.CompareSteps.{id_primitive_by, primitive_id_by, primitives_apart, there_of}
use Rattle.wit_merge_match.proofs.comparison.Sides.compare_some.Goals as goal

pub compare_types-requires-clause-from : goal.compare_types-requires-clause-from
compare_types-requires-clause-from c = there_of c.args.self.now.from.now c.args.from c.index.result c.requires.one (search rules)

pub compare_types-requires-clause-into : goal.compare_types-requires-clause-into
compare_types-requires-clause-into c = there_of c.args.self.now.into.now c.args.into c.index-in-Some-Some.result c.requires.other (search rules)

pub returns-else-eq-clause-compares : goal.returns-else-eq-clause-compares
returns-else-eq-clause-compares c = primitives_apart c.args.self.now c.requires.sides c.args.from c.args.into (search rules) (search rules) (λ same. search rules)

pub returns-in-Some-None-clause-compares : goal.returns-in-Some-None-clause-compares
returns-in-Some-None-clause-compares c = id_primitive_by c.args.self.now c.requires.sides c.args.from c.args.into (search rules) (search rules) c.requires.one

pub returns-in-Some-None-2-clause-compares : goal.returns-in-Some-None-2-clause-compares
returns-in-Some-None-2-clause-compares c = primitive_id_by c.args.self.now c.requires.sides c.args.from c.args.into (search rules) (search rules) c.requires.other
