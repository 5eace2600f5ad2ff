use Rattle.std.specs.Cmp.Lexicographic.{nat_list_eq_equiv}
use Rattle.wit_values.specs.facts.Lists.{HasDistinctKeys-from_test}
use Rattle.wit_values.proofs.names.Names.keys_differ.Goals as goal

pub returns-clause-keys : goal.returns-clause-keys
returns-clause-keys g c = HasDistinctKeys-from_test nat_list_eq_equiv c.args.self.now c.iter.ensures.distinct
