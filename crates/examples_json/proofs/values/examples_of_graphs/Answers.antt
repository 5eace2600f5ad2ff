use Rattle.std.proofs.Common.{refl}
use Rattle.std.specs.Fmt.{digits}
use Rattle.json.specs.Print.{escape_byte, print_from}
use Rattle.wit_values.specs.facts.Lists.{differ}
use Rattle.examples_json.proofs.values.examples_of_graphs.Goals as goal

pub returns : goal.returns
unfolding digits escape_byte print_from
returns c = record {
  «package» = refl;
  not_sorted = differ _ _ refl;
  not_unversioned = differ _ _ refl;
  bare = refl;
  empty = refl;
  not_nothing = differ _ _ refl;
  small = refl;
}
