use Rattle.std.proofs.Common.{refl}
use Rattle.std.specs.Fmt.{digits}
use Rattle.json.specs.Print.{escape_byte, print_from}
use Rattle.wit_values.specs.facts.Lists.{differ}
use Rattle.examples_json.proofs.values.examples_of_interfaces.Goals as goal

pub returns : goal.returns
unfolding digits escape_byte print_from
returns c = record {
  whole = refl;
  no_type_dropped = differ _ _ refl;
  not_next = differ _ _ refl;
  unnamed = refl;
  docs = refl;
  not_last = differ _ _ refl;
  with_function = refl;
}
