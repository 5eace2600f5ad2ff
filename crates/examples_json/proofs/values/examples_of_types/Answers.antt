use Rattle.std.proofs.Common.{refl}
use Rattle.std.specs.Fmt.{digits}
use Rattle.json.specs.Print.{escape_byte, print_from}
use Rattle.wit_values.specs.facts.Lists.{differ}
use Rattle.examples_json.proofs.values.examples_of_types.Goals as goal

pub returns : goal.returns
unfolding digits escape_byte print_from
returns c = record {
  word = refl;
  not_type = differ _ _ refl;
  unsigned = refl;
  signed = refl;
  not_unsigned = differ _ _ refl;
  float = refl;
  context = refl;
  not_joined = differ _ _ refl;
  id = refl;
  not_next = differ _ _ refl;
  not_text = differ _ _ refl;
  of_interface = refl;
  not_of_world = differ _ _ refl;
  of_world = refl;
  of_nobody = refl;
  named = refl;
  not_nameless = differ _ _ refl;
  unnamed = refl;
}
