use Rattle.std.proofs.Common.{refl}
use Rattle.std.specs.Fmt.{digits}
use Rattle.json.specs.Print.{escape_byte, print_from}
use Rattle.wit_values.specs.facts.Lists.{differ}
use Rattle.examples_json.proofs.values.examples_of_details.Goals as goal

pub returns : goal.returns
unfolding digits escape_byte print_from
returns c = record {
  placed = refl;
  not_exchanged = differ _ _ refl;
  not_dropped = differ _ _ refl;
  nothing = refl;
  not_null = differ _ _ refl;
  parts = refl;
  not_shorter = differ _ _ refl;
  no_parts = refl;
  with_params = refl;
  no_param_dropped = differ _ _ refl;
  functions = refl;
  entry = refl;
  not_without_docs = differ _ _ refl;
  held_type = refl;
  entries = refl;
  no_exports_as_imports = differ _ _ refl;
  lists = refl;
}
