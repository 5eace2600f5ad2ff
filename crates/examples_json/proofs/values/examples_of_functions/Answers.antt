use Rattle.std.proofs.Common.{refl}
use Rattle.std.specs.Fmt.{digits}
use Rattle.json.specs.Print.{escape_byte, print_from}
use Rattle.wit_values.specs.facts.Lists.{differ}
use Rattle.examples_json.proofs.values.examples_of_functions.Goals as goal

pub returns : goal.returns
unfolding digits escape_byte print_from
returns c = record {
  free = refl;
  async = refl;
  not_sync = differ _ _ refl;
  method = refl;
  not_static = differ _ _ refl;
  not_next = differ _ _ refl;
  async_method = refl;
  static = refl;
  async_static = refl;
  constructor = refl;
  getter = refl;
  setter = refl;
  method_getter = refl;
  method_setter = refl;
  static_getter = refl;
  static_setter = refl;
  whole = refl;
  no_param_dropped = differ _ _ refl;
  not_results = differ _ _ refl;
  no_result = refl;
  not_null = differ _ _ refl;
  docs = refl;
}
