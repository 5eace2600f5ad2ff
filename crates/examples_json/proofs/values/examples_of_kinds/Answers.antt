use Rattle.std.proofs.Common.{refl}
use Rattle.std.specs.Fmt.{digits}
use Rattle.json.specs.Print.{escape_byte, print_from}
use Rattle.wit_values.specs.facts.Lists.{differ}
use Rattle.examples_json.proofs.values.examples_of_kinds.Goals as goal

pub returns : goal.returns
unfolding digits escape_byte print_from
returns c = record {
  fields = refl;
  no_docs_dropped = differ _ _ refl;
  no_field_dropped = differ _ _ refl;
  not_under_names = differ _ _ refl;
  resource = refl;
  owned = refl;
  borrowed = refl;
  not_owned = differ _ _ refl;
  flags = refl;
  tuple = refl;
  in_order = differ _ _ refl;
  cases = refl;
  no_type_dropped = differ _ _ refl;
  enum = refl;
  not_variant = differ _ _ refl;
  option = refl;
  result_ = refl;
  not_exchanged = differ _ _ refl;
  list = refl;
  «map» = refl;
  key_first = differ _ _ refl;
  fixed = refl;
  not_list = differ _ _ refl;
  future = refl;
  stream = refl;
  not_future = differ _ _ refl;
  alias = refl;
  unknown = refl;
}
