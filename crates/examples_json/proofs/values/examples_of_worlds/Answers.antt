use Rattle.std.proofs.Common.{refl}
use Rattle.std.specs.Fmt.{digits}
use Rattle.json.specs.Print.{escape_byte, print_from}
use Rattle.wit_values.specs.facts.Lists.{differ}
use Rattle.examples_json.proofs.values.examples_of_worlds.Goals as goal

pub returns : goal.returns
unfolding digits escape_byte print_from
returns c = record {
  own_key = refl;
  no_docs_inside = differ _ _ refl;
  not_next = differ _ _ refl;
  gated = refl;
  no_gate_dropped = differ _ _ refl;
  labelled = refl;
  marked = refl;
  own_label = differ _ _ refl;
  with_zeros = refl;
  no_number = refl;
  two_marks = refl;
  held_type = refl;
  not_object = differ _ _ refl;
  with_function = refl;
  whole = refl;
  not_exported = differ _ _ refl;
  empty = refl;
}
