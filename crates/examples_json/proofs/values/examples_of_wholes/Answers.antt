use Rattle.std.proofs.Common.{refl}
use Rattle.std.specs.Fmt.{digits}
use Rattle.json.specs.Print.{escape_byte, print_from}
use Rattle.wit_values.specs.facts.Lists.{differ}
use Rattle.examples_json.proofs.values.examples_of_wholes.Goals as goal

pub returns : goal.returns
unfolding digits escape_byte print_from
returns c = record {
  features = refl;
  not_all = differ _ _ refl;
  not_one = differ _ _ refl;
  all = refl;
  rule = refl;
  other_rule = refl;
  files = refl;
  in_order = differ _ _ refl;
  with_texts = differ _ _ refl;
  whole = refl;
  not_inside = differ _ _ refl;
}
