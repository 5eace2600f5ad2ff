use Rattle.std.proofs.Common.{refl}
use Rattle.std.specs.Fmt.{digits}
use Rattle.json.specs.Print.{escape_byte, print_from}
use Rattle.wit_values.specs.facts.Lists.{differ}
use Rattle.examples_json.proofs.values.examples_of_refusals.Goals as goal

pub returns : goal.returns
unfolding digits escape_byte print_from
returns c = record {
  world = refl;
  not_next = differ _ _ refl;
  no_other_cause = differ _ _ refl;
  not_without_span = differ _ _ refl;
  cycle = refl;
  not_semantic = differ _ _ refl;
  twice = refl;
  memory = refl;
  not_null = differ _ _ refl;
}
