use Rattle.std.proofs.Common.{refl}
use Rattle.std.specs.Fmt.{digits}
use Rattle.json.specs.Print.{escape_byte, print_from}
use Rattle.wit_values.specs.facts.Lists.{differ}
use Rattle.examples_json.proofs.runs.examples_of_documents.Goals as goal

pub returns : goal.returns
unfolding digits escape_byte print_from
returns c = record {
  «merge» = refl;
  not_beside = differ _ _ refl;
  plain = refl;
  fault = refl;
  not_upwards = differ _ _ refl;
  not_turned = differ _ _ refl;
  invalid = refl;
  not_the_graph = differ _ _ refl;
  nothing = refl;
  not_published = differ _ _ refl;
}
