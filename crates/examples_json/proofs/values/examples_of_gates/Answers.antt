use Rattle.std.proofs.Common.{refl}
use Rattle.std.specs.Fmt.{digits}
use Rattle.json.specs.Print.{escape_byte, print_from}
use Rattle.wit_values.specs.facts.Lists.{differ}
use Rattle.examples_json.proofs.values.examples_of_gates.Goals as goal

pub returns : goal.returns
unfolding digits escape_byte print_from
returns c = record {
  docs = refl;
  not_bare = differ _ _ refl;
  not_dropped = differ _ _ refl;
  escaped = refl;
  empty_docs = refl;
  no_docs = refl;
  no_null = differ _ _ refl;
  since = refl;
  no_deprecation = differ _ _ refl;
  deprecated = refl;
  not_exchanged = differ _ _ refl;
  feature = refl;
  not_stable = differ _ _ refl;
  deprecated_feature = refl;
  unknown = refl;
  not_said = differ _ _ refl;
}
