use Rattle.std.proofs.Common.{refl}
use Rattle.std.specs.Fmt.{digits}
use Rattle.json.specs.Print.{escape_byte, print_from}
use Rattle.wit_values.specs.facts.Lists.{differ}
use Rattle.examples_json.proofs.values.examples_of_news.Goals as goal

pub returns : goal.returns
unfolding digits escape_byte print_from
returns c = record {
  interface = refl;
  not_all_files = differ _ _ refl;
  nothing = refl;
}
