use Rattle.std.proofs.Common.{refl}
use Rattle.std.specs.Fmt.{digits}
use Rattle.json.specs.Print.{escape_byte, print_from}
use Rattle.wit_values.specs.facts.Lists.{differ}
use Rattle.examples_json.proofs.runs.examples_of_answers.Goals as goal

pub returns : goal.returns
unfolding digits escape_byte print_from
returns c = record {
  done = refl;
  not_null = differ _ _ refl;
  no_world = refl;
  not_done = differ _ _ refl;
  no_package = refl;
  changed = refl;
  unmatched = refl;
  not_empty = differ _ _ refl;
  not_found = refl;
  pushed = refl;
  not_world = differ _ _ refl;
  chosen = refl;
  packages = refl;
  not_sorted = differ _ _ refl;
  not_once = differ _ _ refl;
  interfaces = refl;
  types = refl;
  text = refl;
  merged = refl;
  not_left_out = differ _ _ refl;
  refused = refl;
  told = refl;
  not_alone = differ _ _ refl;
  with_line = refl;
  with_way = refl;
  both_known = refl;
  other_by_the_graph = refl;
  not_of_another = refl;
  main = refl;
  nested = refl;
  among_deps = refl;
  nested_in_dep = refl;
  not_turned = differ _ _ refl;
  not_a_word = differ _ _ refl;
  core_names = refl;
}
