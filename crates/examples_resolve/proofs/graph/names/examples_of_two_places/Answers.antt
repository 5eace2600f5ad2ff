use Rattle.std.proofs.Common.{refl}
use Rattle.std.specs.Fmt.{digits}
use Rattle.wit_values.specs.facts.Lists.{differ}
use Rattle.examples_resolve.proofs.graph.names.examples_of_two_places.Goals as goal

pub returns : goal.returns
unfolding digits
returns c = record {
  text = refl;
  not_transformed = differ _ _ refl;
  not_first_alone = differ _ _ refl;
  not_on_one_line = differ _ _ refl;
  not_ended = differ _ _ refl;
  both = refl;
  not_both_first = differ _ _ refl;
  not_second_first = differ _ _ refl;
  not_text_alone = differ _ _ refl;
  first_unknown = refl;
  not_left_out = differ _ _ refl;
  one_place = refl;
  not_listed = differ _ _ refl;
}
