use Rattle.std.proofs.Common.{refl}
use Rattle.std.specs.Fmt.{digits}
use Rattle.wit_values.specs.facts.Lists.{differ}
use Rattle.examples_resolve.proofs.graph.places.examples_of_locations.Goals as goal

pub returns : goal.returns
unfolding digits
returns c = record {
  beginning = refl;
  second_line = refl;
  within_a_line = refl;
  at_a_line_feed = refl;
  end_of_a_file = refl;
  next_file = refl;
  end_of_all = refl;
  past_all = refl;
  unknown = refl;
  with_base = refl;
  before_base = refl;
  after_a_wide_character = refl;
  in_a_wide_character = refl;
  not_bytes = differ _ _ refl;
  not_the_next_file = differ _ _ refl;
  not_from_zero = differ _ _ refl;
  not_one_line = differ _ _ refl;
}
