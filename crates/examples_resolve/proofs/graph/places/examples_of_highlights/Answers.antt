use Rattle.std.proofs.Common.{refl}
use Rattle.std.specs.Fmt.{digits}
use Rattle.wit_values.specs.facts.Lists.{differ}
use Rattle.examples_resolve.proofs.graph.places.examples_of_highlights.Goals as goal

pub returns : goal.returns
unfolding digits
returns c = record {
  told = refl;
  later = refl;
  end_of_a_file = refl;
  in_no_file = refl;
  unknown = refl;
  three_characters = refl;
  within_a_line = refl;
  one_character = refl;
  empty = refl;
  cut_at_its_end = refl;
  cut_at_its_beginning = refl;
  with_a_line_feed = refl;
  past_the_file = refl;
  too_long = refl;
  just_shown = refl;
  not_further = differ _ _ refl;
  not_longer = differ _ _ refl;
  not_bytes = differ _ _ refl;
}
