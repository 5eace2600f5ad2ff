use Rattle.std.proofs.Common.{refl}
use Rattle.std.specs.Fmt.{digits}
use Rattle.wit_sources.specs.Shown.{start_up_to}
use Rattle.wit_values.specs.facts.Lists.{differ}
use Rattle.examples_resolve.proofs.graph.places.examples_of_shown.Goals as goal

pub returns : goal.returns
unfolding digits start_up_to
returns c = record {
  told = refl;
  in_no_file = refl;
  unknown = refl;
  whole_characters = refl;
  to_its_end = refl;
  past_its_end = refl;
  not_a_part = differ _ _ refl;
  not_as_whole = differ _ _ refl;
}
