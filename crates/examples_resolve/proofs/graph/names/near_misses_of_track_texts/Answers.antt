use Rattle.std.proofs.Common.{refl}
use Rattle.std.specs.Fmt.{digits}
use Rattle.wit_values.specs.facts.Lists.{differ}
use Rattle.examples_resolve.proofs.OfGraphs.Apart.{not_there, some_differ, there}
use Rattle.examples_resolve.proofs.graph.names.near_misses_of_track_texts.Goals as goal

pub returns : goal.returns
unfolding digits
returns c = record {
  not_zeros = differ _ _ refl;
  not_two = differ _ _ refl;
  not_zero_behind = differ _ _ refl;
  not_zero_alone = differ _ _ refl;
  not_zeros_alone = differ _ _ refl;
  not_of_release = differ _ _ refl;
  not_with_build = differ _ _ refl;
  not_numbers_alone = some_differ _ _ refl;
  not_last_alone = some_differ _ _ refl;
  not_without_build = some_differ _ _ refl;
  not_empty = not_there _;
  not_pre_release = some_differ _ _ refl;
  not_none = there _;
}
