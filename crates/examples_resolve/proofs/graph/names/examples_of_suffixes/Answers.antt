use Rattle.std.proofs.Common.{refl}
use Rattle.std.specs.Fmt.{digits}
use Rattle.examples_resolve.proofs.OfGraphs.Apart.{not_there, some_differ, there}
use Rattle.examples_resolve.proofs.graph.names.examples_of_suffixes.Goals as goal

pub returns : goal.returns
unfolding digits
returns c = record {
  together = refl;
  not_number_alone = some_differ _ _ refl;
  not_whole = some_differ _ _ refl;
  not_none = there _;
  both = refl;
  not_last_alone = some_differ _ _ refl;
  whole = refl;
  not_empty = not_there _;
  unversioned = refl;
  own = refl;
  not_of_another = not_there _;
  unplaced = refl;
  no_interface = refl;
}
