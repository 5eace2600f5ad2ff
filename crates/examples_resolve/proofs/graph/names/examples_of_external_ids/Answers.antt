use Rattle.std.proofs.Common.{refl}
use Rattle.examples_resolve.proofs.OfGraphs.Apart.{not_there, some_differ, there}
use Rattle.examples_resolve.proofs.graph.names.examples_of_external_ids.Goals as goal

pub returns : goal.returns
returns c = record {
  interface = refl;
  not_of_a_type = some_differ _ _ refl;
  interface_without = refl;
  still_not_of_a_type = not_there _;
  function = refl;
  not_left_out = there _;
  not_its_name = some_differ _ _ refl;
  function_without = refl;
  of_type = refl;
  not_of_the_first = some_differ _ _ refl;
  not_missing = there _;
  type_without = refl;
  no_type = refl;
}
