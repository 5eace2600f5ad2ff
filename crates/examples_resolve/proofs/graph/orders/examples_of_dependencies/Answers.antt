use Rattle.std.proofs.Common.{refl}
use Rattle.wit_values.specs.facts.Lists.{differ}
use Rattle.examples_resolve.proofs.graph.orders.examples_of_dependencies.Goals as goal

pub returns : goal.returns
returns c = record {
  nothing = refl;
  not_users = differ _ _ refl;
  with_repeats = refl;
  not_once = differ _ _ refl;
  not_itself = differ _ _ refl;
  direct = refl;
  not_reached = differ _ _ refl;
  in_order = refl;
  not_by_id = differ _ _ refl;
  no_interface = refl;
}
