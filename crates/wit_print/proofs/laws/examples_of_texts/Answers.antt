use Rattle.std.proofs.Common.{refl}
use Rattle.wit_print.specs.Definitions.{definition_wit, kind_definition, use_wit}
use Rattle.wit_print.specs.Functions.{resource_around, signature_wit}
use Rattle.wit_print.specs.Headings.{block_wit, docs_wit, gate_wit, heading_wit}
use Rattle.wit_print.specs.Interfaces.{body_wit, interface_wit, methods_wit}
use Rattle.wit_print.specs.Names.{name_wit, path_wit}
use Rattle.wit_print.specs.Packages.{items_wit, other_wit, package_wit}
use Rattle.wit_print.specs.Types.{type_within}
use Rattle.wit_print.specs.Worlds.{entries_wit, world_wit}
use Rattle.wit_print.proofs.laws.examples_of_texts.Goals as goal

pub returns : goal.returns
unfolding definition_wit kind_definition use_wit resource_around signature_wit block_wit docs_wit gate_wit heading_wit body_wit interface_wit methods_wit name_wit path_wit items_wit other_wit package_wit type_within entries_wit world_wit
returns c = record {
  keyword = refl;
  longer_word = refl;
  documentation = refl;
  gate = refl;
  nested = refl;
  cycle = refl;
  own_path = refl;
  other_path = refl;
  record_and_function = refl;
  resource = refl;
  world = refl;
  all = refl;
  not_there = refl;
}
