use Rattle.std.proofs.Common.{refl}
use Rattle.wit_json_reading.specs.Reading.{read_or}
use Rattle.std.specs.Fmt.{digits}
use Rattle.json.proofs.OnLiterals.{json_on_literals}
use Rattle.semver.proofs.OnLiterals.{semver_on_literals}
use Rattle.wit_json_reading.specs.Features.{read_features, read_names, read_rule}
use Rattle.wit_json_reading.specs.Functions.{read_function_kind, read_function, read_param}
use Rattle.wit_json_reading.specs.Gates.{read_contents, read_docs, read_any_gate, read_place, read_range, read_span, read_stability, read_stable, read_unstable}
use Rattle.wit_json_reading.specs.Graphs.{read_graph, read_graph_package}
use Rattle.wit_json_reading.specs.Groups.{read_group, read_source}
use Rattle.wit_json_reading.specs.Packages.{read_package_name, read_package}
use Rattle.wit_json_reading.specs.Types.{read_case, read_enum_case, read_field, read_flag, read_kind_by, read_kind, read_owner, read_result, read_type_def, read_type}
use Rattle.wit_json_reading.specs.Values.{decimal_of, read_small_number, read_version}
use Rattle.wit_json_reading.specs.Worlds.{read_include_name, read_include, read_interface_entry, read_interface, read_placed_type, read_world}
use Rattle.examples_json.proofs.values.examples_of_read_graphs.Goals as goal

pub returns : goal.returns
unfolding json_on_literals semver_on_literals digits read_features read_names read_rule read_function_kind read_function read_param read_contents read_docs read_any_gate read_place read_range read_span read_stability read_stable read_unstable read_graph read_graph_package read_group read_source read_package_name read_package read_case read_enum_case read_field read_flag read_kind_by read_kind read_owner read_result read_type_def read_type decimal_of read_small_number read_version read_include_name read_include read_interface_entry read_interface read_placed_type read_world read_or
returns c = record {
  empty = refl;
  small = refl;
  same_package = refl;
  no_types = refl;
  with_includes = refl;
  features = refl;
  all = refl;
  no_names = refl;
  rule = refl;
  no_rule = refl;
}
