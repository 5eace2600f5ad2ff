use Rattle.std.proofs.Common.{refl}
use Rattle.wit_json_reading.specs.Reading.{read_or}
use Rattle.std.specs.Fmt.{digits}
use Rattle.json.proofs.OnLiterals.{json_on_literals}
use Rattle.semver.proofs.OnLiterals.{semver_on_literals}
use Rattle.wit_json_reading.specs.Features.{read_features, read_names, read_rule}
use Rattle.wit_json_reading.specs.Functions.{read_function_kind, read_function, read_param}
use Rattle.wit_json_reading.specs.Gates.{read_contents, read_docs, read_any_gate, read_place, read_range, read_span, read_stability, read_stable, read_unstable}
use Rattle.wit_json_reading.specs.Graphs.{read_graph, read_graph_package}
use Rattle.wit_json_reading.specs.Groups.{read_group, read_source}
use Rattle.wit_json_reading.specs.Packages.{read_package_name, read_package}
use Rattle.wit_json_reading.specs.Types.{read_case, read_enum_case, read_field, read_flag, read_kind_by, read_kind, read_owner, read_result, read_type_def, read_type}
use Rattle.wit_json_reading.specs.Values.{decimal_of, read_small_number, read_version}
use Rattle.wit_json_reading.specs.Worlds.{read_include_name, read_include, read_interface_entry, read_interface, read_placed_type, read_world}
use Rattle.wit_json_graphs.specs.Details.{entry_with, function_with_details, graph_with, interface_with, item_with, kind_with, span_alone, type_with_details, world_with}
use Rattle.wit_json_graphs.specs.Resolves.{read_resolve}
use Rattle.wit_json_commands.specs.Changes.{read_change_by, read_exportize, read_importize, read_push, read_semver}
use Rattle.wit_json_commands.specs.Orders.{read_document, read_order, read_request, read_strict_document}
use Rattle.wit_json_commands.specs.Questions.{read_canonical_id, read_core_names, read_interface_question as interface_asked, read_mangling, read_place_in as place_asked, read_question_by, read_select}
use Rattle.examples_json.proofs.values.examples_of_read_questions.Goals as goal

pub returns : goal.returns
unfolding json_on_literals semver_on_literals digits read_features read_names read_rule read_function_kind read_function read_param read_contents read_docs read_any_gate read_place read_range read_span read_stability read_stable read_unstable read_graph read_graph_package read_group read_source read_package_name read_package read_case read_enum_case read_field read_flag read_kind_by read_kind read_owner read_result read_type_def read_type decimal_of read_small_number read_version read_include_name read_include read_interface_entry read_interface read_placed_type read_world entry_with function_with_details graph_with interface_with item_with kind_with span_alone type_with_details world_with read_resolve read_change_by read_exportize read_importize read_push read_semver read_document read_order read_request read_canonical_id read_core_names read_mangling read_question_by read_select interface_asked place_asked read_or read_strict_document
returns c = record {
  select = refl;
  no_name = refl;
  one_package = refl;
  dependencies = refl;
  of_interface = refl;
  not_world = refl;
  canonical = refl;
  core_names = refl;
  standard = refl;
  callback = refl;
  stackful = refl;
  no_mangling = refl;
  imported = refl;
  no_place = refl;
  no_commands = refl;
  no_list = refl;
  no_word = refl;
  no_resolve = refl;
  lenient = refl;
  not_lenient = refl;
  not_of_commands = refl;
}
