use Rattle.std.proofs.Common.{refl}
use Rattle.wit_json_reading.specs.Reading.{read_or}
use Rattle.std.specs.Fmt.{digits}
use Rattle.json.proofs.OnLiterals.{json_on_literals}
use Rattle.semver.proofs.OnLiterals.{semver_on_literals}
use Rattle.wit_json_reading.specs.Functions.{read_function_kind, read_function, read_param}
use Rattle.wit_json_reading.specs.Gates.{read_contents, read_docs, read_any_gate, read_place, read_range, read_span, read_stability, read_stable, read_unstable}
use Rattle.wit_json_reading.specs.Types.{read_case, read_enum_case, read_field, read_flag, read_kind_by, read_kind, read_owner, read_result, read_type_def, read_type}
use Rattle.wit_json_reading.specs.Values.{decimal_of, read_small_number, read_version}
use Rattle.examples_json.proofs.values.examples_of_read_functions.Goals as goal

pub returns : goal.returns
unfolding json_on_literals semver_on_literals digits read_function_kind read_function read_param read_contents read_docs read_any_gate read_place read_range read_span read_stability read_stable read_unstable read_case read_enum_case read_field read_flag read_kind_by read_kind read_owner read_result read_type_def read_type decimal_of read_small_number read_version read_or
returns c = record {
  free = refl;
  async = refl;
  method = refl;
  static_ = refl;
  constructor = refl;
  getter = refl;
  no_resource = refl;
  no_id = refl;
  no_kind = refl;
  param = refl;
  whole = refl;
  no_result = refl;
  null_result = refl;
  no_params = refl;
}
