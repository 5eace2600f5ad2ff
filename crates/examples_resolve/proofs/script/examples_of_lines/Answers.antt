use Rattle.std.proofs.Common.{refl}
use Rattle.wit_names.specs.UsePath.{is_kebab_name, use_path_of}
use Rattle.examples_resolve.proofs.script.examples_of_lines.Goals as goal

pub returns : goal.returns
unfolding use_path_of is_kebab_name
returns c = record {
  nothing = refl;
  comment = refl;
  package_line = refl;
  gated = refl;
  world_line = refl;
  type_line = refl;
  plain_future = refl;
  record_line = refl;
  resource_line = refl;
  use_own = refl;
  use_foreign = refl;
  func_line = refl;
  import_label = refl;
  import_slash = refl;
  export_line = refl;
  import_func = refl;
  include_line = refl;
  push_line = refl;
  feature_line = refl;
  tracks_line = refl;
  importize_line = refl;
  exportize_line = refl;
  exportize_all = refl;
  semver_line = refl;
  select_line = refl;
  no_word = refl;
  two_names = refl;
  no_namespace = refl;
  no_package_name = refl;
  print_no_namespace = refl;
  select_no_namespace = refl;
  no_feature = refl;
  no_label = refl;
  no_path = refl;
  no_field_name = refl;
  no_parameter_name = refl;
  no_function_name = refl;
  no_new_name = refl;
  no_old_name = refl;
  no_field = refl;
  no_type = refl;
  no_kebab = refl;
  no_rule = refl;
}
