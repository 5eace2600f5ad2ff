use Rattle.std.proofs.Common.{refl}
use Rattle.wit_names.specs.UsePath.{is_kebab_name, use_path_of}
use Rattle.examples_resolve.proofs.script.examples_of_packages.Goals as goal

pub returns : goal.returns
unfolding use_path_of is_kebab_name
returns c = record {
  first = refl;
  gates = refl;
  world = refl;
  two_packages = refl;
  commands = refl;
  nothing_open = refl;
  open_twice = refl;
  other_role = refl;
  other_role_back = refl;
  no_name = refl;
  unknown_group = refl;
  group_twice = refl;
  groups_transformed = refl;
  no_dot = refl;
  no_resource = refl;
  no_handle = refl;
  no_handle_of_list = refl;
  no_inner = refl;
  type_twice = refl;
  label_twice = refl;
  no_scope = refl;
  no_interface = refl;
}
