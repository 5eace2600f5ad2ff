use Rattle.std.proofs.Common.{refl}
use Rattle.std.specs.Fmt.{digits}
use Rattle.wit_names.specs.UsePath.{is_kebab_name, use_path_of}
use Rattle.wit_resolve_graph.proofs.laws.examples_of_selection.Goals as goal

pub returns : goal.returns
unfolding digits is_kebab_name use_path_of
returns c = record {
  no_text = refl;
  only_version = refl;
  two_versions = refl;
  plain_name = refl;
  empty_text = refl;
  no_main = refl;
  unknown = refl;
  two_mains = refl;
}
