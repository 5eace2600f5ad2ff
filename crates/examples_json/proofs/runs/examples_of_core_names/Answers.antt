use Rattle.std.proofs.Common.{◌∷◌, [], ℕ, List, ap, refl}
use Rattle.std.specs.Fmt.{digits}
use Rattle.wit_values.specs.facts.Lists.{differ}
use Rattle.wit_json_commands.specs.declared.replies.core_names.CoreExport.{CoreExport}
use Rattle.examples_json.proofs.runs.examples_of_core_names.Goals as goal

abbrev first_name : List CoreExport → List ℕ
first_name [] = []
first_name (e ∷ es) = e.name

pub returns : goal.returns
unfolding digits
returns c = record {
  imports = refl;
  exports = refl;
  standard = refl;
  lifted = refl;
  not_stackful = λ same. differ _ _ refl (ap first_name same);
  no_world = refl;
}
