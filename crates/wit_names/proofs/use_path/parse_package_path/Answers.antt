use Rattle.std.proofs.Common.{rules}
use Rattle.wit_names.proofs.use_path.parse_package_path.Goals as goal

pub returns-clause-invalid : goal.returns-clause-invalid
returns-clause-invalid c = search rules

pub returns-in_err-version-clause-invalid : goal.returns-in_err-version-clause-invalid
returns-in_err-version-clause-invalid c = search rules

pub returns-in_err-package_path-clause-invalid : goal.returns-in_err-package_path-clause-invalid
returns-in_err-package_path-clause-invalid c = search rules

pub returns-clause-ok : goal.returns-clause-ok
returns-clause-ok c = search rules
