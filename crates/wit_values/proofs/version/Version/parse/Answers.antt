use Rattle.std.proofs.Common.{rules}
use Rattle.wit_values.proofs.version.Version.parse.Goals as goal

pub returns-in_err-version-clause-cause : goal.returns-in_err-version-clause-cause
returns-in_err-version-clause-cause c = search rules

pub returns-in_err-version-clause-refused : goal.returns-in_err-version-clause-refused
returns-in_err-version-clause-refused c = search rules

pub returns-in_err-from_version-clause-cause : goal.returns-in_err-from_version-clause-cause
returns-in_err-from_version-clause-cause c = search rules

pub returns-in_err-from_version-clause-refused : goal.returns-in_err-from_version-clause-refused
returns-in_err-from_version-clause-refused c = search rules
