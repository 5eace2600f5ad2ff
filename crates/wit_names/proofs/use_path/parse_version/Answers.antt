use Rattle.std.proofs.Common.{Err, ap}
use Rattle.semver.specs.Parse.{version_parts}
use Rattle.wit_names.specs.declared.use_path.UsePathFault.{UsePathFault}
use Rattle.wit_names.proofs.VersionErrors.{fault_told, version_parts-not_memory}
use Rattle.wit_names.proofs.use_path.parse_version.Goals as goal

pub returns-in-Err-clause-invalid : goal.returns-in-Err-clause-invalid
returns-in-Err-clause-invalid c =
    let told = fault_told _ (version_parts c.args.text.now) c.in-Err.error c.version_fault.result (version_parts-not_memory c.args.text.now) c.in-Err.ensures.err c.in-Err.ensures.refused c.version_fault.ensures in
    (λ invalid. told.0 (cc), λ is. ap (λ (fault : UsePathFault). Err fault) (told.1 is))
