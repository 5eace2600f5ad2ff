use Rattle.std.proofs.Common.{rules}
use Rattle.wit_names.proofs.Versions.{read_again, read_never}
use Rattle.wit_names.proofs.package_name.is_valid.Goals as goal

pub returns-in-Ok : goal.returns-in-Ok
returns-in-Ok c = read_again _ c.args.version.now c.in-Ok.read c.eq.result (search rules) c.in-Ok.ensures.ok c.eq.ensures

pub returns-in-Err-Invalid : goal.returns-in-Err-Invalid
returns-in-Err-Invalid c = read_never _ c.args.version.now (search rules) (c.in-Err-Invalid.ensures.invalid.0 (cc))
