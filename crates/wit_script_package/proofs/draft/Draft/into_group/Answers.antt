use Rattle.std.proofs.Common.{rules, Result, Ok, Err, IfOk}
use Rattle.wit_data.specs.Shape.{IsGroupShaped}
use Rattle.wit_data.specs.declared.unresolved.UnresolvedPackageGroup.{UnresolvedPackageGroup}
use Rattle.wit_script_lines.specs.declared.fault.LineFault.{LineFault}
use Rattle.wit_script_lines.specs.steps.ReadResult.{IsRead}
use Rattle.wit_script_package.specs.Draft.{as_group}
use Rattle.wit_script_package.specs.declared.draft.Draft.{Draft}
use Rattle.wit_script_package.specs.steps.Built.{IsBuilt}
use Rattle.wit_script_package.specs.steps.Pushable.{IsPushable}
use Rattle.wit_script_package.proofs.BuiltShape.{built-shaped}
use Rattle.wit_script_package.proofs.draft.Draft.into_group.Goals as goal

-- what a group of the package that lines built is
shaped-read : (p : Draft) (r : Result UnresolvedPackageGroup LineFault) → IsRead (as_group p) r → IsBuilt p → IfOk r (λ g. IsPushable g.main → IsGroupShaped g)
shaped-read p (Ok g) read built = built-shaped p g built read
shaped-read p (Err fault) read built = tt

pub returns-clause-shaped : goal.returns-clause-shaped
returns-clause-shaped c = let read : IsRead (as_group c.args.self) c.into_closed_group.result = search rules in shaped-read c.args.self c.into_closed_group.result read
