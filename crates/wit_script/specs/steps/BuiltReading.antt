-- What lines make of the packages of a reading.
use Rattle.std.specs.Prelude.{List, IfSome}
use Rattle.wit_data.specs.Each.{Each}
use Rattle.wit_data.specs.Shape.{IsGroupShaped}
use Rattle.wit_data.specs.declared.unresolved.UnresolvedPackageGroup.{UnresolvedPackageGroup}
use Rattle.wit_script_package.specs.steps.Built.{IsBuilt}
use Rattle.wit_script_package.specs.steps.Pushable.{IsPushable}
use Rattle.wit_script.specs.declared.reader.Reading.{Reading}

-- the packages that wait for their `push` are those that lines build
pub record AreBuilt (r : Reading) : Type 0 where
  pub finished : Each IsBuilt r.finished
  pub current : IfSome r.current IsBuilt

-- groups lack nothing of their shape but what lines may break
abbrev pub AreShapedIfPushable : List UnresolvedPackageGroup → Type 0
AreShapedIfPushable groups =
    Each (λ (g : UnresolvedPackageGroup). IsPushable g.main → IsGroupShaped g) groups
