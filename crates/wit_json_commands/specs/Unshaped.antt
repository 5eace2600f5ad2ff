-- The first package of a push that lacks its shape, and what it lacks first.
use Rattle.std.specs.Prelude.{ℕ, List, Option, None, Some}
use Rattle.wit_data.specs.Each.{Each, SomeAt}
use Rattle.wit_data.specs.Shape.{IsGroupShaped, IsShaped}
use Rattle.wit_data.specs.declared.unresolved.UnresolvedPackage.{UnresolvedPackage}
use Rattle.wit_data.specs.declared.unresolved.UnresolvedPackageGroup.{UnresolvedPackageGroup}
use Rattle.wit_shape.specs.Faults.{IsFirstFault}
use Rattle.wit_shape.specs.First.{IsFirstWithout}
use Rattle.wit_shape.specs.declared.fault.ShapeFault.{ShapeFault}
use Rattle.wit_commands.specs.declared.change.Change.{Change}
use Rattle.wit_commands.specs.declared.change.Change.TheVariants as change
use Rattle.wit_json_commands.specs.declared.replies.unshaped.Unshaped.{Unshaped}

-- the first fault of a group: of its main package; or, where that has its shape, of the first nested one that lacks it
abbrev pub IsGroupFault : UnresolvedPackageGroup → Option ℕ → ShapeFault → Type 0
IsGroupFault group None fault = IsFirstFault group.main fault
IsGroupFault group (Some i) fault =
    IsShaped group.main × IsFirstWithout (λ _. IsShaped) group.nested i
    × SomeAt group.nested i (λ p. IsFirstFault p fault)

-- the first fault of a push: of its main group; or, where that has its shape, of the first other one that lacks it
abbrev pub IsPushFault : UnresolvedPackageGroup → List UnresolvedPackageGroup → Option ℕ → Option ℕ
    → ShapeFault → Type 0
IsPushFault main deps None at fault = IsGroupFault main at fault
IsPushFault main deps (Some i) at fault =
    IsGroupShaped main × IsFirstWithout (λ _. IsGroupShaped) deps i
    × SomeAt deps i (λ group. IsGroupFault group at fault)

-- the groups that a change adds have their shape
abbrev pub IsChangeShaped : Change → Type 0
IsChangeShaped (change.PushGroups main deps) = IsGroupShaped main × Each IsGroupShaped deps
IsChangeShaped _ = Unit {0}

-- the first package that a change would add without its shape, and what it lacks first
abbrev pub IsUnshaped : Change → Unshaped → Type 0
IsUnshaped (change.PushGroups main deps) it = IsPushFault main deps it.group it.«package» it.fault
IsUnshaped _ it = ⊥
