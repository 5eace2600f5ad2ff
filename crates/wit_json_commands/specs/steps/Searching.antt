-- What the searches for a package without its shape tell.
use Rattle.std.specs.Prelude.{ℕ, List, Option, None, Some}
use Rattle.wit_data.specs.Each.{Each, SomeAt}
use Rattle.wit_data.specs.Shape.{IsGroupShaped, IsShaped}
use Rattle.wit_data.specs.declared.unresolved.UnresolvedPackage.{UnresolvedPackage}
use Rattle.wit_data.specs.declared.unresolved.UnresolvedPackageGroup.{UnresolvedPackageGroup}
use Rattle.wit_shape.specs.Faults.{IsFirstFault}
use Rattle.wit_shape.specs.First.{IsFirstWithout}
use Rattle.wit_shape.specs.declared.fault.ShapeFault.{ShapeFault}
use Rattle.wit_commands.specs.declared.change.Change.{Change}
use Rattle.wit_json_commands.specs.declared.replies.unshaped.Unshaped.{Unshaped}
use Rattle.wit_json_commands.specs.Unshaped.{IsChangeShaped, IsGroupFault, IsPushFault, IsUnshaped}

-- nothing is told where P holds, and else a fault
abbrev pub TellsUnless : {A : Type 0} → Type 0 → (A → Type 0) → Option A → Type 0
TellsUnless P is None = P
TellsUnless P is (Some at) = (P → ⊥) × is at

-- the first of some packages that lacks its shape, and its first fault
abbrev pub IsNestedFault : List UnresolvedPackage → ℕ × ShapeFault → Type 0
IsNestedFault packages at =
    IsFirstWithout (λ _. IsShaped) packages at.0 × SomeAt packages at.0 (λ p. IsFirstFault p at.1)

abbrev pub TellsNested : List UnresolvedPackage → Option (ℕ × ShapeFault) → Type 0
TellsNested packages found = TellsUnless (Each IsShaped packages) (IsNestedFault packages) found

abbrev pub TellsGroup : UnresolvedPackageGroup → Option (Option ℕ × ShapeFault) → Type 0
TellsGroup group found =
    TellsUnless (IsGroupShaped group) (λ (at : Option ℕ × ShapeFault). IsGroupFault group at.0 at.1)
    found

-- the first of some groups that lacks its shape, which is told by its place, and its first fault
abbrev pub IsAmongDeps : List UnresolvedPackageGroup → Option ℕ → Option ℕ → ShapeFault → Type 0
IsAmongDeps deps None at fault = ⊥
IsAmongDeps deps (Some i) at fault =
    IsFirstWithout (λ _. IsGroupShaped) deps i
    × SomeAt deps i (λ group. IsGroupFault group at fault)

abbrev pub TellsDeps : List UnresolvedPackageGroup → Option Unshaped → Type 0
TellsDeps deps found =
    TellsUnless (Each IsGroupShaped deps)
    (λ (it : Unshaped). IsAmongDeps deps it.group it.«package» it.fault) found

abbrev pub TellsPush : UnresolvedPackageGroup → List UnresolvedPackageGroup → Option Unshaped
    → Type 0
TellsPush main deps found =
    TellsUnless (IsGroupShaped main × Each IsGroupShaped deps)
    (λ (it : Unshaped). IsPushFault main deps it.group it.«package» it.fault) found

abbrev pub TellsChange : Change → Option Unshaped → Type 0
TellsChange it found = TellsUnless (IsChangeShaped it) (IsUnshaped it) found
