-- The steps of the search for the first package that lacks its shape.
use Rattle.std.proofs.Common.{◌≡◌, ◌+◌, ℕ, List, Option, None, Some, Result, slice_get, is_some, ap, subst}
use Rattle.std.proofs.lemmas.Result.{IfOk-weaker}
use Rattle.std.specs.Prelude.{◌↔◌, IfOk, IsNone}
use Rattle.wit_data.specs.Each.{Each}
use Rattle.wit_data.specs.Shape.{IsGroupShaped, IsShaped}
use Rattle.wit_data.specs.declared.unresolved.UnresolvedPackage.{UnresolvedPackage}
use Rattle.wit_data.specs.declared.unresolved.UnresolvedPackageGroup.{UnresolvedPackageGroup}
use Rattle.wit_data.specs.facts.EachFacts.{EachBelow, one_more}
use Rattle.wit_shape.specs.declared.fault.ShapeFault.{ShapeFault}

is_none : {A : Type 0} {found : Option A} → found ≡ None → IsNone found
is_none {A} {found} is = ap is_some is

-- one package more has its shape
pub one_package : (packages : List UnresolvedPackage) (i : ℕ) (p : UnresolvedPackage) {found : Option ShapeFault} → EachBelow i (λ _. IsShaped) packages
    → slice_get packages i ≡ Some p → IsNone found ↔ IsShaped p → found ≡ None → EachBelow (i + 1) (λ _. IsShaped) packages
one_package packages i p below at none is = one_more below p at (none.0 (is_none is))

-- the main package has its shape, and the nested ones if none lacks it
pub main_and_nested : (main : UnresolvedPackage) (nested : List UnresolvedPackage) {A E : Type 0} (rest : Result (Option A) E) {found : Option ShapeFault}
    → IsNone found ↔ IsShaped main → found ≡ None → IfOk rest (λ more. IsNone more → Each IsShaped nested)
    → IfOk rest (λ more. IsNone more → (IsShaped main) × (Each IsShaped nested))
main_and_nested main nested rest none is each = IfOk-weaker rest _ _ (λ _ others without. (none.0 (is_none is), others without)) each

-- a group of packages of which none lacks its shape has its own
pub shaped : (group : UnresolvedPackageGroup) (nested : List UnresolvedPackage) {A : Type 0} {found : Option A}
    → (IsNone found → (IsShaped group.main) × (Each IsShaped nested)) → found ≡ None → nested ≡ group.nested → IsGroupShaped group
shaped group nested told none same = record {
  main = (told (is_none none)).0;
  nested = subst (λ (packages : List UnresolvedPackage). Each IsShaped packages) same (told (is_none none)).1;
}
