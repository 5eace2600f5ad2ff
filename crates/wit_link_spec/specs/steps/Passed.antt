-- What the steps of an addition have seen where they refuse nothing: the reasons that each of them tells don't hold.
use Rattle.std.specs.Prelude.{ℕ, List}
use Rattle.wit_names.specs.declared.package_name.PackageName.{PackageName}
use Rattle.wit_link_spec.specs.Addition.{Addition}
use Rattle.wit_link_spec.specs.Gates.{OptionalSpan}
use Rattle.wit_link_spec.specs.Reasons.{ForeignTypeMissing, HasExcludedOwner, IsNoResource, IsUnreleased, LacksInterface, LacksPackage, LacksVersion, LacksWorld, RefersToExcluded, ReturnsBorrow}

-- 9, 10: the package meets each `@since` that is asked
pub record GatesAreMet (a : Addition) : Type 0 where
  pub version : (span : OptionalSpan) (message : List ℕ) → LacksVersion a span message → ⊥
  pub released : (span : OptionalSpan) (message : List ℕ) → IsUnreleased a span message → ⊥

-- 11, 12: what is active needs nothing that is left out
pub record NeedsNothingExcluded (a : Addition) : Type 0 where
  pub references : (span : OptionalSpan) (message : List ℕ) → RefersToExcluded a span message → ⊥
  pub owners : (span : OptionalSpan) (message : List ℕ) → HasExcludedOwner a span message → ⊥

-- 1, 2, 3, 13: all that is named of other packages is found
pub record IsAllFound (a : Addition) : Type 0 where
  pub packages : (span : OptionalSpan) (requested : PackageName) (known : List PackageName)
      → LacksPackage a span requested known → ⊥
  pub worlds : (span : OptionalSpan) (requested : List ℕ) (home : PackageName)
      → LacksWorld a span requested home → ⊥
  pub interfaces : (span : OptionalSpan) (requested : List ℕ) (home : PackageName)
      → LacksInterface a span requested home → ⊥
  pub types : (span : OptionalSpan) (message : List ℕ) → ForeignTypeMissing a span message → ⊥

-- 14: what has to be a resource is one
abbrev pub HasResources : Addition → Type 0
HasResources a = (span : OptionalSpan) (message : List ℕ) → IsNoResource a span message → ⊥

-- 15: no result holds a borrow
abbrev pub ReturnsNoBorrow : Addition → Type 0
ReturnsNoBorrow a = (span : OptionalSpan) (message : List ℕ) → ReturnsBorrow a span message → ⊥
