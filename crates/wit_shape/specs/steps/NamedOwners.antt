-- Of which owners the named types are that a type is or refers to through types without names, as one
-- pass over the types tells it, in an order in which each stands after those that it refers to.
use Rattle.std.specs.Prelude.{◌≡◌, ◌≢◌, ◌==◌, ℕ, Bool, true, false, List, Some, length, slice_get, if◌then◌else◌}
use Rattle.wit_data.specs.Each.{Each, EachAt, SomeAt}
use Rattle.wit_data.specs.Ownership.{NamesThroughUnnamed}
use Rattle.wit_data.specs.Kind.{referred}
use Rattle.wit_shape.specs.declared.named_owners.NamedOwners.{NamedOwners}
use Rattle.wit_shape.specs.declared.named_owners.NamedOwners.TheVariants.{Nothing, One, Several}
use Rattle.wit_data.specs.declared.types.TypeDef.{TypeDef}
use Rattle.wit_data.specs.declared.types.TypeOwner.{TypeOwner}
use Rattle.wit_data.specs.declared.types.TypeOwner.TheVariants as owner

-- of no owner, of one owner alone, or of different ones
abbrev pub IsNamedOwners : (TypeOwner → Type 0) → NamedOwners → Type 0
IsNamedOwners shows Nothing = (by : TypeOwner) → shows by → ⊥
IsNamedOwners shows (One only) = shows only × ((by : TypeOwner) → shows by → by ≡ only)
IsNamedOwners shows Several = (a : TypeOwner) × (b : TypeOwner) × shows a × shows b × (a ≢ b)

-- what is told of each type
pub record AreNamedOwners (types : List TypeDef) (shown : List NamedOwners) : Type 0 where
  pub long : length shown ≡ length types
  pub each : EachAt (λ id. IsNamedOwners (NamesThroughUnnamed types id)) shown

-- it is told of each type that the type at a place refers to
abbrev pub IsTold : List TypeDef → List NamedOwners → ℕ → Type 0
IsTold types shown index =
    (def : TypeDef) → slice_get types index ≡ Some def
    → Each (λ id. SomeAt shown id (IsNamedOwners (NamesThroughUnnamed types id)))
    (referred def.kind)

abbrev pub same_owner : TypeOwner → TypeOwner → Bool
same_owner owner.None owner.None = true
same_owner (owner.Interface i) (owner.Interface j) = i == j
same_owner (owner.World v) (owner.World w) = v == w
same_owner _ _ = false

-- of which owners, where two things tell it
abbrev pub joined : NamedOwners → NamedOwners → NamedOwners
joined Nothing s = s
joined (One a) Nothing = One a
joined (One a) (One b) = if same_owner a b then One a else Several
joined (One a) Several = Several
joined Several s = Several

-- of this owner alone, if of any
abbrev pub IsOnly : NamedOwners → TypeOwner → Type 0
IsOnly Nothing by = Unit {0}
IsOnly (One only) by = only ≡ by
IsOnly Several by = ⊥
