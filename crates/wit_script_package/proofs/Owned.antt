-- What types refer to through types without names, where types are added.
use Rattle.std.proofs.Common.{◌≡◌, ◌∙◌, ℕ, zero, suc, ◌<◌, List, [], ◌∷◌, length, Option, Some, None, IsSome, is_some, if◌then◌else◌, slice_get, refl, sym, ap, subst, arith, Contains}
use Rattle.std.proofs.lemmas.Option.{slice_get_within}
use Rattle.wit_digraph.specs.Relation.{IsPath, direct}
use Rattle.wit_digraph.specs.facts.MemberFacts.{Contains-nil}
use Rattle.wit_data.specs.Each.{Each, EachAt, SomeAt}
use Rattle.wit_data.specs.facts.EachFacts.{SomeAt-is, SomeAt-of}
use Rattle.wit_data.specs.Ownership.{IsOwn, through_unnamed}
use Rattle.wit_data.specs.Kind.{referred}
use Rattle.wit_data.specs.declared.types.TypeDef.{TypeDef}
use Rattle.wit_data.specs.declared.types.TypeOwner.{TypeOwner}
use Rattle.wit_script_package.proofs.Places.{Each-contains, get_at, same_at}

-- each type refers to earlier ones
abbrev pub ReferToEarlier : List TypeDef → Type 0
ReferToEarlier types = EachAt (λ i (def : TypeDef). Each (λ id. id < i) (referred def.kind)) types

-- the types of a list stand in another at their places
abbrev pub AreAmong : List TypeDef → List TypeDef → Type 0
AreAmong old new = (i : ℕ) (def : TypeDef) → slice_get old i ≡ Some def → slice_get new i ≡ Some def

row_has : (name : Option (List ℕ)) (ids : List ℕ) (k : ℕ) → Contains (if is_some name then [] else ids) k → (name ≡ None) × Contains ids k
row_has None ids k has = (refl, has)
row_has (Some name) ids k has = absurd (Contains-nil has)

-- a step through a type without a name
step_at : (types : List TypeDef) (i k : ℕ) → Contains (direct (through_unnamed types) i) k → (def : TypeDef) × (slice_get types i ≡ Some def) × (def.name ≡ None) × Contains (referred def.kind) k
step_at [] i k has = absurd (Contains-nil has)
step_at (def ∷ types) zero k has = let r = row_has def.name (referred def.kind) k has in (def, refl, r.0, r.1)
step_at (def ∷ types) (suc i) k has = step_at types i k has

row_into : (name : Option (List ℕ)) (ids : List ℕ) (k : ℕ) → name ≡ None → Contains ids k → Contains (if is_some name then [] else ids) k
row_into None ids k none has = has
row_into (Some name) ids k none has = cc

step_into : (types : List TypeDef) (i k : ℕ) (def : TypeDef) → slice_get types i ≡ Some def → def.name ≡ None → Contains (referred def.kind) k → Contains (direct (through_unnamed types) i) k
step_into [] i k def at none has = cc
step_into (d ∷ types) zero k def at none has =
    let same : def ≡ d = cc in
    row_into d.name (referred d.kind) k (subst (λ (e : TypeDef). e.name ≡ None) same none) (subst (λ (e : TypeDef). Contains (referred e.kind) k) same has)
step_into (d ∷ types) (suc i) k def at none has = step_into types i k def at none has

-- a name isn't missing
pub no_name : (o : Option (List ℕ)) → o ≡ None → IsSome o → ⊥
no_name None none some = cc
no_name (Some n) none some = cc

module _ (old new : List TypeDef) (among : AreAmong old new) (earlier : ReferToEarlier old) where
  -- a path from a type that was there
  path_old : (id : ℕ) (path : List ℕ) (j : ℕ) → id < length old → IsPath (through_unnamed new) id path j → IsPath (through_unnamed old) id path j × (j < length old)
  path_old id [] j within same = (same, subst (λ (k : ℕ). k < length old) same within)
  path_old id (k ∷ path) j within leads =
      let step = step_at new id k leads.0 in
      let was = get_at old id within in
      let same : step.0 ≡ was.0 = same_at new id step.0 was.0 step.1 (among id was.0 was.1) in
      let has : Contains (referred was.0.kind) k = subst (λ (d : TypeDef). Contains (referred d.kind) k) same step.3 in
      let none : was.0.name ≡ None = subst (λ (d : TypeDef). d.name ≡ None) same step.2 in
      let below : k < id = Each-contains (λ x. x < id) (referred was.0.kind) k (earlier id was.0 was.1) has in
      let rest = path_old k path j (omega (arith, below, within)) leads.1 in
      ((step_into old id k was.0 was.1 none has, rest.0), rest.1)

  -- what was an owner's own stays so
  pub own-stays : (by : TypeOwner) (id : ℕ) → IsOwn old by id → IsOwn new by id
  own-stays by id own = record {
    there = let was = get_at old id own.there in slice_get_within new id was.0 (among id was.0 was.1);
    only = λ other names.
        let back = path_old id names.1.0 names.0 own.there names.1.1 in
        let was = get_at old names.0 back.1 in
        let shown = SomeAt-is (λ (def : TypeDef). IsSome def.name × (def.owner ≡ other)) new names.0 names.2 in
        let same : shown.0 ≡ was.0 = same_at new names.0 shown.0 was.0 shown.1 (among names.0 was.0 was.1) in
        own.only other (
          names.0,
          (names.1.0, back.0),
          SomeAt-of (λ (def : TypeDef). IsSome def.name × (def.owner ≡ other)) old names.0 was.0 was.1 (subst (λ (def : TypeDef). IsSome def.name × (def.owner ≡ other)) same shown.2),
        );
  }

module _ (types : List TypeDef) (id : ℕ) (def : TypeDef) (at : slice_get types id ≡ Some def) (by : TypeOwner) where
  -- a type with a name is its owner's own
  pub own-named : IsSome def.name → def.owner ≡ by → IsOwn types by id
  own-named named owned = record {
    there = slice_get_within types id def at;
    only = λ other names. reached names.0 names.1.0 other names.1.1 names.2;
  }
    where
      reached : (j : ℕ) (path : List ℕ) (other : TypeOwner) → IsPath (through_unnamed types) id path j → SomeAt types j (λ (d : TypeDef). IsSome d.name × (d.owner ≡ other)) → other ≡ by
      reached j [] other here some =
          let shown = SomeAt-is (λ (d : TypeDef). IsSome d.name × (d.owner ≡ other)) types j some in
          let same : shown.0 ≡ def = same_at types j shown.0 def shown.1 (subst (λ (k : ℕ). slice_get types k ≡ Some def) here at) in
          sym shown.2.1 ∙ ap (λ (d : TypeDef). d.owner) same ∙ owned
      reached j (k ∷ path) other leads some =
          let step = step_at types id k leads.0 in
          let same : step.0 ≡ def = same_at types id step.0 def step.1 at in
          let none : def.name ≡ None = subst (λ (d : TypeDef). d.name ≡ None) same step.2 in
          absurd (no_name def.name none named)

  -- a type without a name is, where it refers to the owner's own
  pub own-unnamed : def.name ≡ None → Each (IsOwn types by) (referred def.kind) → IsOwn types by id
  own-unnamed none each = record {
    there = slice_get_within types id def at;
    only = λ other names. reached names.0 names.1.0 other names.1.1 names.2;
  }
    where
      reached : (j : ℕ) (path : List ℕ) (other : TypeOwner) → IsPath (through_unnamed types) id path j → SomeAt types j (λ (d : TypeDef). IsSome d.name × (d.owner ≡ other)) → other ≡ by
      reached j [] other here some =
          let shown = SomeAt-is (λ (d : TypeDef). IsSome d.name × (d.owner ≡ other)) types j some in
          let same : shown.0 ≡ def = same_at types j shown.0 def shown.1 (subst (λ (k : ℕ). slice_get types k ≡ Some def) here at) in
          absurd (no_name shown.0.name (ap (λ (d : TypeDef). d.name) same ∙ none) shown.2.0)
      reached j (k ∷ path) other leads some =
          let step = step_at types id k leads.0 in
          let same : step.0 ≡ def = same_at types id step.0 def step.1 at in
          let has : Contains (referred def.kind) k = subst (λ (d : TypeDef). Contains (referred d.kind) k) same step.3 in
          (Each-contains (IsOwn types by) (referred def.kind) k each has).only other (j, (path, leads.1), some)
