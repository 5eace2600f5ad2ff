-- What is told of the owners that a type shows.
use Rattle.std.proofs.Common.{◌≡◌, ℕ, Bool, true, false, List, [], ◌∷◌, ◌++◌, ◌⊎◌, inl, inr, Option, Some, slice_get, refl, ap, sym, subst, ◌∙◌}
use Rattle.std.specs.Prelude.{◌↔◌, Contains, IsSome, is_some, if◌then◌else◌, Decides, IsSomeAnd, option_map}
use Rattle.std.proofs.lemmas.Bool.Decides.{Decides-like, Decides-eqb}
use Rattle.std.proofs.lemmas.List.Elements.{Contains-append_cases, Contains-append_left, Contains-append_right}
use Rattle.std.proofs.lemmas.Option.{slice_get-map, get_or_from_slice_get}
use Rattle.wit_digraph.specs.facts.MemberFacts.{Contains-nil, Contains-here, Contains-cons_cases}
use Rattle.wit_digraph.specs.Relation.{IsPath, direct}
use Rattle.wit_data.specs.Each.{SomeAt}
use Rattle.wit_data.specs.Ownership.{NamesThroughUnnamed, through_unnamed}
use Rattle.wit_data.specs.Kind.{referred}
use Rattle.wit_shape.specs.steps.NamedOwners.{IsNamedOwners, IsOnly, joined, same_owner}
use Rattle.wit_shape.specs.declared.named_owners.NamedOwners.{NamedOwners}
use Rattle.wit_shape.specs.declared.named_owners.NamedOwners.TheVariants.{Nothing, One, Several}
use Rattle.wit_data.specs.declared.types.TypeDef.{TypeDef}
use Rattle.wit_data.specs.declared.types.TypeOwner.{TypeOwner}
use Rattle.wit_data.specs.declared.types.TypeOwner.TheVariants as owner

-- ---- what is told of two things

owner_is : (a b : TypeOwner) → Decides (same_owner a b) (a ≡ b)
owner_is owner.None owner.None = (λ h. refl, λ h. refl)
owner_is owner.None (owner.Interface j) = (λ h. cc, λ h. cc)
owner_is owner.None (owner.World w) = (λ h. cc, λ h. cc)
owner_is (owner.Interface i) owner.None = (λ h. cc, λ h. cc)
owner_is (owner.Interface i) (owner.Interface j) = Decides-like _ (λ h. ap owner.Interface h) (λ h. cc) (Decides-eqb i j)
owner_is (owner.Interface i) (owner.World w) = (λ h. cc, λ h. cc)
owner_is (owner.World v) owner.None = (λ h. cc, λ h. cc)
owner_is (owner.World v) (owner.Interface j) = (λ h. cc, λ h. cc)
owner_is (owner.World v) (owner.World w) = Decides-like _ (λ h. ap owner.World h) (λ h. cc) (Decides-eqb v w)

tells_same : (Q R : TypeOwner → Type 0) → ((by : TypeOwner) → Q by → R by) → ((by : TypeOwner) → R by → Q by) → (s : NamedOwners) → IsNamedOwners Q s → IsNamedOwners R s
tells_same Q R to from Nothing none = λ by shows. none by (from by shows)
tells_same Q R to from (One only) told = (to only told.0, λ by shows. told.1 by (from by shows))
tells_same Q R to from Several told = (told.0, told.1, to told.0 told.2, to told.1 told.3, told.4)

tells_both : (Q R : TypeOwner → Type 0) (s t : NamedOwners) → IsNamedOwners Q s → IsNamedOwners R t → IsNamedOwners (λ by. Q by ⊎ R by) (joined s t)
tells_both Q R Nothing t none told = tells_same R (λ by. Q by ⊎ R by) (λ by h. inr h) (λ by h. elim h [ inl q ↦ absurd (none by q) | inr r ↦ r ]) t told
tells_both Q R (One a) Nothing told none = (inl told.0, λ by h. elim h [ inl q ↦ told.1 by q | inr r ↦ absurd (none by r) ])
tells_both Q R (One a) (One b) told other = cases (same_owner a b) (owner_is a b)
  where
    cases : (same : Bool) → Decides same (a ≡ b) → IsNamedOwners (λ by. Q by ⊎ R by) (if same then One a else Several)
    cases true test = (inl told.0, λ by h. elim h [ inl q ↦ told.1 by q | inr r ↦ other.1 by r ∙ sym (test.0 refl) ])
    cases false test = (a, b, inl told.0, inr other.0, λ same. let h : false ≡ true = test.1 same in cc)
tells_both Q R (One a) Several told other = (other.0, other.1, inr other.2, inr other.3, other.4)
tells_both Q R Several t told other = (told.0, told.1, inl told.2, inl told.3, told.4)

-- an owner is the only one told of exactly if every one that is shown is that owner
pub only_is : (Q : TypeOwner → Type 0) (s : NamedOwners) (by : TypeOwner) → IsNamedOwners Q s → IsOnly s by ↔ ((other : TypeOwner) → Q other → other ≡ by)
only_is Q Nothing by none = (λ h other shows. absurd (none other shows), λ each. tt)
only_is Q (One only) by told = (λ same other shows. told.1 other shows ∙ same, λ each. each only told.0)
only_is Q Several by told = (λ h. absurd h, λ each. told.4 (each told.0 told.2 ∙ sym (each told.1 told.3)))

-- ---- what a type shows

-- what some types show
abbrev pub ShowsAny : List TypeDef → List ℕ → TypeOwner → Type 0
ShowsAny types ids by = (id : ℕ) × Contains ids id × NamesThroughUnnamed types id by

pub tells_none : (types : List TypeDef) → IsNamedOwners (ShowsAny types []) Nothing
tells_none types = λ by shows. absurd (Contains-nil shows.1)

-- one more
pub tells_more : (types : List TypeDef) (ids : List ℕ) (id : ℕ) (s t : NamedOwners) → IsNamedOwners (ShowsAny types ids) s → IsNamedOwners (NamesThroughUnnamed types id) t → IsNamedOwners (ShowsAny types (ids ++ id ∷ [])) (joined s t)
tells_more types ids id s t told other =
    tells_same (λ by. ShowsAny types ids by ⊎ NamesThroughUnnamed types id by) (ShowsAny types (ids ++ id ∷ []))
    (λ by h. elim h [
      | inl any ↦ (any.0, Contains-append_left ids (id ∷ []) any.0 any.1, any.2)
      | inr this ↦ (id, Contains-append_right ids (id ∷ []) id (Contains-here id []), this)
    ])
    (λ by any. elim (Contains-append_cases ids (id ∷ []) any.0 any.1) [
      | inl before ↦ inl (any.0, before, any.2)
      | inr last ↦ elim (Contains-cons_cases id any.0 [] last) [ inl same ↦ inr (subst (λ (k : ℕ). NamesThroughUnnamed types k by) (sym same) any.2) | inr none ↦ absurd (Contains-nil none) ]
    ])
    (joined s t) (tells_both (ShowsAny types ids) (NamesThroughUnnamed types id) s t told other)

abbrev row_of : TypeDef → List ℕ
row_of def = if is_some def.name then [] else referred def.kind

row_at : (types : List TypeDef) (i : ℕ) (def : TypeDef) → slice_get types i ≡ Some def → direct (through_unnamed types) i ≡ row_of def
row_at types i def at = get_or_from_slice_get (through_unnamed types) i (row_of def) [] (slice_get-map row_of types i ∙ ap (option_map row_of) at)

-- a type with a name shows its owner alone
pub tells_named : (types : List TypeDef) (i : ℕ) (def : TypeDef) → slice_get types i ≡ Some def → IsSome def.name → IsNamedOwners (NamesThroughUnnamed types i) (One def.owner)
tells_named types i def at named = (
  (i, ([], refl), subst (λ (o : Option TypeDef). IsSomeAnd o (λ (d : TypeDef). IsSome d.name × (d.owner ≡ def.owner))) (sym at) (named, refl)),
  λ by shows. only by shows.0 shows.1.0 shows.1.1 shows.2,
)
  where
    none : direct (through_unnamed types) i ≡ []
    none = row_at types i def at ∙ ap (λ (b : Bool). if b then [] else referred def.kind) named

    only : (by : TypeOwner) (end : ℕ) (path : List ℕ) → IsPath (through_unnamed types) i path end → SomeAt types end (λ (d : TypeDef). IsSome d.name × (d.owner ≡ by)) → by ≡ def.owner
    only by end [] same there =
        let here : SomeAt types i (λ (d : TypeDef). IsSome d.name × (d.owner ≡ by)) = subst (λ (k : ℕ). SomeAt types k (λ (d : TypeDef). IsSome d.name × (d.owner ≡ by))) (sym same) there in
        let this : IsSomeAnd (Some def) (λ (d : TypeDef). IsSome d.name × (d.owner ≡ by)) = subst (λ (o : Option TypeDef). IsSomeAnd o (λ (d : TypeDef). IsSome d.name × (d.owner ≡ by))) at here in
        sym this.1
    only by end (k ∷ path) leads there = absurd (Contains-nil (subst (λ (row : List ℕ). Contains row k) none leads.0))

-- a type without a name shows what the types show that it refers to
pub tells_unnamed : (types : List TypeDef) (i : ℕ) (def : TypeDef) (s : NamedOwners) → slice_get types i ≡ Some def → is_some def.name ≡ false → IsNamedOwners (ShowsAny types (referred def.kind)) s → IsNamedOwners (NamesThroughUnnamed types i) s
tells_unnamed types i def s at unnamed told =
    tells_same (ShowsAny types (referred def.kind)) (NamesThroughUnnamed types i)
    (λ by any. (any.2.0, (any.0 ∷ any.2.1.0, (subst (λ (row : List ℕ). Contains row any.0) (sym row) any.1, any.2.1.1)), any.2.2))
    (λ by shows. further by shows.0 shows.1.0 shows.1.1 shows.2)
    s told
  where
    row : direct (through_unnamed types) i ≡ referred def.kind
    row = row_at types i def at ∙ ap (λ (b : Bool). if b then [] else referred def.kind) unnamed

    further : (by : TypeOwner) (end : ℕ) (path : List ℕ) → IsPath (through_unnamed types) i path end → SomeAt types end (λ (d : TypeDef). IsSome d.name × (d.owner ≡ by))
        → ShowsAny types (referred def.kind) by
    further by end [] same there =
        let here : SomeAt types i (λ (d : TypeDef). IsSome d.name × (d.owner ≡ by)) = subst (λ (k : ℕ). SomeAt types k (λ (d : TypeDef). IsSome d.name × (d.owner ≡ by))) (sym same) there in
        let this : IsSomeAnd (Some def) (λ (d : TypeDef). IsSome d.name × (d.owner ≡ by)) = subst (λ (o : Option TypeDef). IsSomeAnd o (λ (d : TypeDef). IsSome d.name × (d.owner ≡ by))) at here in
        let named : is_some def.name ≡ true = this.0 in
        cc
    further by end (k ∷ path) leads there = (k, subst (λ (r : List ℕ). Contains r k) row leads.0, (end, (path, leads.1), there))
