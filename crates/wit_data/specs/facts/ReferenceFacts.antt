-- Facts on what types refer to, for the proofs of this crate and of the crates above. They say nothing
-- about this crate's code.
use Rattle.std.proofs.Common.{◌≡◌, ◌∙◌, ℕ, suc, ◌<◌, Bool, true, false, List, [], ◌∷◌, ◌++◌, length, Option, Some, None, option_map, slice_get, refl, sym, ap, subst, Contains, if◌then◌else◌}
use Rattle.std.specs.List.{flat_map}
use Rattle.std.proofs.lemmas.List.{length-map}
use Rattle.std.proofs.lemmas.List.Folds.{flat_map-map}
use Rattle.std.proofs.lemmas.Option.{slice_get-map, get_or_from_slice_get}
use Rattle.wit_digraph.specs.facts.EarlierFacts.{IsAcyclic-earlier}
use Rattle.wit_digraph.specs.facts.MemberFacts.{Contains-flat_map, Contains-flat_map_cases, Contains-nil}
use Rattle.wit_digraph.specs.Relation.{IsAcyclic, direct}
use Rattle.wit_data.specs.Each.{Each, EachAt}
use Rattle.wit_data.specs.Kind.{KindPart, kind_parts, named_part, named_option, named_type, referred, referred_in, type_references}
use Rattle.wit_data.specs.declared.types.Field.{Field}
use Rattle.wit_data.specs.declared.kind.PartRole.{PartRole}
use Rattle.wit_data.specs.declared.types.TypeDef.{TypeDef}
use Rattle.wit_data.specs.declared.types.TypeDefKind.{TypeDefKind}
use Rattle.wit_data.specs.declared.types.TypeDefKind.TheVariants as kind

-- there are as many rows as types
pub length-references : (types : List TypeDef) → length (type_references types) ≡ length types
length-references types = length-map types (λ (def : TypeDef). referred def.kind)

-- the row of a type
pub references_at : (types : List TypeDef) (i : ℕ) (def : TypeDef) → slice_get types i ≡ Some def → direct (type_references types) i ≡ referred def.kind
references_at types i def at =
    get_or_from_slice_get (type_references types) i (referred def.kind) []
    (slice_get-map (λ (d : TypeDef). referred d.kind) types i ∙ ap (option_map (λ (d : TypeDef). referred d.kind)) at)

row_of : (o : Option TypeDef) (row : List ℕ) → option_map (λ (d : TypeDef). referred d.kind) o ≡ Some row → (def : TypeDef) × (o ≡ Some def) × (referred def.kind ≡ row)
row_of None row is = cc
row_of (Some def) row is = (def, refl, cc)

-- where types refer to earlier ones, none refers to itself
pub IsAcyclic-references : (types : List TypeDef) → EachAt (λ i (def : TypeDef). Each (λ id. id < i) (referred def.kind)) types → IsAcyclic (type_references types)
IsAcyclic-references types earlier =
    IsAcyclic-earlier (type_references types) (λ i row at k j on.
    let def = row_of (slice_get types i) row (sym (slice_get-map (λ (d : TypeDef). referred d.kind) types i) ∙ at) in
    earlier i def.0 def.1 k j (subst (λ (ids : List ℕ). slice_get ids k ≡ Some j) (sym def.2) on))

-- what a record refers to, by its fields
pub record_refers : (fields : List Field) → referred (kind.Record fields) ≡ flat_map (λ (f : Field). named_type f.ty) fields
record_refers fields = flat_map-map (λ (p : KindPart). named_option p.ty) (λ (f : Field). named_part f.name (Some f.ty) f.span) fields

-- ---- what parts in some roles refer to

module _ (roles : PartRole → Bool) where
  abbrev names_in : KindPart → List ℕ
  names_in p = if roles p.role then named_option p.ty else []

  in_one : (p : KindPart) (t : ℕ) → Contains (names_in p) t → (roles p.role ≡ true) × Contains (named_option p.ty) t
  in_one p t has = by (roles p.role) has
    where
      by : (b : Bool) → Contains (if b then named_option p.ty else []) t → (b ≡ true) × Contains (named_option p.ty) t
      by true there = (refl, there)
      by false there = absurd (Contains-nil there)

  -- each is named by a part in one of them,
  pub in_role : (k : TypeDefKind) (t : ℕ) → Contains (referred_in roles k) t → (p : KindPart) × (Contains (kind_parts k) p × ((roles p.role ≡ true) × Contains (named_option p.ty) t))
  in_role k t has = let from = Contains-flat_map_cases names_in (kind_parts k) t has in (from.0, (from.1.0, in_one from.0 t from.1.1))

  -- and what such a part names is one of them,
  pub in_those : (k : TypeDefKind) (p : KindPart) (t : ℕ) → Contains (kind_parts k) p → roles p.role ≡ true → Contains (named_option p.ty) t → Contains (referred_in roles k) t
  in_those k p t among is has =
      Contains-flat_map names_in (kind_parts k) p t among (subst (λ (b : Bool). Contains (if b then named_option p.ty else []) t) (sym is) has)

  -- so the kind refers to it
  pub in_referred : (k : TypeDefKind) (t : ℕ) → Contains (referred_in roles k) t → Contains (referred k) t
  in_referred k t has = let from = in_role k t has in Contains-flat_map (λ (p : KindPart). named_option p.ty) (kind_parts k) from.0 t from.1.0 from.1.1.1

  -- all of them where all parts are in one of them, none where no part is
  all_named : (ps : List KindPart) → Each (λ (p : KindPart). roles p.role ≡ true) ps → flat_map names_in ps ≡ flat_map (λ (p : KindPart). named_option p.ty) ps
  all_named [] each = refl
  all_named (p ∷ ps) each = λ j. (if each 0 p refl j then named_option p.ty else []) ++ all_named ps (λ i q at. each (suc i) q at) j

  none_named : (ps : List KindPart) → Each (λ (p : KindPart). roles p.role ≡ false) ps → flat_map names_in ps ≡ []
  none_named [] each = refl
  none_named (p ∷ ps) each = λ j. (if each 0 p refl j then named_option p.ty else []) ++ none_named ps (λ i q at. each (suc i) q at) j

  pub all_referred : (k : TypeDefKind) (role : PartRole) → Each (λ (p : KindPart). p.role ≡ role) (kind_parts k) → roles role ≡ true → referred_in roles k ≡ referred k
  all_referred k role each is = all_named (kind_parts k) (λ i p at. ap roles (each i p at) ∙ is)

  pub none_referred : (k : TypeDefKind) (role : PartRole) → Each (λ (p : KindPart). p.role ≡ role) (kind_parts k) → roles role ≡ false → referred_in roles k ≡ []
  none_referred k role each is = none_named (kind_parts k) (λ i p at. ap roles (each i p at) ∙ is)
