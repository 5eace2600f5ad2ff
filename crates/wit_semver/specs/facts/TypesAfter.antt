-- What the types of a valid graph are after semver merging: as they were, but for aliases that name a type of the same
-- name in the newest interface on a track.
use Rattle.std.proofs.Common.{◌≡◌, ◌∙◌, ◌⊎◌, inl, inr, ℕ, ◌+◌, Bool, true, false, List, Option, None, Some, IfSome, IsSome, slice_get, option_and_then, refl, sym, ap, subst, arith, nat_eq, if◌then◌else◌}
use Rattle.std.specs.List.{enumerate_from, list_any}
use Rattle.std.specs.Map.{lookup}
use Rattle.std.specs.Str.{bytes_eq}
use Rattle.std.proofs.lemmas.Map.Views.{Contains-from_lookup}
use Rattle.std.proofs.lemmas.Slice.Eq.{bytes_eq-Decides}
use Rattle.wit_digraph.specs.facts.FreshFacts.{contains_from_any}
use Rattle.wit_data.specs.Each.{SomeAt}
use Rattle.wit_data.specs.Ownership.{IsNamedInterface}
use Rattle.wit_data.specs.Uses.{alias_target, other_owner, type_interface_dep}
use Rattle.wit_data.specs.declared.interface.Interface.{Interface}
use Rattle.wit_data.specs.declared.types.TypeDef.{TypeDef}
use Rattle.wit_data.specs.declared.types.TypeOwner.{TypeOwner}
use Rattle.wit_data.specs.declared.types.TypeOwner.TheVariants as owner
use Rattle.wit_elaboration.specs.Valid.{IsValid}
use Rattle.wit_graph_theory.specs.facts.DependencyFacts.{Needs, needs_from, needs_into}
use Rattle.wit_graph_theory.specs.facts.Good.{HasGoodThings}
use Rattle.wit_graph_theory.specs.facts.GoodIsValid.{good_things}
use Rattle.wit_graph_theory.specs.facts.ListFacts.{at_map, found_at, from_map, place_of, same_at}
use Rattle.wit_graph_theory.specs.facts.OptionFacts.{option_cases, some_by, some_parts, some_same, some_there}
use Rattle.wit_graph_theory.specs.facts.PackagesAcyclic.{numbered_from, numbered_into}
use Rattle.wit_semver.specs.SemverMerged.{IsComplete, SemverMerge, is_replaced, newest, newest_type, replaced_use, types_of_new_entries, types_with_new_targets, target_name, semver_merge_text}
use Rattle.wit_semver.specs.steps.Parts.{name_of, interface_type, retargeted, missing_text, new_target}

-- ---- parts of options

if_some : (P : ℕ → Type 0) (o : Option ℕ) (t : ℕ) → o ≡ Some t → IfSome o P → P t
if_some P None t is h = cc
if_some P (Some x) t is h = subst P (some_same x t is) h

pub retargeted_name : (def : TypeDef) (o : Option ℕ) → (retargeted def o).name ≡ def.name
retargeted_name def None = refl
retargeted_name def (Some t) = refl

pub retargeted_owner : (def : TypeDef) (o : Option ℕ) → (retargeted def o).owner ≡ def.owner
retargeted_owner def None = refl
retargeted_owner def (Some t) = refl

module _ (u : SemverMerge) where
  abbrev types : List TypeDef
  types = u.graph.types

  abbrev pub after : ℕ → TypeDef → TypeDef
  after t def = retargeted def (new_target u t)

  -- a type after it comes of the one at its place, and goes to one
  pub type_after : (t : ℕ) (new : TypeDef) → slice_get (types_with_new_targets u) t ≡ Some new → (def : TypeDef) × (slice_get types t ≡ Some def) × (new ≡ after t def)
  type_after t new at =
      let from = from_map (λ (e : ℕ × TypeDef). after e.0 e.1) (enumerate_from 0 types) t new at in
      let numbered = numbered_from 0 types t from.0 from.1 in
      let place : from.0.0 ≡ t = let is = numbered.0 in omega arith in
      (from.0.1, numbered.1, sym from.2 ∙ ap (λ (n : ℕ). after n from.0.1) place)

  pub type_into : (t : ℕ) (def : TypeDef) → slice_get types t ≡ Some def → slice_get (types_with_new_targets u) t ≡ Some (after t def)
  type_into t def at =
      let start : 0 + t ≡ t = omega arith in
      at_map (λ (e : ℕ × TypeDef). after e.0 e.1) (enumerate_from 0 types) t (0 + t, def) (numbered_into 0 types t def at) ∙ ap (λ (n : ℕ). Some (after n def)) start

  -- ---- an alias that gets a new target

  -- the replaced interface that a type uses is the one that it needs
  pub replaced_use_from : (t f : ℕ) → replaced_use u t ≡ Some f → (type_interface_dep types t ≡ Some f) × (is_replaced u f ≡ true)
  replaced_use_from t f is =
      let parts = some_parts (λ (g : ℕ). if is_replaced u g then Some g else None) (type_interface_dep types t) f is in
      let same = by parts.0 (is_replaced u parts.0) refl parts.2 in
      (parts.1 ∙ ap Some same.0, subst (λ (g : ℕ). is_replaced u g ≡ true) same.0 same.1)
    where
      by : (g : ℕ) (b : Bool) → is_replaced u g ≡ b → (if b then Some g else None) ≡ Some f → (g ≡ f) × (b ≡ true)
      by g true on h = (some_same g f h, refl)
      by g false on h = cc

  pub replaced_use_into : (t f : ℕ) → type_interface_dep types t ≡ Some f → is_replaced u f ≡ true → replaced_use u t ≡ Some f
  replaced_use_into t f dep on = some_by (λ (g : ℕ). if is_replaced u g then Some g else None) (type_interface_dep types t) f dep ∙ ap (λ (b : Bool). if b then Some f else None) on

  -- type t is of a new entry, uses the replaced interface f, and comes to name type t' of the newest
  pub record IsRetargeted (t t' : ℕ) : Type 0 where
    pub f : ℕ
    pub follows : list_any (nat_eq t) (types_of_new_entries u) ≡ true
    pub uses : type_interface_dep types t ≡ Some f
    pub replaced : is_replaced u f ≡ true
    pub name : List ℕ
    pub named : target_name types t ≡ Some name
    pub found : interface_type u.graph.interfaces (newest u f) name ≡ Some t'

  abbrev in_newest : ℕ → ℕ → Option ℕ
  in_newest t f =
      option_and_then (interface_type u.graph.interfaces (newest u f)) (target_name types t)

  pub retargeted_from : (t t' : ℕ) → new_target u t ≡ Some t' → IsRetargeted t t'
  retargeted_from t t' is = by (list_any (nat_eq t) (types_of_new_entries u)) refl is
    where
      by : (b : Bool) → list_any (nat_eq t) (types_of_new_entries u) ≡ b → (if b then newest_type u t else None) ≡ Some t' → IsRetargeted t t'
      by true on h =
          let one = some_parts (in_newest t) (replaced_use u t) t' h in
          let two = some_parts (interface_type u.graph.interfaces (newest u one.0)) (target_name types t) t' one.2 in
          let used = replaced_use_from t one.0 one.1 in
          record { f = one.0; follows = on; uses = used.0; replaced = used.1; name = two.0; named = two.1; found = two.2 }
      by false on h = cc

  pub retargeted_into : (t t' : ℕ) → IsRetargeted t t' → new_target u t ≡ Some t'
  retargeted_into t t' is =
      ap (λ (b : Bool). if b then newest_type u t else None) is.follows
      ∙ some_by (in_newest t) (replaced_use u t) is.f (replaced_use_into t is.f is.uses is.replaced)
      ∙ some_by (interface_type u.graph.interfaces (newest u is.f)) (target_name types t) is.name is.named
      ∙ is.found

  -- what needs an interface is an alias
  pub needs_as_alias : (t f : ℕ) (def : TypeDef) → slice_get types t ≡ Some def → type_interface_dep types t ≡ Some f → (s : ℕ) × (alias_target def.kind ≡ Some s)
  needs_as_alias t f def at dep =
      let needs = needs_from types t f dep in
      let same : needs.alias ≡ def = same_at types t t needs.alias def refl needs.there at in
      (needs.target, ap (λ (d : TypeDef). alias_target d.kind) (sym same) ∙ needs.names)

  module _ (valid : IsValid u.graph) where
    things : HasGoodThings u.graph
    things = good_things u.graph valid

    -- what is found in an interface is a type that it owns, under its name
    found_type : (i : ℕ) (name : List ℕ) (t : ℕ) → interface_type u.graph.interfaces i name ≡ Some t → SomeAt types t (λ (def : TypeDef). (def.name ≡ Some name) × (def.owner ≡ owner.Interface i))
    found_type i name t is =
        let parts = some_parts (λ (interface : Interface). lookup (bytes_eq name) interface.types) (slice_get u.graph.interfaces i) t is in
        let has = Contains-from_lookup (λ x y. (bytes_eq-Decides x y).0) name t parts.0.types parts.2 in
        let place = place_of parts.0.types (name, t) has in
        (things.interfaces i parts.0 parts.1).own_types place.0 (name, t) place.1

    -- the type that an alias comes to name
    pub retargeted_type : (t t' : ℕ) → (is : IsRetargeted t t') → SomeAt types t' (λ (named : TypeDef). (named.name ≡ Some is.name) × (named.owner ≡ owner.Interface (newest u is.f)))
    retargeted_type t t' is = found_type (newest u is.f) is.name t' is.found

    other_is_interface : (a : TypeOwner) (n j : ℕ) → other_owner a (owner.Interface n) ≡ Some j → j ≡ n
    other_is_interface (owner.World w) n j is = cc
    other_is_interface owner.None n j is = cc
    other_is_interface (owner.Interface i) n j is = by (nat_eq i n) is
      where
        by : (b : Bool) → (if b then None else Some n) ≡ Some j → j ≡ n
        by true h = cc
        by false h = cc

    -- ---- which interface a type needs after it

    -- what it needed, which isn't replaced for it; or the newest where that is replaced and the type is of a new entry
    pub record NeedsAfter (t j : ℕ) : Type 0 where
      pub f : ℕ
      pub needed : type_interface_dep types t ≡ Some f
      pub is : ((j ≡ f)
          × ((is_replaced u f ≡ true) → (list_any (nat_eq t) (types_of_new_entries u) ≡ true)
          → ⊥))
          ⊎ ((is_replaced u f ≡ true) × (list_any (nat_eq t) (types_of_new_entries u) ≡ true)
          × (j ≡ newest u f))

    -- what an alias that needs an interface names has a name
    target_named : (t f : ℕ) → type_interface_dep types t ≡ Some f → (name : List ℕ) × (target_name types t ≡ Some name)
    target_named t f dep =
        let needs = needs_from types t f dep in
        let alias = if_some (λ (s : ℕ). SomeAt types s (λ (x : TypeDef). IsSome x.name × ((x.owner ≡ needs.alias.owner) ⊎ IsNamedInterface u.graph.interfaces x.owner))) (alias_target needs.alias.kind) needs.target needs.names
        (things.types t needs.alias needs.there).alias in
        let found = found_at (λ (x : TypeDef). IsSome x.name × ((x.owner ≡ needs.alias.owner) ⊎ IsNamedInterface u.graph.interfaces x.owner)) types needs.target alias in
        let same = same_at types needs.target needs.target found.0 needs.named refl found.1 needs.target_there in
        let name = some_there needs.named.name (subst (λ (x : TypeDef). IsSome x.name) same found.2.0) in (
          name.0,
          some_by (λ (def : TypeDef). option_and_then (name_of types) (alias_target def.kind)) (slice_get types t) needs.alias needs.there
              ∙ some_by (name_of types) (alias_target needs.alias.kind) needs.target needs.names
              ∙ some_by (λ (x : TypeDef). x.name) (slice_get types needs.target) needs.named needs.target_there
              ∙ name.1,
        )

    module _ (complete : IsComplete u) where
      -- of what a type of a new entry uses of a replaced interface the newest has a type of the name
      pub newest_has : (t f : ℕ) → list_any (nat_eq t) (types_of_new_entries u) ≡ true → type_interface_dep types t ≡ Some f → is_replaced u f ≡ true
          → (name : List ℕ) × (s : ℕ) × (target_name types t ≡ Some name) × (interface_type u.graph.interfaces (newest u f) name ≡ Some s)
      newest_has t f follows uses replaced =
          let named = target_named t f uses in
          elim (option_cases (interface_type u.graph.interfaces (newest u f) named.0)) [
            | inl absent ↦
                absurd (complete t (semver_merge_text u.graph f (newest u f) (missing_text named.0)) (contains_from_any t (types_of_new_entries u) follows)
                (record { f = f; name = named.0; uses = replaced_use_into t f uses replaced; named = named.1; absent = absent; message_is = refl }))
            | inr found ↦ (named.0, found.0, named.1, found.1)
          ]

      -- so such a type gets a new target
      rewrites : (t f : ℕ) → type_interface_dep types t ≡ Some f → is_replaced u f ≡ true → list_any (nat_eq t) (types_of_new_entries u) ≡ true → new_target u t ≡ None → ⊥
      rewrites t f uses replaced follows none =
          let has = newest_has t f follows uses replaced in
          none_some (sym none ∙ retargeted_into t has.1 (record { f = f; follows = follows; uses = uses; replaced = replaced; name = has.0; named = has.2; found = has.3 }))
        where
          none_some : {X : Type 0} {x : X} → None ≡ Some x → ⊥
          none_some same = cc

      pub needs_after : (t j : ℕ) → type_interface_dep (types_with_new_targets u) t ≡ Some j → NeedsAfter t j
      needs_after t j dep =
          let needs = needs_from (types_with_new_targets u) t j dep in
          let from = type_after t needs.alias needs.there in
          let target = type_after needs.target needs.named needs.target_there in
          let by : needs.alias.owner ≡ from.0.owner = ap (λ (d : TypeDef). d.owner) from.2 ∙ retargeted_owner from.0 (new_target u t) in
          let of : needs.named.owner ≡ target.0.owner = ap (λ (d : TypeDef). d.owner) target.2 ∙ retargeted_owner target.0 (new_target u needs.target) in
          let other : other_owner from.0.owner target.0.owner ≡ Some j =
          subst (λ (o : TypeOwner). other_owner o target.0.owner ≡ Some j) by (subst (λ (o : TypeOwner). other_owner needs.alias.owner o ≡ Some j) of needs.other) in
          elim (option_cases (new_target u t)) [
            | inl none ↦
                let kept : needs.alias ≡ from.0 = from.2 ∙ ap (retargeted from.0) none in
                let before : Needs types t j = record {
                  alias = from.0;
                  there = from.1;
                  target = needs.target;
                  names = ap (λ (d : TypeDef). alias_target d.kind) (sym kept) ∙ needs.names;
                  named = target.0;
                  target_there = target.1;
                  other = other;
                } in
                let needed = needs_into types t j before in
                record { f = j; needed = needed; is = inl (refl, λ replaced follows. rewrites t j needed replaced follows none) }
            | inr some ↦
                let now = retargeted_from t some.0 some.1 in
                let kind_is : alias_target needs.alias.kind ≡ Some some.0 = ap (λ (d : TypeDef). alias_target d.kind) (from.2 ∙ ap (retargeted from.0) some.1) in
                let same : needs.target ≡ some.0 = some_same needs.target some.0 (sym needs.names ∙ kind_is) in
                let found = found_at (λ (named : TypeDef). (named.name ≡ Some now.name) × (named.owner ≡ owner.Interface (newest u now.f))) types some.0 (retargeted_type t some.0 now) in
                let one = same_at types needs.target some.0 target.0 found.0 same target.1 found.1 in
                let owned : target.0.owner ≡ owner.Interface (newest u now.f) = ap (λ (d : TypeDef). d.owner) one ∙ found.2.1 in
                record { f = now.f; needed = now.uses; is = inr (now.replaced, now.follows, other_is_interface from.0.owner (newest u now.f) j (subst (λ (o : TypeOwner). other_owner from.0.owner o ≡ Some j) owned other)) }
          ]
