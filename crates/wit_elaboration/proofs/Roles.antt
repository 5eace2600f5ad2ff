-- What an item is to elaboration, and what lists in order say of their entries.
use Rattle.std.proofs.Common.{◌≡◌, ℕ, true, inl, inr, List, [], ◌∷◌, Option, Some, None, refl, ap, subst, Contains}
use Rattle.std.specs.List.{AllByRecursion}
use Rattle.wit_data.specs.Function.{resource_of}
use Rattle.wit_data.specs.Uses.{type_interface_dep}
use Rattle.wit_data.specs.declared.types.TypeDef.{TypeDef}
use Rattle.wit_data.specs.declared.world.WorldItem.{WorldItem}
use Rattle.wit_data.specs.declared.world.WorldItem.TheVariants as item
use Rattle.wit_digraph.specs.facts.MemberFacts.{Contains-nil, Contains-cons_cases}
use Rattle.wit_elaboration.specs.Entries.{Entry, Instance, role_of, item_interface, is_instance}
use Rattle.wit_elaboration.specs.Elaborated.{without_span}
use Rattle.wit_elaboration.specs.Sound.{IsUnderOwnKey, IsRoleInRange, HasSoundEntries}
use Rattle.wit_elaboration.specs.facts.Order.{AreOwn}
use Rattle.wit_elaboration.specs.steps.Parts.{type_role, function_role}

-- what is so of each element is so of a member
pub each_member : {X : Type 0} (P : X → Type 0) (xs : List X) (x : X) → AllByRecursion P xs → Contains xs x → P x
each_member P [] x all has = absurd (Contains-nil has)
each_member P (y ∷ ys) x all has =
    elim (Contains-cons_cases y x ys has) [ inl same ↦ subst P same all.0 | inr there ↦ each_member P ys x all.1 there ]

pub without_span-twice : (x : WorldItem) → without_span (without_span x) ≡ without_span x
without_span-twice (item.Interface i stability docs span external_id) = refl
without_span-twice (item.Function function) = refl
without_span-twice (item.Type_ id span) = refl

function_role-other : (o : Option ℕ) (i : ℕ) → function_role o ≡ Instance i → ⊥
function_role-other (Some r) i same = cc
function_role-other None i same = cc

type_role-other : (o : Option ℕ) (i : ℕ) → type_role o ≡ Instance i → ⊥
type_role-other (Some r) i same = cc
type_role-other None i same = cc

module _ (types : List TypeDef) where
  pub role_of-without_span : (x : WorldItem) → role_of types (without_span x) ≡ role_of types x
  role_of-without_span (item.Interface i stability docs span external_id) = refl
  role_of-without_span (item.Function function) = refl
  role_of-without_span (item.Type_ id span) = refl

  pub role_from_instance : (x : WorldItem) (i : ℕ) → item_interface x ≡ i ∷ [] → role_of types x ≡ Instance i
  role_from_instance (item.Interface j stability docs span external_id) i same = let one : j ≡ i = cc in ap (λ k. Instance k) one
  role_from_instance (item.Function function) i same = cc
  role_from_instance (item.Type_ id span) i same = cc

  pub instance_from_role : (x : WorldItem) (i : ℕ) → role_of types x ≡ Instance i → item_interface x ≡ i ∷ []
  instance_from_role (item.Interface j stability docs span external_id) i same = let one : j ≡ i = cc in ap (λ k. k ∷ []) one
  instance_from_role (item.Function function) i same = absurd (function_role-other (resource_of function.kind) i same)
  instance_from_role (item.Type_ id span) i same = absurd (type_role-other (type_interface_dep types id) i same)

  pub is_instance_from_role : (x : WorldItem) (i : ℕ) → role_of types x ≡ Instance i → is_instance x ≡ true
  is_instance_from_role (item.Interface j stability docs span external_id) i same = refl
  is_instance_from_role (item.Function function) i same = absurd (function_role-other (resource_of function.kind) i same)
  is_instance_from_role (item.Type_ id span) i same = absurd (type_role-other (type_interface_dep types id) i same)

  -- what lists in order say of each entry
  pub record InOrder (interfaces : ℕ) (imports exports : List Entry) : Type 0 where
    pub own_imports : AreOwn types imports
    pub own_exports : AreOwn types exports
    pub imports_in_range : (e : Entry) → Contains imports e
        → IsRoleInRange interfaces (role_of types e.1)
    pub exports_in_range : (e : Entry) → Contains exports e
        → IsRoleInRange interfaces (role_of types e.1)

  own_from : (es : List Entry) → AllByRecursion (λ (e : Entry). IsUnderOwnKey e.0 e.1) es → AreOwn types es
  own_from es all e i has is = role_from_instance e.1 i (subst (λ k. IsUnderOwnKey k e.1) is (each_member (λ (f : Entry). IsUnderOwnKey f.0 f.1) es e all has))

  pub in_order : (interfaces : ℕ) (imports exports : List Entry) → HasSoundEntries types interfaces imports exports → InOrder interfaces imports exports
  in_order interfaces imports exports listed = record {
    own_imports = own_from imports listed.of_imports.own_keys;
    own_exports = own_from exports listed.of_exports.own_keys;
    imports_in_range = λ e. each_member (λ (f : Entry). IsRoleInRange interfaces (role_of types f.1)) imports e listed.of_imports.in_range;
    exports_in_range = λ e. each_member (λ (f : Entry). IsRoleInRange interfaces (role_of types f.1)) exports e listed.of_exports.in_range;
  }
