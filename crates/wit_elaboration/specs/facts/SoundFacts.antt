-- Facts on aliases and on lists in order, for the proofs of this crate and of the crates above: where
-- aliases name what they may, the lists of a world that holds what it should are in order. They say
-- nothing about this crate's code.
use Rattle.std.proofs.Common.{◌≡◌, ◌∙◌, ◌⊎◌, inl, inr, ℕ, suc, ◌<◌, ◌==◌, Bool, true, false, List, [], ◌∷◌, length, Option, Some, None, IfSome, IsSome, option_and_then, slice_get, refl, ap, sym, subst, eq-eqb, if◌then◌else◌}
use Rattle.std.proofs.lemmas.List.{length-map}
use Rattle.std.proofs.lemmas.Option.{slice_get_within}
use Rattle.std.specs.List.{AllByRecursion}
use Rattle.wit_data.specs.Each.{Each, SomeAt}
use Rattle.wit_data.specs.facts.EachFacts.{SomeAt-is}
use Rattle.wit_data.specs.Entries.{Entry, ExportsAreAllowed, ImportsAreAllowed, IsExport, IsImport}
use Rattle.wit_data.specs.Function.{resource_of}
use Rattle.wit_data.specs.Ownership.{AliasesNamed, IsNamed, IsNamedInterface}
use Rattle.wit_data.specs.Uses.{alias_target, interface_uses, other_owner, type_interface_dep, uses_of}
use Rattle.wit_data.specs.declared.interface.Interface.{Interface}
use Rattle.wit_data.specs.declared.types.TypeDef.{TypeDef}
use Rattle.wit_data.specs.declared.types.TypeOwner.{TypeOwner}
use Rattle.wit_data.specs.declared.world.World.{World}
use Rattle.wit_data.specs.declared.world.WorldItem.{WorldItem}
use Rattle.wit_data.specs.declared.world.WorldKey.{WorldKey}
use Rattle.wit_data.specs.declared.types.TypeOwner.TheVariants as owner
use Rattle.wit_data.specs.declared.world.WorldItem.TheVariants as item
use Rattle.wit_data.specs.declared.world.WorldKey.TheVariants as key
use Rattle.wit_elaboration.specs.Entries.{role_of}
use Rattle.wit_elaboration.specs.Sound.{HasSoundEntries, IsRoleInRange, IsUnderOwnKey}
use Rattle.wit_elaboration.specs.steps.Parts.{type_role, function_role}

-- ---- what an alias needs

-- the other owner is the one that the type has, and isn't the alias's own
other_owner_is : (mine theirs : TypeOwner) (j : ℕ) → other_owner mine theirs ≡ Some j → (theirs ≡ owner.Interface j) × (theirs ≡ mine → ⊥)
other_owner_is (owner.Interface i) (owner.Interface k) j is = by (i == k) refl is
  where
    by : (b : Bool) → (i == k) ≡ b → (if b then None else Some k) ≡ Some j → (owner.Interface k ≡ owner.Interface j) × (owner.Interface k ≡ owner.Interface i → ⊥)
    by true test found = cc
    by false test found =
        let same : k ≡ j = cc in
        (ap owner.Interface same, λ equal. let one : i ≡ k = cc in let passed : (i == k) ≡ true = eq-eqb i k one in cc)
other_owner_is (owner.World w) (owner.Interface k) j is = let same : k ≡ j = cc in (ap owner.Interface same, λ equal. cc)
other_owner_is owner.None (owner.Interface k) j is = let same : k ≡ j = cc in (ap owner.Interface same, λ equal. cc)
other_owner_is (owner.Interface i) (owner.World w) j is = cc
other_owner_is (owner.World v) (owner.World w) j is = cc
other_owner_is owner.None (owner.World w) j is = cc
other_owner_is (owner.Interface i) owner.None j is = cc
other_owner_is (owner.World v) owner.None j is = cc
other_owner_is owner.None owner.None j is = cc

-- a named type of this owner, or of an interface with a name
abbrev pub NamedFor : List Interface → TypeOwner → TypeDef → Type 0
NamedFor interfaces by named =
    IsSome named.name × ((named.owner ≡ by) ⊎ IsNamedInterface interfaces named.owner)

named_other : (interfaces : List Interface) (mine : TypeOwner) (named : TypeDef) (j : ℕ) → NamedFor interfaces mine named → other_owner mine named.owner ≡ Some j → IsNamed interfaces j
named_other interfaces mine named j has is =
    let parts = other_owner_is mine named.owner j is in
    elim has.1 [ inl same ↦ absurd (parts.1 same) | inr other ↦ subst (IsNamedInterface interfaces) parts.0 other ]

-- the interface that the alias of a type needs has a name
named_dep : (types : List TypeDef) (interfaces : List Interface) (mine : TypeOwner) (target : Option ℕ) (j : ℕ) → IfSome target (λ t. SomeAt types t (NamedFor interfaces mine))
    → option_and_then (λ t. option_and_then (λ (named : TypeDef). other_owner mine named.owner) (slice_get types t)) target ≡ Some j → IsNamed interfaces j
named_dep types interfaces mine None j has is = cc
named_dep types interfaces mine (Some t) j has is =
    let named = SomeAt-is (NamedFor interfaces mine) types t has in
    named_other interfaces mine named.0 j named.2 (ap (option_and_then (λ (d : TypeDef). other_owner mine d.owner)) (sym named.1) ∙ is)

pub dep_is_named : (types : List TypeDef) (interfaces : List Interface) (id j : ℕ) → Each (AliasesNamed types interfaces) types → type_interface_dep types id ≡ Some j → IsNamed interfaces j
dep_is_named types interfaces id j aliases is = by (slice_get types id) refl is
  where
    by : (o : Option TypeDef) → slice_get types id ≡ o
        → option_and_then (λ (alias : TypeDef). option_and_then (λ t. option_and_then (λ (named : TypeDef). other_owner alias.owner named.owner) (slice_get types t)) (alias_target alias.kind)) o ≡ Some j
        → IsNamed interfaces j
    by None at found = cc
    by (Some def) at found = named_dep types interfaces def.owner (alias_target def.kind) j (aliases id def at) found

-- a named interface is there
pub named_within : (interfaces : List Interface) (j : ℕ) → IsNamed interfaces j → j < length interfaces
named_within interfaces j named =
    let there = SomeAt-is (λ (interface : Interface). IsSome interface.name) interfaces j named in slice_get_within interfaces j there.0 there.1

-- ---- lists in order

each_by_recursion : {X : Type 0} (P : X → Type 0) (xs : List X) → Each P xs → AllByRecursion P xs
each_by_recursion P [] each = tt
each_by_recursion P (x ∷ xs) each = (each 0 x refl, each_by_recursion P xs (λ i y at. each (suc i) y at))

function_in_range : (n : ℕ) (o : Option ℕ) → IsRoleInRange n (function_role o)
function_in_range n None = tt
function_in_range n (Some r) = tt

type_in_range : (n : ℕ) (o : Option ℕ) → ((j : ℕ) → o ≡ Some j → j < n) → IsRoleInRange n (type_role o)
type_in_range n None below = tt
type_in_range n (Some j) below = below j refl

export_own_key : (interfaces : List Interface) (k : WorldKey) (i : WorldItem) → IsExport interfaces k i → IsUnderOwnKey k i
export_own_key interfaces (key.Interface f) (item.Interface id stability docs span external_id) is = ap (λ j. j ∷ []) is.0
export_own_key interfaces (key.Interface f) (item.Function function) is = absurd is
export_own_key interfaces (key.Interface f) (item.Type_ id span) is = absurd is
export_own_key interfaces (key.Name name) i is = tt

export_in_range : (types : List TypeDef) (interfaces : List Interface) (k : WorldKey) (i : WorldItem) → IsExport interfaces k i → IsRoleInRange (length interfaces) (role_of types i)
export_in_range types interfaces (key.Interface f) (item.Interface id stability docs span external_id) is = subst (λ j. j < length interfaces) (sym is.0) (named_within interfaces f is.1)
export_in_range types interfaces (key.Name name) (item.Interface id stability docs span external_id) is = is
export_in_range types interfaces k (item.Function function) is = function_in_range (length interfaces) (resource_of function.kind)
export_in_range types interfaces (key.Interface f) (item.Type_ id span) is = absurd is
export_in_range types interfaces (key.Name name) (item.Type_ id span) is = absurd is

import_own_key : (interfaces : List Interface) (types : List TypeDef) (w : ℕ) (k : WorldKey) (i : WorldItem) → IsImport interfaces types w k i → IsUnderOwnKey k i
import_own_key interfaces types w (key.Interface f) i is = export_own_key interfaces (key.Interface f) i is
import_own_key interfaces types w (key.Name name) i is = tt

module _ (types : List TypeDef) (interfaces : List Interface) (aliases : Each (AliasesNamed types interfaces) types) where
  import_in_range : (w : ℕ) (k : WorldKey) (i : WorldItem) → IsImport interfaces types w k i → IsRoleInRange (length interfaces) (role_of types i)
  import_in_range w (key.Interface f) i is = export_in_range types interfaces (key.Interface f) i is
  import_in_range w (key.Name name) (item.Interface id stability docs span external_id) is = is
  import_in_range w (key.Name name) (item.Function function) is = function_in_range (length interfaces) (resource_of function.kind)
  import_in_range w (key.Name name) (item.Type_ id span) is =
      type_in_range (length interfaces) (type_interface_dep types id) (λ j found. named_within interfaces j (dep_is_named types interfaces id j aliases found))

  -- the lists of a world are in order, over so many interfaces
  pub HasSoundEntries-of_world : (w : ℕ) (world : World) → ImportsAreAllowed interfaces types w world → ExportsAreAllowed interfaces world → HasSoundEntries types (length interfaces) world.imports world.exports
  HasSoundEntries-of_world w world imports exports = record {
    of_imports = record {
      own_keys = each_by_recursion (λ (e : Entry). IsUnderOwnKey e.0 e.1) world.imports (λ i e at. import_own_key interfaces types w e.0 e.1 (imports i e at));
      in_range = each_by_recursion (λ (e : Entry). IsRoleInRange (length interfaces) (role_of types e.1)) world.imports (λ i e at. import_in_range w e.0 e.1 (imports i e at));
    };
    of_exports = record {
      own_keys = each_by_recursion (λ (e : Entry). IsUnderOwnKey e.0 e.1) world.exports (λ i e at. export_own_key interfaces e.0 e.1 (exports i e at));
      in_range = each_by_recursion (λ (e : Entry). IsRoleInRange (length interfaces) (role_of types e.1)) world.exports (λ i e at. export_in_range types interfaces e.0 e.1 (exports i e at));
    };
  }

  -- over as many as there are adjacency lists
  pub lists_in_order : (w : ℕ) (world : World) → ImportsAreAllowed interfaces types w world → ExportsAreAllowed interfaces world → HasSoundEntries types (length (uses_of types interfaces)) world.imports world.exports
  lists_in_order w world imports exports =
      let many : length (uses_of types interfaces) ≡ length interfaces = length-map interfaces (interface_uses types) in
      subst (λ (n : ℕ). HasSoundEntries types n world.imports world.exports) (sym many) (HasSoundEntries-of_world w world imports exports)
