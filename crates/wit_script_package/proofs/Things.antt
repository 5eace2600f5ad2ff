-- What holds of each type, each interface and each world of a package while lines are added to it, and that it stays so
-- where others are added.
use Rattle.std.proofs.Common.{◌≡◌, ◌∙◌, ◌↔◌, ◌⊎◌, inl, inr, ℕ, ◌<◌, ◌≤◌, zero, suc, List, length, Option, Some, None, IfSome, IsSome, slice_get, refl, sym, ap, subst, arith, Contains, option_and_then, lt_of_lt_of_le}
use Rattle.std.proofs.lemmas.Option.{slice_get_within}
use Rattle.wit_values.specs.Table.{HasDistinctKeys}
use Rattle.wit_data.specs.Each.{Each, EachAt, SomeAt}
use Rattle.wit_data.specs.Entries.{EntriesUseOwn, ExportsAreAllowed, ImportsAreAllowed, IsExport, IsImport, ItemUsesOwn}
use Rattle.wit_data.specs.Foreign.{IsForeignType}
use Rattle.wit_data.specs.Ownership.{AliasesNamed, FunctionsUseOwn, IsListed, IsNamed, IsNamedInterface, IsOwn, IsPlain, ListsOwn, NamesFunctions, RefersToOwn, world_types}
use Rattle.wit_data.specs.Kind.{function_references, referred}
use Rattle.wit_data.specs.Uses.{alias_target, other_owner, type_interface_dep}
use Rattle.wit_data.specs.declared.interface.Interface.{Interface}
use Rattle.wit_data.specs.declared.types.TypeDef.{TypeDef}
use Rattle.wit_data.specs.declared.types.TypeDefKind.{TypeDefKind}
use Rattle.wit_data.specs.declared.types.TypeOwner.{TypeOwner}
use Rattle.wit_data.specs.declared.world.World.{World}
use Rattle.wit_data.specs.declared.world.WorldItem.{WorldItem}
use Rattle.wit_data.specs.declared.world.WorldKey.{WorldKey}
use Rattle.wit_data.specs.declared.types.TypeDefKind.TheVariants as kind
use Rattle.wit_data.specs.declared.types.TypeOwner.TheVariants as owner
use Rattle.wit_data.specs.declared.types.Type_.TheVariants as type
use Rattle.wit_data.specs.declared.world.WorldItem.TheVariants as item
use Rattle.wit_data.specs.declared.world.WorldKey.TheVariants as key
use Rattle.wit_script_package.proofs.Owned.{AreAmong, ReferToEarlier, own-stays}
use Rattle.wit_script_package.proofs.Places.{SomeAt-moved, get_at, if-some, same_at}
use Rattle.wit_script_lines.specs.facts.OptionFacts.{same-some, step-of}
use Rattle.wit_data.specs.steps.Parts.{parts}

-- the lists of a package
pub record Things : Type 0 where
  pub types : List TypeDef
  pub interfaces : List Interface
  pub worlds : List World

-- what holds of type i, where so many interfaces are foreign, and so many types are of them
pub record IsGoodType (foreign unknown : ℕ) (s : Things) (i : ℕ) (def : TypeDef) : Type 0 where
  pub listed : IsListed s.interfaces s.worlds i def.name def.owner
  pub earlier : Each (λ id. id < i) (referred def.kind)
  pub aliases : AliasesNamed s.types s.interfaces def
  pub unnamed : (def.name ≡ None) → IsPlain def.kind
  pub own : RefersToOwn s.types def
  pub unknown_first : (def.kind ≡ kind.Unknown) ↔ (i < unknown)
  pub of_foreign : i < unknown → IsForeignType foreign def
  -- an interface uses earlier ones
  pub uses : (f j : ℕ) → def.owner ≡ owner.Interface f → type_interface_dep s.types i ≡ Some j → j < f

pub record IsGoodInterface (foreign unknown : ℕ) (s : Things) (f : ℕ) (interface : Interface) : Type 0 where
  pub types_differ : HasDistinctKeys interface.types
  pub functions_differ : HasDistinctKeys interface.functions
  pub unplaced : interface.package ≡ None
  pub named : IsSome interface.name
  pub own_types : ListsOwn s.types f interface
  pub functions : NamesFunctions interface
  pub own : FunctionsUseOwn s.types f interface
  pub alone : f < foreign → Each (λ (e : List ℕ × ℕ). e.1 < unknown) interface.types

pub record IsGoodWorld (s : Things) (w : ℕ) (world : World) : Type 0 where
  pub imports_differ : HasDistinctKeys world.imports
  pub exports_differ : HasDistinctKeys world.exports
  pub unplaced : world.package ≡ None
  pub imports : ImportsAreAllowed s.interfaces s.types w world
  pub exports : ExportsAreAllowed s.interfaces world
  pub imports_own : EntriesUseOwn s.types w world.imports
  pub exports_own : EntriesUseOwn s.types w world.exports

-- what holds of all, where so many interfaces and worlds are foreign, and so many types
pub record AreGood (foreign foreign_worlds unknown : ℕ) (s : Things) : Type 0 where
  pub types : EachAt (IsGoodType foreign unknown s) s.types
  pub interfaces : EachAt (IsGoodInterface foreign unknown s) s.interfaces
  pub worlds : EachAt (IsGoodWorld s) s.worlds
  pub first_types : unknown ≤ length s.types
  pub first_interfaces : foreign ≤ length s.interfaces
  pub first_worlds : foreign_worlds ≤ length s.worlds

pub good-earlier : (foreign foreign_worlds unknown : ℕ) (s : Things) → AreGood foreign foreign_worlds unknown s → ReferToEarlier s.types
good-earlier foreign foreign_worlds unknown s good i def at = (good.types i def at).earlier

-- an interface that lists more
abbrev pub ListsMore : Interface → Interface → Type 0
ListsMore old new = (new.name ≡ old.name) × ((e : List ℕ × ℕ) → Contains old.types e → Contains new.types e)

-- a world that lists more
abbrev pub WorldListsMore : World → World → Type 0
WorldListsMore old new = (e : List ℕ × ℕ) → Contains (world_types old) e → Contains (world_types new) e

-- there is more, and what is foreign is as it was
pub record Grows (foreign foreign_worlds : ℕ) (s t : Things) : Type 0 where
  pub types : AreAmong s.types t.types
  pub interfaces : (f : ℕ) (interface : Interface) → slice_get s.interfaces f ≡ Some interface → (new : Interface) × (slice_get t.interfaces f ≡ Some new) × ListsMore interface new
  pub worlds : (w : ℕ) (world : World) → slice_get s.worlds w ≡ Some world → (new : World) × (slice_get t.worlds w ≡ Some new) × WorldListsMore world new
  pub foreign_same : (f : ℕ) → f < foreign → slice_get t.interfaces f ≡ slice_get s.interfaces f
  pub foreign_worlds_same : (w : ℕ) → w < foreign_worlds → slice_get t.worlds w ≡ slice_get s.worlds w

-- ---- aliases

-- what an alias names is what its kind says
pub alias_is : (k : TypeDefKind) (target : ℕ) → alias_target k ≡ Some target → k ≡ kind.Type_ (type.Id target)
alias_is (kind.Type_ (type.Id id)) target is = ap (λ (n : ℕ). kind.Type_ (type.Id n)) (same-some id target is)
alias_is other target is = cc

alias_first : (k : TypeDefKind) (target : ℕ) → alias_target k ≡ Some target → slice_get (referred k) 0 ≡ Some target
alias_first k target is = ap (λ (l : TypeDefKind). slice_get (referred l) 0) (alias_is k target is)

-- a plain kind is no alias
pub plain_alias : (k : TypeDefKind) → IsPlain k → alias_target k ≡ None
plain_alias (kind.Type_ ty) plain = absurd plain
plain_alias kind.Resource plain = absurd plain
plain_alias other plain = refl

-- the owner of what an alias names
abbrev pub named_owner : List TypeDef → TypeDef → ℕ → Option ℕ
named_owner types alias target = option_and_then (λ (named : TypeDef). other_owner alias.owner named.owner) (slice_get types target)

abbrev pub dep_of : List TypeDef → TypeDef → Option ℕ
dep_of types alias = option_and_then (named_owner types alias) (alias_target alias.kind)

-- what a use of another interface comes from
pub record IsUse (types : List TypeDef) (def : TypeDef) (j : ℕ) : Type 0 where
  pub target : ℕ
  pub alias : alias_target def.kind ≡ Some target
  pub named : TypeDef
  pub there : slice_get types target ≡ Some named
  pub uses : other_owner def.owner named.owner ≡ Some j

pub dep-is : (types : List TypeDef) (i : ℕ) (def : TypeDef) (j : ℕ) → slice_get types i ≡ Some def → type_interface_dep types i ≡ Some j → IsUse types def j
dep-is types i def j at is =
    let told : dep_of types def ≡ Some j = sym (ap (option_and_then (dep_of types)) at) ∙ is in
    let alias = step-of (named_owner types def) (alias_target def.kind) j told in
    let named = step-of (λ (named : TypeDef). other_owner def.owner named.owner) (slice_get types alias.0) j alias.2 in
    record { target = alias.0; alias = alias.1; named = named.0; there = named.1; uses = named.2 }

pub dep-of : (types : List TypeDef) (i : ℕ) (def : TypeDef) (j : ℕ) → slice_get types i ≡ Some def → IsUse types def j → type_interface_dep types i ≡ Some j
dep-of types i def j at dep =
    ap (option_and_then (dep_of types)) at ∙ ap (option_and_then (named_owner types def)) dep.alias
    ∙ ap (option_and_then (λ (named : TypeDef). other_owner def.owner named.owner)) dep.there ∙ dep.uses

-- ---- what stays

module _ (foreign foreign_worlds : ℕ) (s t : Things) (grows : Grows foreign foreign_worlds s t) (earlier : ReferToEarlier s.types) where
  pub more-interfaces : length s.interfaces ≤ length t.interfaces
  more-interfaces = by (length s.interfaces) refl where
    by : (n : ℕ) → length s.interfaces ≡ n → n ≤ length t.interfaces
    by zero none = omega arith
    by (suc n) some =
        let last = get_at s.interfaces n (omega (arith, some)) in
        let new = grows.interfaces n last.0 last.1 in
        let within = slice_get_within t.interfaces n new.0 new.1 in
        omega arith

  pub more-worlds : length s.worlds ≤ length t.worlds
  more-worlds = by (length s.worlds) refl where
    by : (n : ℕ) → length s.worlds ≡ n → n ≤ length t.worlds
    by zero none = omega arith
    by (suc n) some =
        let last = get_at s.worlds n (omega (arith, some)) in
        let new = grows.worlds n last.0 last.1 in
        let within = slice_get_within t.worlds n new.0 new.1 in
        omega arith

  pub named-stays : (f : ℕ) → IsNamed s.interfaces f → IsNamed t.interfaces f
  named-stays f some =
      SomeAt-moved (λ (i : Interface). IsSome i.name) (λ (i : Interface). IsSome i.name) s.interfaces t.interfaces f
      (λ x at named. let new = grows.interfaces f x at in (new.0, new.1, subst IsSome (sym new.2.0) named)) some

  pub type-stays : (P : TypeDef → Type 0) (id : ℕ) → SomeAt s.types id P → SomeAt t.types id P
  type-stays P id some = SomeAt-moved P P s.types t.types id (λ x at holds. (x, grows.types id x at, holds)) some

  pub owns-stay : (by : TypeOwner) (ids : List ℕ) → Each (IsOwn s.types by) ids → Each (IsOwn t.types by) ids
  owns-stay by ids each i id at = own-stays s.types t.types grows.types earlier by id (each i id at)

  pub listed-stays : (i : ℕ) (name : Option (List ℕ)) (by : TypeOwner) → IsListed s.interfaces s.worlds i name by → IsListed t.interfaces t.worlds i name by
  listed-stays i name owner.None holds = holds
  listed-stays i None (owner.Interface f) holds = holds
  listed-stays i (Some name) (owner.Interface f) holds =
      SomeAt-moved (λ (x : Interface). Contains x.types (name, i)) (λ (x : Interface). Contains x.types (name, i)) s.interfaces t.interfaces f
      (λ x at has. let new = grows.interfaces f x at in (new.0, new.1, new.2.1 (name, i) has)) holds
  listed-stays i None (owner.World w) holds = holds
  listed-stays i (Some name) (owner.World w) holds =
      SomeAt-moved (λ (x : World). Contains (world_types x) (name, i)) (λ (x : World). Contains (world_types x) (name, i)) s.worlds t.worlds w
      (λ x at has. let new = grows.worlds w x at in (new.0, new.1, new.2 (name, i) has)) holds

  pub named_interface-stays : (by : TypeOwner) → IsNamedInterface s.interfaces by → IsNamedInterface t.interfaces by
  named_interface-stays (owner.Interface f) holds = named-stays f holds
  named_interface-stays (owner.World w) holds = holds
  named_interface-stays owner.None holds = holds

  -- what an alias of this owner may name
  abbrev pub MayName : TypeOwner → TypeDef → Type 0
  MayName by named = IsSome named.name × ((named.owner ≡ by) ⊎ IsNamedInterface s.interfaces named.owner)

  abbrev pub MayNameThen : TypeOwner → TypeDef → Type 0
  MayNameThen by named = IsSome named.name × ((named.owner ≡ by) ⊎ IsNamedInterface t.interfaces named.owner)

  may-name : (by : TypeOwner) (named : TypeDef) → MayName by named → MayNameThen by named
  may-name by named may = (may.0, elim may.1 [ inl same ↦ inl same | inr interface ↦ inr (named_interface-stays named.owner interface) ])

  pub aliases-stay : (by : TypeOwner) (o : Option ℕ) → IfSome o (λ target. SomeAt s.types target (MayName by)) → IfSome o (λ target. SomeAt t.types target (MayNameThen by))
  aliases-stay by o holds =
      if-some o (λ target is some. SomeAt-moved (MayName by) (MayNameThen by) s.types t.types target (λ x at may. (x, grows.types target x at, may-name by x may)) some) holds

  -- a use is a use that was there
  pub dep-was : (i : ℕ) (def : TypeDef) (j : ℕ) → slice_get s.types i ≡ Some def → type_interface_dep t.types i ≡ Some j → type_interface_dep s.types i ≡ Some j
  dep-was i def j at is =
      let dep = dep-is t.types i def j (grows.types i def at) is in
      let below : dep.target < i = earlier i def at 0 dep.target (alias_first def.kind dep.target dep.alias) in
      let within = slice_get_within s.types i def at in
      let was = get_at s.types dep.target (omega (arith, below, within)) in
      let same : dep.named ≡ was.0 = same_at t.types dep.target dep.named was.0 dep.there (grows.types dep.target was.0 was.1) in
      dep-of s.types i def j at
      (record { target = dep.target; alias = dep.alias; named = was.0; there = was.1; uses = subst (λ (d : TypeDef). other_owner def.owner d.owner ≡ Some j) same dep.uses })

  module _ (unknown : ℕ) where
    pub good_type-stays : (i : ℕ) (def : TypeDef) → slice_get s.types i ≡ Some def → IsGoodType foreign unknown s i def → IsGoodType foreign unknown t i def
    good_type-stays i def at good = record {
      listed = listed-stays i def.name def.owner good.listed;
      earlier = good.earlier;
      aliases = aliases-stay def.owner (alias_target def.kind) good.aliases;
      unnamed = good.unnamed;
      own = λ named. owns-stay def.owner (parts def.kind) (good.own named);
      unknown_first = good.unknown_first;
      of_foreign = good.of_foreign;
      uses = λ f j owned dep. good.uses f j owned (dep-was i def j at dep);
    }

    pub good_interface-stays : (f : ℕ) (interface : Interface) → IsGoodInterface foreign unknown s f interface → IsGoodInterface foreign unknown t f interface
    good_interface-stays f interface good = record {
      types_differ = good.types_differ;
      functions_differ = good.functions_differ;
      unplaced = good.unplaced;
      named = good.named;
      own_types = λ i e at. type-stays (λ (def : TypeDef). (def.name ≡ Some e.0) × (def.owner ≡ owner.Interface f)) e.1 (good.own_types i e at);
      functions = good.functions;
      own = λ i e at. owns-stay (owner.Interface f) (function_references e.1) (good.own i e at);
      alone = good.alone;
    }

    pub all_types-stay : EachAt (IsGoodType foreign unknown s) s.types → EachAt (IsGoodType foreign unknown t) s.types
    all_types-stay each i def at = good_type-stays i def at (each i def at)

    pub all_interfaces-stay : EachAt (IsGoodInterface foreign unknown s) s.interfaces → EachAt (IsGoodInterface foreign unknown t) s.interfaces
    all_interfaces-stay each f interface at = good_interface-stays f interface (each f interface at)

  pub export-stays : (k : WorldKey) (e : WorldItem) → IsExport s.interfaces k e → IsExport t.interfaces k e
  export-stays (key.Interface f) (item.Interface id stability docs span external_id) holds = (holds.0, named-stays f holds.1)
  export-stays (key.Interface f) (item.Function function) holds = holds
  export-stays (key.Interface f) (item.Type_ id span) holds = holds
  export-stays (key.Name name) (item.Interface id stability docs span external_id) holds = lt_of_lt_of_le holds more-interfaces
  export-stays (key.Name name) (item.Function function) holds = holds
  export-stays (key.Name name) (item.Type_ id span) holds = holds

  pub import-stays : (w : ℕ) (k : WorldKey) (e : WorldItem) → IsImport s.interfaces s.types w k e → IsImport t.interfaces t.types w k e
  import-stays w (key.Interface f) (item.Interface id stability docs span external_id) holds = (holds.0, named-stays f holds.1)
  import-stays w (key.Interface f) (item.Function function) holds = holds
  import-stays w (key.Interface f) (item.Type_ id span) holds = holds
  import-stays w (key.Name name) (item.Interface id stability docs span external_id) holds = lt_of_lt_of_le holds more-interfaces
  import-stays w (key.Name name) (item.Function function) holds = holds
  import-stays w (key.Name name) (item.Type_ id span) holds = type-stays (λ (def : TypeDef). (def.name ≡ Some name) × (def.owner ≡ owner.World w)) id holds

  pub item-stays : (w : ℕ) (e : WorldItem) → ItemUsesOwn s.types w e → ItemUsesOwn t.types w e
  item-stays w (item.Interface id stability docs span external_id) holds = holds
  item-stays w (item.Function function) holds = owns-stay (owner.World w) (function_references function) holds
  item-stays w (item.Type_ id span) holds = holds

  pub good_world-stays : (w : ℕ) (world : World) → IsGoodWorld s w world → IsGoodWorld t w world
  good_world-stays w world good = record {
    imports_differ = good.imports_differ;
    exports_differ = good.exports_differ;
    unplaced = good.unplaced;
    imports = λ i e at. import-stays w e.0 e.1 (good.imports i e at);
    exports = λ i e at. export-stays e.0 e.1 (good.exports i e at);
    imports_own = λ i e at. item-stays w e.1 (good.imports_own i e at);
    exports_own = λ i e at. item-stays w e.1 (good.exports_own i e at);
  }

  pub all_worlds-stay : EachAt (IsGoodWorld s) s.worlds → EachAt (IsGoodWorld t) s.worlds
  all_worlds-stay each w world at = good_world-stays w world (each w world at)
