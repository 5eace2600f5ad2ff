-- The gates that are asked, and that the package meets.
use Rattle.std.proofs.Common.{◌≡◌, ◌∙◌, ◌≤◌, ℕ, suc, Bool, true, if◌then◌else◌, List, [], ◌∷◌, inl, inr, length, take, Option, None, Some, slice_get, is_lt, refl, sym, ap, subst, Contains}
use Rattle.std.specs.Prelude.{nat_eq, nat_lt}
use Rattle.std.proofs.lemmas.Bool.{cases_lt, le-ltb, lt-ltb}
use Rattle.std.proofs.lemmas.Option.{slice_get_within}
use Rattle.std.specs.List.{IsDistinct, position_or_len}
use Rattle.std.specs.Option.{option_map_or}
use Rattle.std.specs.declared.cmp.Ordering.{Ordering}
use Rattle.std.specs.declared.cmp.Ordering.TheVariants.{Less, Equal, Greater}
use Rattle.wit_values.specs.Version.{Parts, version_cmp}
use Rattle.wit_digraph.specs.facts.MemberFacts.{Contains-cons_cases, Contains-flat_map, Contains-flat_map_cases, Contains-here, Contains-nil}
use Rattle.wit_sources.specs.Span.{moved_by}
use Rattle.wit_data.specs.Each.{Each, EachAt}
use Rattle.wit_data.specs.Entries.{Entry}
use Rattle.wit_data.specs.Foreign.{AreFirst, ForeignItem, ForeignItems, IsNameOnly, foreign_interfaces, foreign_worlds, interface_id, world_id}
use Rattle.wit_data.specs.declared.unresolved.AstItem.{AstItem}
use Rattle.wit_data.specs.declared.interface.Interface.{Interface}
use Rattle.wit_names.specs.declared.package_name.PackageName.{PackageName}
use Rattle.wit_data.specs.declared.stability.Stability.{Stability}
use Rattle.wit_data.specs.declared.types.TypeDef.{TypeDef}
use Rattle.wit_data.specs.declared.world.World.{World}
use Rattle.wit_data.specs.declared.stability.Stability.TheVariants.{Stable}
use Rattle.wit_data.specs.declared.unresolved.AstItem.TheVariants as named
use Rattle.wit_graph_data.specs.declared.cause.Cause.TheVariants as cause
use Rattle.wit_graph_data.specs.declared.features.Features.{Features}
use Rattle.wit_graph_data.specs.declared.error_kind.ResolveErrorKind.{ResolveErrorKind}
use Rattle.wit_graph_data.specs.declared.error_kind.ResolveErrorKind.TheVariants.{Semantic}
use Rattle.wit_graph_theory.specs.facts.ListFacts.{contained_at, found_at, place_of}
use Rattle.wit_link_spec.specs.Cause.{IsAdditionCause, gate_unreleased_10, gate_without_version_9}
use Rattle.wit_link_spec.specs.Gates.{IsAsked, OptionalSpan, asked_gates, foreign_gates, interface_gates, is_active, of_entry, of_function, of_include, of_interface, of_type, of_world, world_gates}
use Rattle.wit_link_spec.specs.steps.Passed.{GatesAreMet}
use Rattle.wit_link_lookup.specs.steps.FeatureSteps.{Asks, HasReached, IsAt, IsCheckerReady, IsMet, IsThere, MayRefuse, MeetsForeign, MeetsFunctions, MeetsItem, MeetsParts, seen}
use Rattle.wit_link_lookup.specs.declared.checker.Checker.{Checker}
use Rattle.wit_link_lookup.proofs.AskedGates.{take_member}
use Rattle.wit_link_lookup.proofs.ForeignGates.{named_ids, named_ids-items, note_from, notes_alone}
use Rattle.wit_data.specs.steps.Parts.{IsNameOnlyInterface, IsNameOnlyWorld}
use Rattle.wit_link_spec.specs.steps.Parts.{gate_without_version_text, gate_unreleased_text, foreign_items}

-- ---- refusals

less-from : (o : Ordering) → is_lt o ≡ true → o ≡ Less
less-from Less is = refl
less-from Equal is = cc
less-from Greater is = cc

-- the package has no version
pub told-lacking : (checker : Checker) (since : Parts) (deprecated : Option Parts) (place : OptionalSpan) (kind : ResolveErrorKind) → Asks checker (Stable since deprecated) place
    → checker.addition.unresolved.now.name.version ≡ None
    → kind ≡ Semantic (moved_by checker.addition.offset place) (gate_without_version_text checker.addition.unresolved.now.name) cause.GateWithoutVersion → MayRefuse checker kind
told-lacking checker since deprecated place kind asked none is =
    inr (subst (IsAdditionCause (seen checker)) (sym is) (gate_without_version_9 (moved_by checker.addition.offset place) (gate_without_version_text checker.addition.unresolved.now.name) (record {
      since = since;
      deprecated = deprecated;
      place = place;
      asked = asked;
      no_version = none;
      span_is = refl;
      message_is = refl;
    })))

-- its version is below another
pub told-unreleased : (checker : Checker) (since : Parts) (deprecated : Option Parts) (version : Parts) (place : OptionalSpan) (kind : ResolveErrorKind) → Asks checker (Stable since deprecated) place
    → checker.addition.unresolved.now.name.version ≡ Some version → is_lt (version_cmp version since) ≡ true
    → kind ≡ Semantic (moved_by checker.addition.offset place) (gate_unreleased_text since checker.addition.unresolved.now.name version) cause.GateUnreleased → MayRefuse checker kind
told-unreleased checker since deprecated version place kind asked some below is =
    inr (subst (IsAdditionCause (seen checker)) (sym is) (gate_unreleased_10 (moved_by checker.addition.offset place) (gate_unreleased_text since checker.addition.unresolved.now.name version) (record {
      since = since;
      deprecated = deprecated;
      version = version;
      place = place;
      asked = asked;
      has_version = some;
      below = less-from (version_cmp version since) below;
      span_is = refl;
      message_is = refl;
    })))

-- ---- notes of foreign things

-- what an item names is named
is-named : (id : AstItem → List ℕ) (deps : ForeignItems) (item : ForeignItem) (i : ℕ) → Contains (foreign_items deps) item → Contains (id item.1.0) i → Contains (named_ids id deps) i
is-named id deps item i among names =
    subst (λ (l : List ℕ). Contains l i) (sym (named_ids-items id deps)) (Contains-flat_map (λ (n : ForeignItem). id n.1.0) (foreign_items deps) item i among names)

-- the gates of a foreign thing are those of its item
notes_named : (id : AstItem → List ℕ) (deps : ForeignItems) (count : ℕ) (item : ForeignItem) (i : ℕ) (own : List Stability) → AreFirst (named_ids id deps) count
    → Contains (foreign_items deps) item → Contains (id item.1.0) i → (if nat_lt i (length (named_ids id deps)) then foreign_gates id deps i else own) ≡ item.1.1
notes_named id deps count item i own are_first among names =
    let place = place_of (named_ids id deps) i (is-named id deps item i among names) in
    ap (λ (b : Bool). if b then foreign_gates id deps i else own) (lt-ltb i (length (named_ids id deps)) (are_first.first place.0 i place.1))
    ∙ notes_alone id deps item i are_first.once among names

-- those that are asked of an item are asked, there
asks-item : (checker : Checker) → IsCheckerReady checker → (name : List ℕ) (item : AstItem) (notes : List Stability) (place : OptionalSpan)
    → Contains (foreign_items checker.addition.unresolved.now.foreign_deps) (name, (item, notes)) → IsAt checker item place
    → Each (λ note. Asks checker note place) (asked_gates checker.addition.features.now notes)
asks-item checker ready name (named.Interface id) notes place among is_at k note at =
    let features = checker.addition.features.now in
    let u = checker.addition.unresolved.now in
    let found = found_at (λ (x : Interface). place ≡ x.span) u.interfaces id is_at in
    let whole : interface_gates u id ≡ notes =
    notes_named interface_id u.foreign_deps (length u.interfaces) (name, (named.Interface id, notes)) id (option_map_or (λ (x : Interface). x.stability ∷ []) (slice_get u.interfaces id) [])
    ready.shaped.foreign.interfaces among (Contains-here id []) in
    subst (IsAsked features u note) (sym found.2)
    (of_interface id found.0 note found.1 (subst (λ (l : List Stability). Contains (asked_gates features l) note) (sym whole) (contained_at (asked_gates features notes) k note at)))
asks-item checker ready name (named.World id) notes place among is_at k note at =
    let features = checker.addition.features.now in
    let u = checker.addition.unresolved.now in
    let found = found_at (λ (x : World). place ≡ x.span) u.worlds id is_at in
    let whole : world_gates u id ≡ notes =
    notes_named world_id u.foreign_deps (length u.worlds) (name, (named.World id, notes)) id (option_map_or (λ (x : World). x.stability ∷ []) (slice_get u.worlds id) [])
    ready.shaped.foreign.worlds among (Contains-here id []) in
    subst (IsAsked features u note) (sym found.2)
    (of_world id found.0 note found.1 (subst (λ (l : List Stability). Contains (asked_gates features l) note) (sym whole) (contained_at (asked_gates features notes) k note at)))

pub asks-foreign : (checker : Checker) → IsCheckerReady checker → (item : ForeignItem) (place : OptionalSpan) → Contains (foreign_items checker.addition.unresolved.now.foreign_deps) item
    → IsAt checker item.1.0 place → Each (λ note. Asks checker note place) (asked_gates checker.addition.features.now item.1.1)
asks-foreign checker ready item place among is_at = asks-item checker ready item.0 item.1.0 item.1.1 place among is_at

-- a foreign item is there
is-there : (checker : Checker) (name : List ℕ) (item : AstItem) → IsNameOnly checker.addition.unresolved.now.interfaces checker.addition.unresolved.now.worlds name item → IsThere checker item
is-there checker name (named.Interface id) bare =
    let found = found_at (IsNameOnlyInterface name) checker.addition.unresolved.now.interfaces id bare in
    slice_get_within checker.addition.unresolved.now.interfaces id found.0 found.1
is-there checker name (named.World id) bare =
    let found = found_at (IsNameOnlyWorld name) checker.addition.unresolved.now.worlds id bare in
    slice_get_within checker.addition.unresolved.now.worlds id found.0 found.1

pub foreign-there : (checker : Checker) → IsCheckerReady checker → (item : ForeignItem) → Contains (foreign_items checker.addition.unresolved.now.foreign_deps) item → IsThere checker item.1.0
foreign-there checker ready item among =
    let deps = checker.addition.unresolved.now.foreign_deps in
    let from = Contains-flat_map_cases (λ (e : PackageName × List ForeignItem). e.1) deps item among in
    let outer = place_of deps from.0 from.1.0 in
    let inner = place_of from.0.1 item from.1.1 in
    is-there checker item.0 item.1.0 (ready.shaped.foreign.bare outer.0 from.0 outer.1 inner.0 item inner.1).0

-- the items of a package that is named are among all
pub items-named : (deps : ForeignItems) (k : ℕ) (e : PackageName × List ForeignItem) → slice_get deps k ≡ Some e → Each (Contains (foreign_items deps)) e.1
items-named deps k e at i item there =
    Contains-flat_map (λ (d : PackageName × List ForeignItem). d.1) deps e item (contained_at deps k e at) (contained_at e.1 i item there)

-- ---- all gates of a thing

only : (features : Features) (own note : Stability) → Contains (asked_gates features (own ∷ [])) note → own ≡ note
only features own note has =
    elim (Contains-cons_cases own note [] (take_member (suc (position_or_len (is_active features) (own ∷ []))) (own ∷ []) note has)) [
      | inl same ↦ same
      | inr other ↦ absurd (Contains-nil other)
    ]

-- what holds of the gates that are asked of foreign items, and of own gates, holds of all that are asked
asked-notes : {X : Type 0} (P : Stability → Type 0) (features : Features) (stability : X → Stability) (id : AstItem → List ℕ) (deps : ForeignItems) (things : List X) (i : ℕ) (x : X) (note : Stability)
    → IsDistinct nat_eq (named_ids id deps) → Each (λ (item : ForeignItem). Each P (asked_gates features item.1.1)) (foreign_items deps)
    → (length (named_ids id deps) ≤ i → P (stability x)) → slice_get things i ≡ Some x
    → Contains (asked_gates features (if nat_lt i (length (named_ids id deps)) then foreign_gates id deps i else option_map_or (λ (y : X). stability y ∷ []) (slice_get things i) [])) note
    → P note
asked-notes {X} P features stability id deps things i x note distinct foreign own at has =
    let n = length (named_ids id deps) in
    let notes = λ (b : Bool). if b then foreign_gates id deps i else option_map_or (λ (y : X). stability y ∷ []) (slice_get things i) [] in
    elim (cases_lt i n) [
      | inl early ↦
          let there : Contains (asked_gates features (foreign_gates id deps i)) note = subst (λ (b : Bool). Contains (asked_gates features (notes b)) note) (lt-ltb i n early) has in
          let from = note_from id deps i note (take_member (suc (position_or_len (is_active features) (foreign_gates id deps i))) (foreign_gates id deps i) note there) in
          let among : Contains (asked_gates features from.0.1.1) note = subst (λ (l : List Stability). Contains (asked_gates features l) note) (notes_alone id deps from.0 i distinct from.1 from.2) there in
          let outer = place_of (foreign_items deps) from.0 from.1 in
          let inner = place_of (asked_gates features from.0.1.1) note among in
          foreign outer.0 from.0 outer.1 inner.0 note inner.1
      | inr late ↦
          let there : Contains (asked_gates features (option_map_or (λ (y : X). stability y ∷ []) (slice_get things i) [])) note = subst (λ (b : Bool). Contains (asked_gates features (notes b)) note) (le-ltb i n late) has in
          let alone : Contains (asked_gates features (stability x ∷ [])) note = subst (λ (o : Option X). Contains (asked_gates features (option_map_or (λ (y : X). stability y ∷ []) o [])) note) at there in
          subst P (only features (stability x) note alone) (own late)
    ]

-- an own thing's note is asked
own-asked : {X : Type 0} (features : Features) (stability : X → Stability) (id : AstItem → List ℕ) (deps : ForeignItems) (things : List X) (i : ℕ) (x : X) → slice_get things i ≡ Some x → length (named_ids id deps) ≤ i
    → Contains (asked_gates features (if nat_lt i (length (named_ids id deps)) then foreign_gates id deps i else option_map_or (λ (y : X). stability y ∷ []) (slice_get things i) [])) (stability x)
own-asked {X} features stability id deps things i x at own =
    let notes : (if nat_lt i (length (named_ids id deps)) then foreign_gates id deps i else option_map_or (λ (y : X). stability y ∷ []) (slice_get things i) []) ≡ stability x ∷ [] =
    ap (λ (b : Bool). if b then foreign_gates id deps i else option_map_or (λ (y : X). stability y ∷ []) (slice_get things i) []) (le-ltb i (length (named_ids id deps)) own)
    ∙ ap (λ (o : Option X). option_map_or (λ (y : X). stability y ∷ []) o []) at in
    subst (λ (l : List Stability). Contains (asked_gates features l) (stability x)) (sym notes) (Contains-here (stability x) (take (position_or_len (is_active features) (stability x ∷ [])) []))

pub own-interface-asked : (checker : Checker) (i : ℕ) (interface : Interface) → slice_get checker.addition.unresolved.now.interfaces i ≡ Some interface
    → length (foreign_interfaces checker.addition.unresolved.now.foreign_deps) ≤ i → Asks checker interface.stability interface.span
own-interface-asked checker i interface at own =
    let u = checker.addition.unresolved.now in
    of_interface i interface interface.stability at (own-asked checker.addition.features.now (λ (x : Interface). x.stability) interface_id u.foreign_deps u.interfaces i interface at own)

pub own-world-asked : (checker : Checker) (w : ℕ) (world : World) → slice_get checker.addition.unresolved.now.worlds w ≡ Some world
    → length (foreign_worlds checker.addition.unresolved.now.foreign_deps) ≤ w → Asks checker world.stability world.span
own-world-asked checker w world at own =
    let u = checker.addition.unresolved.now in
    of_world w world world.stability at (own-asked checker.addition.features.now (λ (x : World). x.stability) world_id u.foreign_deps u.worlds w world at own)

-- ---- all gates of a package

-- what the steps have seen
pub record AreMet (checker : Checker) : Type 0 where
  pub types : Each (λ (def : TypeDef). IsMet checker def.stability) checker.addition.unresolved.now.types
  pub foreign : Each (MeetsForeign checker) (foreign_items checker.addition.unresolved.now.foreign_deps)
  pub interfaces : EachAt (λ i (interface : Interface). length (foreign_interfaces checker.addition.unresolved.now.foreign_deps) ≤ i → IsMet checker interface.stability) checker.addition.unresolved.now.interfaces
  pub worlds : EachAt (λ w (world : World). length (foreign_worlds checker.addition.unresolved.now.foreign_deps) ≤ w → IsMet checker world.stability) checker.addition.unresolved.now.worlds
  pub functions : EachAt (MeetsFunctions checker) checker.addition.unresolved.now.interfaces
  pub parts : EachAt (MeetsParts checker) checker.addition.unresolved.now.worlds

entry-met : (checker : Checker) (entries : List Entry) (e : Entry) → Each (λ (d : Entry). MeetsItem checker d.1) entries → Contains entries e → MeetsItem checker e.1
entry-met checker entries e each has = let place = place_of entries e has in each place.0 e place.1

all-met : (checker : Checker) → IsCheckerReady checker → AreMet checker → (note : Stability) (place : OptionalSpan) → Asks checker note place → IsMet checker note
all-met checker ready met note place (of_type t def at) = met.types t def at
all-met checker ready met note place (of_interface i interface note' at has) =
    let u = checker.addition.unresolved.now in
    asked-notes (IsMet checker) checker.addition.features.now (λ (x : Interface). x.stability) interface_id u.foreign_deps u.interfaces i interface note' ready.shaped.foreign.interfaces.once met.foreign
    (met.interfaces i interface at) at has
all-met checker ready met note place (of_world w world note' at has) =
    let u = checker.addition.unresolved.now in
    asked-notes (IsMet checker) checker.addition.features.now (λ (x : World). x.stability) world_id u.foreign_deps u.worlds w world note' ready.shaped.foreign.worlds.once met.foreign
    (met.worlds w world at) at has
all-met checker ready met note place (of_function i interface name f at active has) =
    let there = place_of interface.functions (name, f) has in
    met.functions i interface at active there.0 (name, f) there.1
all-met checker ready met note place (of_entry w world e note' place' at active has noted) =
    let parts = met.parts w world at active in
    elim has [
      | inl imports ↦ entry-met checker world.imports e parts.imports imports note' place' noted
      | inr exports ↦ entry-met checker world.exports e parts.exports exports note' place' noted
    ]
all-met checker ready met note place (of_include w world i at active has) =
    let parts = met.parts w world at active in
    let there = place_of world.includes i has in
    parts.includes there.0 i there.1

pub gates-met : (checker : Checker) → IsCheckerReady checker → AreMet checker → GatesAreMet (seen checker)
gates-met checker ready met = record {
  version = λ span message lacks.
      let reached : HasReached checker.addition.unresolved.now.name.version lacks.since = all-met checker ready met (Stable lacks.since lacks.deprecated) lacks.place lacks.asked in
      subst (λ (v : Option Parts). HasReached v lacks.since) lacks.no_version reached;
  released = λ span message below.
      let reached : HasReached checker.addition.unresolved.now.name.version below.since = all-met checker ready met (Stable below.since below.deprecated) below.place below.asked in
      subst (λ (v : Option Parts). HasReached v below.since) below.has_version reached below.below;
}
