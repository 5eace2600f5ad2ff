-- The flags of what is active.
use Rattle.std.proofs.Common.{◌≡◌, ◌∙◌, ◌<◌, ◌≤◌, ◌||◌, ◌&&◌, ℕ, zero, suc, ◌+◌, Bool, true, false, not, if◌then◌else◌, List, [], ◌∷◌, ◌++◌, inl, inr, length, map, take, Option, None, Some, eqb, nat_eq, slice_get, slice_set, refl, sym, ap, subst, arith, Contains}
use Rattle.std.specs.Prelude.{nat_lt, unwrap_or, flat_map}
use Rattle.std.proofs.lemmas.Bool.{cases_lt, eqb-false, eqb-true, le-ltb, lt-ltb, ltb-false}
use Rattle.std.proofs.lemmas.List.{length-set}
use Rattle.std.proofs.lemmas.List.Folds.{list_any-append}
use Rattle.std.proofs.lemmas.List.FromFn.{fill_by_all, length-map-range_with_len}
use Rattle.std.proofs.lemmas.Option.{get_or_from_slice_get, slice_get_within}
use Rattle.std.specs.List.{list_any, range_with_len}
use Rattle.std.specs.Option.{option_map_or}
use Rattle.wit_values.specs.facts.Lists.{slice_get-set, take-next_at}
use Rattle.wit_data.specs.Each.{Each}
use Rattle.wit_data.specs.facts.EachFacts.{flat_map-next}
use Rattle.wit_data.specs.Foreign.{ForeignItem, ForeignItems, IsNameOnly, interface_id, world_id}
use Rattle.wit_data.specs.Shape.{IsShaped}
use Rattle.wit_data.specs.declared.unresolved.AstItem.{AstItem}
use Rattle.wit_data.specs.declared.interface.Interface.{Interface}
use Rattle.wit_names.specs.declared.package_name.PackageName.{PackageName}
use Rattle.wit_data.specs.declared.stability.Stability.{Stability}
use Rattle.wit_data.specs.declared.unresolved.UnresolvedPackage.{UnresolvedPackage}
use Rattle.wit_data.specs.declared.world.World.{World}
use Rattle.wit_data.specs.declared.unresolved.AstItem.TheVariants as named
use Rattle.wit_graph_data.specs.declared.features.Features.{Features}
use Rattle.wit_graph_theory.specs.facts.ListFacts.{found_at, place_of}
use Rattle.wit_link_spec.specs.Gates.{foreign_gates, interface_is_active, is_active, is_foreign_interface, is_foreign_world, type_is_active, world_is_active}
use Rattle.wit_link_spec.specs.facts.RangeFacts.{range-at, range-past}
use Rattle.wit_link_spec.specs.declared.addition.Activity.{Activity}
use Rattle.wit_link_lookup.specs.steps.FeatureSteps.{AreNamedFlags, HasFlag, IsMarked, is_marked, own_activity, own_interface_flag, own_world_flag, with_item}
use Rattle.wit_link_lookup.proofs.ForeignGates.{named_ids, notes_none}
use Rattle.wit_data.specs.steps.Parts.{IsNameOnlyInterface, IsNameOnlyWorld}
use Rattle.wit_link_spec.specs.steps.Parts.{some_active, foreign_items}

-- ---- flags by their places

-- the flag of a thing that the package has, and none past the last one
pub flag_is : (f : ℕ → Bool) (n i : ℕ) → (n ≤ i → f i ≡ false) → unwrap_or (slice_get (map f (range_with_len 0 n)) i) false ≡ f i
flag_is f n i past = elim (cases_lt i n) [
  | inl within ↦ ap (λ (o : Option Bool). unwrap_or o false) (range-at f n i within)
  | inr beyond ↦ ap (λ (o : Option Bool). unwrap_or o false) (range-past f n i beyond) ∙ sym (past beyond)
]

-- ---- marks

or-assoc : (a b c : Bool) → ((a || b) || c) ≡ (a || (b || c))
or-assoc true b c = refl
or-assoc false b c = refl

or-false : (a : Bool) → (a || false) ≡ a
or-false true = refl
or-false false = refl

module _ (features : Features) (id : AstItem → List ℕ) where
  are-joined : (xs ys : List ForeignItem) (old mid new : List Bool) → AreNamedFlags features id xs old mid → AreNamedFlags features id ys mid new → AreNamedFlags features id (xs ++ ys) old new
  are-joined xs ys old mid new first second = (
    second.0 ∙ first.0,
    λ i flag at.
        let p = is_marked features id i in
        second.1 i (flag || list_any p xs) (first.1 i flag at) ∙ ap Some (or-assoc flag (list_any p xs) (list_any p ys) ∙ ap (λ (b : Bool). flag || b) (sym (list_any-append p xs ys))),
  )

pub is-joined : (features : Features) (xs ys : List ForeignItem) (old mid new : Activity) → IsMarked features xs old mid → IsMarked features ys mid new → IsMarked features (xs ++ ys) old new
is-joined features xs ys old mid new first second = record {
  types = second.types ∙ first.types;
  interfaces = are-joined features interface_id xs ys old.interfaces mid.interfaces new.interfaces first.interfaces second.interfaces;
  worlds = are-joined features world_id xs ys old.worlds mid.worlds new.worlds first.worlds second.worlds;
}

-- ---- one item

set_other : {X : Type 0} (xs : List X) (k i : ℕ) (y : X) → (i ≡ k → ⊥) → slice_get (slice_set xs k y) i ≡ slice_get xs i
set_other [] k i y apart = refl
set_other (x ∷ xs) zero zero y apart = absurd (apart refl)
set_other (x ∷ xs) zero (suc i) y apart = refl
set_other (x ∷ xs) (suc k) zero y apart = refl
set_other (x ∷ xs) (suc k) (suc i) y apart = set_other xs k i y (λ same. apart (ap suc same))

or-true : (a : Bool) → (a || true) ≡ true
or-true true = refl
or-true false = refl

-- a flag that is set
set-marks : (old : List Bool) (k i : ℕ) (flag on : Bool) → slice_get old i ≡ Some flag → on ≡ true
    → slice_get (slice_set old k true) i ≡ Some (flag || (((eqb i k || false) && on) || false))
set-marks old k i flag on at is_on = by (eqb i k) refl
  where
    by : (b : Bool) → eqb i k ≡ b → slice_get (slice_set old k true) i ≡ Some (flag || (((b || false) && on) || false))
    by true is =
        let same : i ≡ k = eqb-true i k is in
        let there : slice_get old k ≡ Some flag = subst (λ (j : ℕ). slice_get old j ≡ Some flag) same at in
        let set : slice_get (slice_set old k true) i ≡ Some true = subst (λ (j : ℕ). slice_get (slice_set old k true) j ≡ Some true) (sym same) (slice_get-set old k flag true there) in
        set ∙ ap Some (sym (ap (λ (s : Bool). flag || (s || false)) is_on ∙ or-true flag))
    by false is =
        set_other old k i true (eqb-false i k is) ∙ (at ∙ ap Some (sym (or-false flag)))

-- an item that is left out
and-false : (a b : Bool) → b ≡ false → (a && b) ≡ false
and-false true b off = off
and-false false b off = refl

skips : (features : Features) (id : AstItem → List ℕ) (item : ForeignItem) (flags : List Bool) → some_active features item.1.1 ≡ false → AreNamedFlags features id (item ∷ []) flags flags
skips features id item flags off = (
  refl,
  λ i flag at. at ∙ ap Some (sym (ap (λ (b : Bool). flag || (b || false)) (and-false (list_any (nat_eq i) (id item.1.0)) (some_active features item.1.1) off) ∙ or-false flag)),
)

pub is-skipped : (features : Features) (item : ForeignItem) (activity : Activity) → some_active features item.1.1 ≡ false → IsMarked features (item ∷ []) activity activity
is-skipped features item activity off = record {
  types = refl;
  interfaces = skips features interface_id item activity.interfaces off;
  worlds = skips features world_id item activity.worlds off;
}

pub is-added : (features : Features) (name : List ℕ) (item : AstItem) (notes : List Stability) (activity : Activity) → some_active features notes ≡ true
    → IsMarked features ((name, (item, notes)) ∷ []) activity (with_item activity item)
is-added features name (named.Interface id) notes activity on = record {
  types = refl;
  interfaces = (length-set activity.interfaces id true, λ i flag at. set-marks activity.interfaces id i flag (some_active features notes) at on);
  worlds = (refl, λ i flag at. at ∙ ap Some (sym (or-false flag)));
}
is-added features name (named.World id) notes activity on = record {
  types = refl;
  interfaces = (refl, λ i flag at. at ∙ ap Some (sym (or-false flag)));
  worlds = (length-set activity.worlds id true, λ i flag at. set-marks activity.worlds id i flag (some_active features notes) at on);
}

-- ---- the steps of the loops

-- one item more
pub items-next : (features : Features) (items : List ForeignItem) (n : ℕ) (item : ForeignItem) (old mid new : Activity) → slice_get items n ≡ Some item
    → IsMarked features (take n items) old mid → IsMarked features (item ∷ []) mid new → IsMarked features (take (n + 1) items) old new
items-next features items n item old mid new at so_far one =
    subst (λ (l : List ForeignItem). IsMarked features l old new) (sym (take-next_at items n item at)) (is-joined features (take n items) (item ∷ []) old mid new so_far one)

-- one package more
pub packages-next : (features : Features) (deps : ForeignItems) (n : ℕ) (e : PackageName × List ForeignItem) (old mid new : Activity) → slice_get deps n ≡ Some e
    → IsMarked features (foreign_items (take n deps)) old mid → IsMarked features e.1 mid new → IsMarked features (foreign_items (take (n + 1) deps)) old new
packages-next features deps n e old mid new at so_far one =
    subst (λ (l : List ForeignItem). IsMarked features l old new) (sym (flat_map-next (λ (d : PackageName × List ForeignItem). d.1) deps n e at))
    (is-joined features (foreign_items (take n deps)) e.1 old mid new so_far one)

-- there are flags for what there were flags for
pub flag-stays : (features : Features) (items : List ForeignItem) (old new : Activity) (item : AstItem) → IsMarked features items old new → HasFlag old item → HasFlag new item
flag-stays features items old new (named.Interface id) marked has = let long = marked.interfaces.0 in omega arith
flag-stays features items old new (named.World id) marked has = let long = marked.worlds.0 in omega arith

-- ---- all of them

any-flat_map : {X Y : Type 0} (p : Y → Bool) (t : X → Bool) (g : X → List Y) (xs : List X)
    → list_any p (flat_map (λ x. if t x then g x else []) xs) ≡ list_any (λ x. t x && list_any p (g x)) xs
any-flat_map p t g [] = refl
any-flat_map {X} {Y} p t g (x ∷ xs) =
    list_any-append p (if t x then g x else []) (flat_map (λ y. if t y then g y else []) xs) ∙ by (t x) (any-flat_map p t g xs)
  where
    by : (b : Bool) → list_any p (flat_map (λ y. if t y then g y else []) xs) ≡ list_any (λ y. t y && list_any p (g y)) xs
        → (list_any p (if b then g x else []) || list_any p (flat_map (λ y. if t y then g y else []) xs)) ≡ ((b && list_any p (g x)) || list_any (λ y. t y && list_any p (g y)) xs)
    by true rest = ap (λ (r : Bool). list_any p (g x) || r) rest
    by false rest = rest

marked-named : (features : Features) (id : AstItem → List ℕ) (deps : ForeignItems) (i : ℕ)
    → list_any (is_marked features id i) (foreign_items deps) ≡ some_active features (foreign_gates id deps i)
marked-named features id deps i =
    sym (any-flat_map (is_active features) (λ (item : ForeignItem). list_any (nat_eq i) (id item.1.0)) (λ (item : ForeignItem). item.1.1) (foreign_items deps))

unmarked : (features : Features) (id : AstItem → List ℕ) (deps : ForeignItems) (i : ℕ) → (Contains (named_ids id deps) i → ⊥)
    → list_any (is_marked features id i) (foreign_items deps) ≡ false
unmarked features id deps i none = marked-named features id deps i ∙ ap (some_active features) (notes_none id deps i none)

-- own flags and marks together are what is active
matches : {X : Type 0} (stability : X → Stability) (features : Features) (id : AstItem → List ℕ) (deps : ForeignItems) (things : List X) (i : ℕ) (b : Bool)
    → nat_lt i (length (named_ids id deps)) ≡ b → Each (λ k. k < length (named_ids id deps)) (named_ids id deps)
    → ((not b && option_map_or (λ (x : X). is_active features (stability x)) (slice_get things i) false) || list_any (is_marked features id i) (foreign_items deps))
    ≡ some_active features (if b then foreign_gates id deps i else option_map_or (λ (x : X). stability x ∷ []) (slice_get things i) [])
matches stability features id deps things i true is first = marked-named features id deps i
matches {X} stability features id deps things i false is first =
    let beyond : length (named_ids id deps) ≤ i = ltb-false i (length (named_ids id deps)) is in
    let none : list_any (is_marked features id i) (foreign_items deps) ≡ false = unmarked features id deps i (λ has.
    let place = place_of (named_ids id deps) i has in
    let below : i < length (named_ids id deps) = first place.0 i place.1 in
    absurd (omega arith)) in
    ap (λ (m : Bool). option_map_or (λ (x : X). is_active features (stability x)) (slice_get things i) false || m) none ∙ own (slice_get things i)
  where
    own : (o : Option X) → (option_map_or (λ (x : X). is_active features (stability x)) o false || false) ≡ some_active features (option_map_or (λ (x : X). stability x ∷ []) o [])
    own None = refl
    own (Some x) = refl

-- marked flags are all flags
all-flags : (features : Features) (id : AstItem → List ℕ) (deps : ForeignItems) (own whole : ℕ → Bool) (n : ℕ) (old new : List Bool)
    → ((i : ℕ) → (own i || list_any (is_marked features id i) (foreign_items deps)) ≡ whole i) → old ≡ map own (range_with_len 0 n)
    → AreNamedFlags features id (foreign_items deps) old new → new ≡ map whole (range_with_len 0 n)
all-flags features id deps own whole n old new match is marked =
    let long : length old ≡ n = ap length is ∙ length-map-range_with_len own 0 n in
    let longer = marked.0 in
    fill_by_all whole new n false (omega arith) (λ i within.
    let at : slice_get old i ≡ Some (own i) = ap (λ (l : List Bool). slice_get l i) is ∙ range-at own n i within in
    get_or_from_slice_get new i (whole i) false (marked.1 i (own i) at ∙ ap Some (match i)))

pub activity-is : (features : Features) (u : UnresolvedPackage) (old new : Activity) → IsShaped u → old ≡ own_activity features u → IsMarked features (foreign_items u.foreign_deps) old new
    → new ≡ record {
      types = map (type_is_active features u.types) (range_with_len 0 (length u.types));
      interfaces = map (interface_is_active features u) (range_with_len 0 (length u.interfaces));
      worlds = map (world_is_active features u) (range_with_len 0 (length u.worlds));
    }
activity-is features u old new shaped is marked =
    let types = marked.types ∙ ap (λ (a : Activity). a.types) is in
    let interfaces = all-flags features interface_id u.foreign_deps (own_interface_flag features u) (interface_is_active features u) (length u.interfaces) old.interfaces new.interfaces
    (λ i. matches (λ (interface : Interface). interface.stability) features interface_id u.foreign_deps u.interfaces i (is_foreign_interface u i) refl shaped.foreign.interfaces.first)
    (ap (λ (a : Activity). a.interfaces) is) marked.interfaces in
    let worlds = all-flags features world_id u.foreign_deps (own_world_flag features u) (world_is_active features u) (length u.worlds) old.worlds new.worlds
    (λ w. matches (λ (world : World). world.stability) features world_id u.foreign_deps u.worlds w (is_foreign_world u w) refl shaped.foreign.worlds.first)
    (ap (λ (a : Activity). a.worlds) is) marked.worlds in
    λ i. record { types = types i; interfaces = interfaces i; worlds = worlds i }

-- ---- what flags there are

-- an own thing has its flag, and a foreign one has none
pub own-flag-in : {X : Type 0} (stability : X → Stability) (features : Features) (things : List X) (i n : ℕ) (x : X) → slice_get things i ≡ Some x → n ≤ i
    → (not (nat_lt i n) && option_map_or (λ (y : X). is_active features (stability y)) (slice_get things i) false) ≡ is_active features (stability x)
own-flag-in {X} stability features things i n x at own =
    ap (λ (b : Bool). not b && option_map_or (λ (y : X). is_active features (stability y)) (slice_get things i) false) (le-ltb i n own)
    ∙ ap (λ (o : Option X). option_map_or (λ (y : X). is_active features (stability y)) o false) at

pub own-flag-out : {X : Type 0} (stability : X → Stability) (features : Features) (things : List X) (i n : ℕ) → i < n
    → (not (nat_lt i n) && option_map_or (λ (y : X). is_active features (stability y)) (slice_get things i) false) ≡ false
own-flag-out {X} stability features things i n foreign =
    ap (λ (b : Bool). not b && option_map_or (λ (y : X). is_active features (stability y)) (slice_get things i) false) (lt-ltb i n foreign)

-- what is there has a flag
pub flagged : (features : Features) (u : UnresolvedPackage) (activity : Activity) (name : List ℕ) (item : AstItem) → activity ≡ own_activity features u
    → IsNameOnly u.interfaces u.worlds name item → HasFlag activity item
flagged features u activity name (named.Interface id) is bare =
    let found = found_at (IsNameOnlyInterface name) u.interfaces id bare in
    let within : id < length u.interfaces = slice_get_within u.interfaces id found.0 found.1 in
    let long : length activity.interfaces ≡ length u.interfaces = ap (λ (a : Activity). length a.interfaces) is ∙ length-map-range_with_len (own_interface_flag features u) 0 (length u.interfaces) in
    omega arith
flagged features u activity name (named.World id) is bare =
    let found = found_at (IsNameOnlyWorld name) u.worlds id bare in
    let within : id < length u.worlds = slice_get_within u.worlds id found.0 found.1 in
    let long : length activity.worlds ≡ length u.worlds = ap (λ (a : Activity). length a.worlds) is ∙ length-map-range_with_len (own_world_flag features u) 0 (length u.worlds) in
    omega arith
