-- What holds of a package while lines are added to it, and what each thing that a line adds leaves of it.
use Rattle.std.proofs.Common.{◌≡◌, ◌∙◌, ℕ, ◌<◌, ◌≤◌, ◌==◌, ◌-◌, ◌++◌, zero, suc, Bool, true, false, cond, List, [], ◌∷◌, length, drop, Option, Some, None, IsSomeAnd, slice_get, slice_set, length-append, length-set, refl, sym, ap, subst, arith, Contains, bytes_eq, flat_map, option_to_list}
use Rattle.std.proofs.lemmas.List.{map-append}
use Rattle.std.proofs.lemmas.List.Concat.{flat_map_single}
use Rattle.std.specs.Cmp.Lexicographic.{nat_list_eq_equiv}
use Rattle.std.specs.List.{AllByRecursion, IsDistinct}
use Rattle.std.specs.Map.{keys_of, lookup}
use Rattle.std.specs.Prelude.{nat_eq}
use Rattle.wit_values.specs.Table.{HasDistinctKeys}
use Rattle.wit_digraph.specs.facts.MemberFacts.{Contains-flat_map, Contains-here}
use Rattle.wit_data.specs.Each.{Each, SomeAt}
use Rattle.wit_data.specs.Entries.{IsExport, IsImport, ItemUsesOwn}
use Rattle.wit_data.specs.Foreign.{ForeignItem, ForeignItems, IsForeign, IsNameOnly, foreign_interfaces, foreign_worlds, interface_id, world_id}
use Rattle.wit_data.specs.Ownership.{UsesOwn}
use Rattle.wit_data.specs.Shape.{interface_names, world_names}
use Rattle.wit_data.specs.declared.unresolved.AstItem.{AstItem}
use Rattle.wit_data.specs.declared.function.Function.{Function}
use Rattle.wit_data.specs.declared.interface.Interface.{Interface}
use Rattle.wit_names.specs.PackageName.{HasValidVersion}
use Rattle.wit_names.specs.declared.package_name.PackageName.{PackageName}
use Rattle.wit_data.specs.declared.types.TypeDef.{TypeDef}
use Rattle.wit_data.specs.declared.types.TypeDefKind.{TypeDefKind}
use Rattle.wit_data.specs.declared.types.TypeOwner.{TypeOwner}
use Rattle.wit_data.specs.declared.world.World.{World}
use Rattle.wit_data.specs.declared.world.WorldInclude.{WorldInclude}
use Rattle.wit_data.specs.declared.world.WorldItem.{WorldItem}
use Rattle.wit_data.specs.declared.world.WorldKey.{WorldKey}
use Rattle.wit_data.specs.declared.types.TypeDefKind.TheVariants as kind
use Rattle.wit_data.specs.declared.types.TypeOwner.TheVariants as owner
use Rattle.wit_data.specs.declared.unresolved.AstItem.TheVariants as item
use Rattle.wit_data.specs.declared.world.WorldItem.TheVariants as entry
use Rattle.wit_data.specs.declared.world.WorldKey.TheVariants as key
use Rattle.wit_script_package.specs.Adding.{empty_interface, empty_world, type_with, with_export, with_function, with_import, with_import_at, with_include, with_interface, with_interface_type, with_named_in, with_type, with_world, with_world_type}
use Rattle.wit_script_package.specs.Naming.{OptionalSpan, last_place, open_interface, open_interface_index, open_world, open_world_index, same_key}
use Rattle.wit_script_package.specs.declared.draft.Draft.{Draft}
use Rattle.wit_script_package.specs.declared.draft.Foreign.{Foreign}
use Rattle.wit_script_package.specs.declared.draft.LineContext.{LineContext}
use Rattle.wit_script_package.specs.declared.draft.Scope.{Scope}
use Rattle.wit_script_package.specs.declared.draft.Scope.TheVariants as scope
use Rattle.wit_script_package.proofs.Added.{IsNamedKind, good-begun, good-called, good-exported, good-imported, good-included, good-opened, good-owned, good-world_owned, grows-begun, grows-called, grows-exported, grows-imported, grows-included, grows-opened, grows-owned, grows-world_owned}
use Rattle.wit_script_package.proofs.Parts.{with_export_in, with_function_in, with_import_in, with_type_name_in}
use Rattle.wit_script_package.proofs.Places.{Each-contains, EachAt-push, contained_at, new-is, told-push, told-set}
use Rattle.wit_script_package.proofs.Things.{AreGood, Grows, Things, good-earlier, type-stays}
use Rattle.wit_script_lines.specs.facts.OptionFacts.{map-of, same-some, step-of}
use Rattle.wit_data.specs.steps.Parts.{IsNameOnlyInterface, IsNameOnlyWorld}
use Rattle.wit_script_package.specs.steps.Parts.{with_export_at, with_function_at, with_include_at, with_type_name}

abbrev pub things : Draft → Things
things p = record { types = p.types; interfaces = p.interfaces; worlds = p.worlds }

-- how many interfaces and worlds are foreign
abbrev pub interface_count : ForeignItems → ℕ
interface_count deps = length (foreign_interfaces deps)

abbrev pub world_count : ForeignItems → ℕ
world_count deps = length (foreign_worlds deps)

-- what is known of other packages stands in these lists
pub record IsKnown (deps : ForeignItems) (places : List OptionalSpan) (s : Things) : Type 0 where
  pub spans : length places ≡ length deps
  pub packages : HasDistinctKeys deps
  pub items : Each (λ (e : PackageName × List ForeignItem). HasDistinctKeys e.1) deps
  pub interfaces_once : IsDistinct nat_eq (foreign_interfaces deps)
  pub interfaces_first : Each (λ id. id < interface_count deps) (foreign_interfaces deps)
  pub worlds_once : IsDistinct nat_eq (foreign_worlds deps)
  pub worlds_first : Each (λ id. id < world_count deps) (foreign_worlds deps)
  pub bare : Each (λ (e : PackageName × List ForeignItem). Each (IsForeign s.interfaces s.worlds) e.1) deps

-- lines go into nothing that is foreign
abbrev pub IsOpenOwn : Scope → ℕ → ℕ → ℕ → ℕ → Type 0
IsOpenOwn scope.Package foreign interfaces foreign_worlds worlds = Unit {0}
IsOpenOwn scope.Interface foreign interfaces foreign_worlds worlds = foreign < interfaces
IsOpenOwn scope.World foreign interfaces foreign_worlds worlds = foreign_worlds < worlds

-- the parts of a package
pub record IsSoundAs (name : PackageName) (s : Things) (roots : List (ℕ × OptionalSpan)) (interface_ids world_ids : List (List ℕ × ℕ)) (into : Scope) (foreign : Foreign) : Type 0 where
  pub version : HasValidVersion name
  pub good : AreGood (interface_count foreign.deps) (world_count foreign.deps) (length foreign.type_spans) s
  pub known : IsKnown foreign.deps foreign.dep_spans s
  pub required : Each (λ (r : ℕ × OptionalSpan). SomeAt s.types r.0 (λ (def : TypeDef). def.kind ≡ kind.Unknown)) roots
  pub interfaces_named : interface_names (interface_count foreign.deps) s.interfaces ≡ keys_of interface_ids
  pub interfaces_differ : IsDistinct bytes_eq (keys_of interface_ids)
  pub interfaces_there : Each (λ (e : List ℕ × ℕ). e.1 < length s.interfaces) interface_ids
  pub worlds_named : world_names (world_count foreign.deps) s.worlds ≡ keys_of world_ids
  pub worlds_differ : IsDistinct bytes_eq (keys_of world_ids)
  pub open_own : IsOpenOwn into (interface_count foreign.deps) (length s.interfaces) (world_count foreign.deps) (length s.worlds)

abbrev pub IsSound : Draft → Type 0
IsSound p = IsSoundAs p.name (things p) p.required p.interface_ids p.world_ids p.scope p.foreign

-- ---- what is foreign stays

module _ (s t : Things) (deps : ForeignItems) (grows : Grows (interface_count deps) (world_count deps) s t) where
  bare-stays : (name : List ℕ) (it : AstItem) → ((id : ℕ) → Contains (interface_id it) id → id < interface_count deps) → ((id : ℕ) → Contains (world_id it) id → id < world_count deps)
      → IsNameOnly s.interfaces s.worlds name it → IsNameOnly t.interfaces t.worlds name it
  bare-stays name (item.Interface id) below below_worlds some =
      subst (λ (o : Option Interface). IsSomeAnd o (IsNameOnlyInterface name)) (sym (grows.foreign_same id (below id (Contains-here id [])))) some
  bare-stays name (item.World id) below below_worlds some =
      subst (λ (o : Option World). IsSomeAnd o (IsNameOnlyWorld name)) (sym (grows.foreign_worlds_same id (below_worlds id (Contains-here id [])))) some

  pub known-stays : (spans : List OptionalSpan) → IsKnown deps spans s → IsKnown deps spans t
  known-stays spans known = record {
    spans = known.spans;
    packages = known.packages;
    items = known.items;
    interfaces_once = known.interfaces_once;
    interfaces_first = known.interfaces_first;
    worlds_once = known.worlds_once;
    worlds_first = known.worlds_first;
    bare = λ i e at j named found.
        let was = known.bare i e at j named found in (
          bare-stays named.0 named.1.0
              (λ id has. Each-contains (λ (x : ℕ). x < interface_count deps) (foreign_interfaces deps) id known.interfaces_first
              (Contains-flat_map (λ (d : PackageName × List ForeignItem). flat_map (λ (n : ForeignItem). interface_id n.1.0) d.1) deps e id (contained_at deps i e at)
              (Contains-flat_map (λ (n : ForeignItem). interface_id n.1.0) e.1 named id (contained_at e.1 j named found) has)))
              (λ id has. Each-contains (λ (x : ℕ). x < world_count deps) (foreign_worlds deps) id known.worlds_first
              (Contains-flat_map (λ (d : PackageName × List ForeignItem). flat_map (λ (n : ForeignItem). world_id n.1.0) d.1) deps e id (contained_at deps i e at)
              (Contains-flat_map (λ (n : ForeignItem). world_id n.1.0) e.1 named id (contained_at e.1 j named found) has)))
              was.0,
          was.1,
        );
  }

module _ (name : PackageName) (required : List (ℕ × OptionalSpan)) (interface_ids world_ids : List (List ℕ × ℕ)) (into : Scope) (foreign : Foreign) (s t : Things) where
  -- a package whose things grow, but which has no interface and no world more
  pub sound-with : IsSoundAs name s required interface_ids world_ids into foreign → Grows (interface_count foreign.deps) (world_count foreign.deps) s t
      → AreGood (interface_count foreign.deps) (world_count foreign.deps) (length foreign.type_spans) t
      → length t.interfaces ≡ length s.interfaces → length t.worlds ≡ length s.worlds
      → interface_names (interface_count foreign.deps) t.interfaces ≡ interface_names (interface_count foreign.deps) s.interfaces
      → world_names (world_count foreign.deps) t.worlds ≡ world_names (world_count foreign.deps) s.worlds
      → IsSoundAs name t required interface_ids world_ids into foreign
  sound-with sound grows good interfaces worlds names world_names_same = record {
    version = sound.version;
    good = good;
    known = known-stays s t foreign.deps grows foreign.dep_spans sound.known;
    required = λ i r at. type-stays (interface_count foreign.deps) (world_count foreign.deps) s t grows (good-earlier (interface_count foreign.deps) (world_count foreign.deps) (length foreign.type_spans) s sound.good)
        (λ (def : TypeDef). def.kind ≡ kind.Unknown) r.0 (sound.required i r at);
    interfaces_named = names ∙ sound.interfaces_named;
    interfaces_differ = sound.interfaces_differ;
    interfaces_there = λ i e at. subst (λ (n : ℕ). e.1 < n) (sym interfaces) (sound.interfaces_there i e at);
    worlds_named = world_names_same ∙ sound.worlds_named;
    worlds_differ = sound.worlds_differ;
    open_own = subst (λ (n : ℕ). IsOpenOwn into (interface_count foreign.deps) (length t.interfaces) (world_count foreign.deps) n) (sym worlds)
        (subst (λ (n : ℕ). IsOpenOwn into (interface_count foreign.deps) n (world_count foreign.deps) (length s.worlds)) (sym interfaces) sound.open_own);
  }

-- ---- into what lines go

last_is : (count at : ℕ) → last_place count ≡ Some at → count ≡ suc at
last_is zero at is = cc
last_is (suc n) at is = by (suc n == 0) is where
  by : (b : Bool) → cond b None (Some (suc n - 1)) ≡ Some at → suc n ≡ suc at
  by true is = cc
  by false is = let same : suc n - 1 ≡ at = same-some (suc n - 1) at is in omega (arith, same)

abbrev pub owner_by : Option ℕ → Option ℕ → TypeOwner
owner_by (Some at) w = owner.Interface at
owner_by None (Some w) = owner.World w
owner_by None None = owner.None

-- the owner of what lines add
abbrev pub open_owner : Draft → TypeOwner
open_owner p = owner_by (open_interface p) (open_world p)

interface_scope : (p : Draft) (into : Scope) (at : ℕ) → open_interface_index p into ≡ Some at → (into ≡ scope.Interface) × (length p.interfaces ≡ suc at)
interface_scope p scope.Package at is = cc
interface_scope p scope.Interface at is = (refl, last_is (length p.interfaces) at is)
interface_scope p scope.World at is = cc

world_scope : (p : Draft) (into : Scope) (at : ℕ) → open_world_index p into ≡ Some at → (into ≡ scope.World) × (length p.worlds ≡ suc at)
world_scope p scope.Package at is = cc
world_scope p scope.Interface at is = cc
world_scope p scope.World at is = (refl, last_is (length p.worlds) at is)

module _ (p : Draft) (at : ℕ) where
  -- the interface into which lines go: it is the last, and isn't foreign
  pub record IsOpenInterface : Type 0 where
    pub last : length p.interfaces ≡ suc at
    pub own : interface_count p.foreign.deps ≤ at
    pub owns : open_owner p ≡ owner.Interface at

  pub open_interface-is : IsSound p → open_interface p ≡ Some at → IsOpenInterface
  open_interface-is sound is =
      let where_to = interface_scope p p.scope at is in
      let below : interface_count p.foreign.deps < length p.interfaces =
      subst (λ (into : Scope). IsOpenOwn into (interface_count p.foreign.deps) (length p.interfaces) (world_count p.foreign.deps) (length p.worlds)) where_to.0 sound.open_own in
      record { last = where_to.1; own = omega (arith, below, where_to.1); owns = ap (λ (o : Option ℕ). owner_by o (open_world p)) is }

  -- the world into which lines go
  pub record IsOpenWorld : Type 0 where
    pub own : world_count p.foreign.deps ≤ at
    pub owns : open_owner p ≡ owner.World at

  pub open_world-is : IsSound p → open_world p ≡ Some at → IsOpenWorld
  open_world-is sound is =
      let where_to = world_scope p p.scope at is in
      let below : world_count p.foreign.deps < length p.worlds =
      subst (λ (into : Scope). IsOpenOwn into (interface_count p.foreign.deps) (length p.interfaces) (world_count p.foreign.deps) (length p.worlds)) where_to.0 sound.open_own in
      let none : open_interface p ≡ None = ap (open_interface_index p) where_to.0 in
      record { own = omega (arith, below, where_to.1); owns = ap (λ (o : Option ℕ). owner_by o (open_world p)) none ∙ ap (owner_by None) is }

-- ---- what lines add

abbrev name_of : Interface → List (List ℕ)
name_of interface = option_to_list interface.name

abbrev world_name_of : World → List (List ℕ)
world_name_of world = world.name ∷ []

module _ (n : ℕ) where
  interface_names-set : (xs : List Interface) (i : ℕ) (x y : Interface) → slice_get xs i ≡ Some x → x.name ≡ y.name → interface_names n (slice_set xs i y) ≡ interface_names n xs
  interface_names-set xs i x y at same = told-set name_of n xs i x y at (ap option_to_list same)

  interface_names-push : (xs : List Interface) (name : List ℕ) (here : LineContext) → n ≤ length xs → interface_names n (xs ++ empty_interface name here ∷ []) ≡ interface_names n xs ++ name ∷ []
  interface_names-push xs name here within = told-push name_of n xs (empty_interface name here) within

  as_told : (xs : List World) → flat_map world_name_of (drop n xs) ≡ world_names n xs
  as_told xs = flat_map_single (λ (w : World). w.name) (drop n xs)

  world_names-set : (xs : List World) (i : ℕ) (x y : World) → slice_get xs i ≡ Some x → x.name ≡ y.name → world_names n (slice_set xs i y) ≡ world_names n xs
  world_names-set xs i x y at same = sym (as_told (slice_set xs i y)) ∙ told-set world_name_of n xs i x y at (ap (λ (name : List ℕ). name ∷ []) same) ∙ as_told xs

  world_names-push : (xs : List World) (name : List ℕ) (here : LineContext) → n ≤ length xs → world_names n (xs ++ empty_world name here ∷ []) ≡ world_names n xs ++ name ∷ []
  world_names-push xs name here within =
      sym (as_told (xs ++ empty_world name here ∷ [])) ∙ told-push world_name_of n xs (empty_world name here) within ∙ ap (λ (l : List (List ℕ)). l ++ name ∷ []) (as_told xs)

-- one more name that isn't there
all_push : {X : Type 0} (P : X → Type 0) (xs : List X) (x : X) → AllByRecursion P xs → P x → AllByRecursion P (xs ++ x ∷ [])
all_push P [] x all new = (new, tt)
all_push P (y ∷ xs) x all new = (all.0, all_push P xs x all.1 new)

names-push : (ids : List (List ℕ × ℕ)) (name : List ℕ) → IsDistinct bytes_eq (keys_of ids) → lookup (bytes_eq name) ids ≡ None → IsDistinct bytes_eq (keys_of ids ++ name ∷ [])
unfolding IsDistinct
names-push [] name distinct none = (tt, tt)
names-push (e ∷ ids) name distinct none = by (bytes_eq name e.0) refl none (λ n. names-push ids name distinct.1 n) where
  by : (b : Bool) → bytes_eq name e.0 ≡ b → cond b (Some e.1) (lookup (bytes_eq name) ids) ≡ None → (lookup (bytes_eq name) ids ≡ None → IsDistinct bytes_eq (keys_of ids ++ name ∷ []))
      → IsDistinct bytes_eq (e.0 ∷ (keys_of ids ++ name ∷ []))
  by true is none rest = cc
  by false is none rest = (all_push (λ (y : List ℕ). bytes_eq e.0 y ≡ false) (keys_of ids) name distinct.0 (nat_list_eq_equiv.symm e.0 name ∙ is), rest none)

keys-push : (ids : List (List ℕ × ℕ)) (name : List ℕ) (id : ℕ) → keys_of (ids ++ (name, id) ∷ []) ≡ keys_of ids ++ name ∷ []
keys-push ids name id = map-append (λ (e : List ℕ × ℕ). e.0) ids ((name, id) ∷ [])

module _ (p : Draft) (sound : IsSound p) where
  abbrev nf : ℕ
  nf = interface_count p.foreign.deps

  abbrev nw : ℕ
  nw = world_count p.foreign.deps

  abbrev nu : ℕ
  nu = length p.foreign.type_spans

  -- an interface
  pub sound-interface : (name : List ℕ) (here : LineContext) (q : Draft) → with_interface p name here ≡ Some q → IsSound q
  sound-interface name here q made =
      let new = new-is (lookup (bytes_eq name) p.interface_ids) _ q made in
      subst IsSound new.1 (record {
        version = sound.version;
        good = good-begun nf nw nu (things p) sound.good name here;
        known = known-stays (things p) _ p.foreign.deps (grows-begun nf nw nu (things p) sound.good name here) p.foreign.dep_spans sound.known;
        required = sound.required;
        interfaces_named = interface_names-push nf p.interfaces name here sound.good.first_interfaces ∙ ap (λ (l : List (List ℕ)). l ++ name ∷ []) sound.interfaces_named
            ∙ sym (keys-push p.interface_ids name (length p.interfaces));
        interfaces_differ = subst (IsDistinct bytes_eq) (sym (keys-push p.interface_ids name (length p.interfaces))) (names-push p.interface_ids name sound.interfaces_differ new.0);
        interfaces_there = EachAt-push (λ _ (e : List ℕ × ℕ). e.1 < length (p.interfaces ++ empty_interface name here ∷ [])) p.interface_ids (name, length p.interfaces)
            (λ i e at. let below = sound.interfaces_there i e at in omega (arith, below, length-append p.interfaces (empty_interface name here ∷ [])))
            (omega (arith, length-append p.interfaces (empty_interface name here ∷ [])));
        worlds_named = sound.worlds_named;
        worlds_differ = sound.worlds_differ;
        open_own = omega (arith, sound.good.first_interfaces, length-append p.interfaces (empty_interface name here ∷ []));
      })

  -- a world
  pub sound-world : (name : List ℕ) (here : LineContext) (q : Draft) → with_world p name here ≡ Some q → IsSound q
  sound-world name here q made =
      let new = new-is (lookup (bytes_eq name) p.world_ids) _ q made in
      subst IsSound new.1 (record {
        version = sound.version;
        good = good-opened nf nw nu (things p) sound.good name here;
        known = known-stays (things p) _ p.foreign.deps (grows-opened nf nw nu (things p) sound.good name here) p.foreign.dep_spans sound.known;
        required = sound.required;
        interfaces_named = sound.interfaces_named;
        interfaces_differ = sound.interfaces_differ;
        interfaces_there = sound.interfaces_there;
        worlds_named = world_names-push nw p.worlds name here sound.good.first_worlds ∙ ap (λ (l : List (List ℕ)). l ++ name ∷ []) sound.worlds_named
            ∙ sym (keys-push p.world_ids name (length p.worlds));
        worlds_differ = subst (IsDistinct bytes_eq) (sym (keys-push p.world_ids name (length p.worlds))) (names-push p.world_ids name sound.worlds_differ new.0);
        open_own = omega (arith, sound.good.first_worlds, length-append p.worlds (empty_world name here ∷ []));
      })

  -- a function of an interface
  pub sound-function : (f : Function) (q : Draft) → UsesOwn p.types (open_owner p) f → with_function p f ≡ Some q → IsSound q
  sound-function f q uses made =
      let into = step-of (with_function_at p f) (open_interface p) q made in
      let to = step-of (with_function_in p f into.0) (slice_get p.interfaces into.0) q into.2 in
      let new = new-is (lookup (bytes_eq f.name) to.0.functions) _ q to.2 in
      let opened = open_interface-is p into.0 sound into.1 in
      let held : Interface = record to.0 { functions = to.0.functions ++ (f.name, f) ∷ [] } in
      subst IsSound new.1 (sound-with p.name p.required p.interface_ids p.world_ids p.scope p.foreign (things p) (record (things p) { interfaces = slice_set p.interfaces into.0 held }) sound
      (grows-called nf nw nu (things p) sound.good into.0 to.0 to.1 opened.own f)
      (good-called nf nw nu (things p) sound.good into.0 to.0 to.1 opened.own f new.0 (subst (λ (by : TypeOwner). UsesOwn p.types by f) opened.owns uses))
      (length-set p.interfaces into.0 held) refl (interface_names-set nf p.interfaces into.0 to.0 held to.1 refl) refl)

  -- an import of a world
  pub sound-import : (k : WorldKey) (e : WorldItem) (q : Draft) → ((w : ℕ) → open_owner p ≡ owner.World w → IsImport p.interfaces p.types w k e × ItemUsesOwn p.types w e) → with_import p k e ≡ Some q → IsSound q
  sound-import k e q allowed made =
      let into = step-of (with_import_at p k e) (open_world p) q made in
      let to = step-of (with_import_in p k e into.0) (slice_get p.worlds into.0) q into.2 in
      let new = new-is (lookup (same_key k) to.0.imports) _ q to.2 in
      let opened = open_world-is p into.0 sound into.1 in
      let may = allowed into.0 opened.owns in
      let held : World = record to.0 { imports = to.0.imports ++ (k, e) ∷ [] } in
      subst IsSound new.1 (sound-with p.name p.required p.interface_ids p.world_ids p.scope p.foreign (things p) (record (things p) { worlds = slice_set p.worlds into.0 held }) sound
      (grows-imported nf nw nu (things p) sound.good into.0 to.0 to.1 opened.own k e)
      (good-imported nf nw nu (things p) sound.good into.0 to.0 to.1 opened.own k e new.0 may.0 may.1)
      refl (length-set p.worlds into.0 held) refl (world_names-set nw p.worlds into.0 to.0 held to.1 refl))

  -- an export of a world
  pub sound-export : (k : WorldKey) (e : WorldItem) (q : Draft) → ((w : ℕ) → open_owner p ≡ owner.World w → IsExport p.interfaces k e × ItemUsesOwn p.types w e) → with_export p k e ≡ Some q → IsSound q
  sound-export k e q allowed made =
      let into = step-of (with_export_at p k e) (open_world p) q made in
      let to = step-of (with_export_in p k e into.0) (slice_get p.worlds into.0) q into.2 in
      let new = new-is (lookup (same_key k) to.0.exports) _ q to.2 in
      let opened = open_world-is p into.0 sound into.1 in
      let may = allowed into.0 opened.owns in
      let held : World = record to.0 { exports = to.0.exports ++ (k, e) ∷ [] } in
      subst IsSound new.1 (sound-with p.name p.required p.interface_ids p.world_ids p.scope p.foreign (things p) (record (things p) { worlds = slice_set p.worlds into.0 held }) sound
      (grows-exported nf nw nu (things p) sound.good into.0 to.0 to.1 opened.own k e)
      (good-exported nf nw nu (things p) sound.good into.0 to.0 to.1 opened.own k e new.0 may.0 may.1)
      refl (length-set p.worlds into.0 held) refl (world_names-set nw p.worlds into.0 to.0 held to.1 refl))

  -- an include of a world
  pub sound-include : (i : WorldInclude) (q : Draft) → with_include p i ≡ Some q → IsSound q
  sound-include i q made =
      let into = step-of (with_include_at p i) (open_world p) q made in
      let to = map-of (λ (world : World). record p { worlds = slice_set p.worlds into.0 (record world { includes = world.includes ++ i ∷ [] }) }) (slice_get p.worlds into.0) q into.2 in
      let opened = open_world-is p into.0 sound into.1 in
      let held : World = record to.0 { includes = to.0.includes ++ i ∷ [] } in
      subst IsSound to.2 (sound-with p.name p.required p.interface_ids p.world_ids p.scope p.foreign (things p) (record (things p) { worlds = slice_set p.worlds into.0 held }) sound
      (grows-included nf nw nu (things p) sound.good into.0 to.0 to.1 opened.own i)
      (good-included nf nw nu (things p) sound.good into.0 to.0 to.1 opened.own i)
      refl (length-set p.worlds into.0 held) refl (world_names-set nw p.worlds into.0 to.0 held to.1 refl))

  -- a type with a name
  pub sound-named : (name : List ℕ) (k : TypeDefKind) (here : LineContext) (q : Draft) → IsNamedKind (things p) (open_owner p) k → (into : Scope) → with_named_in p into name k here ≡ Some q → IsSound q
  sound-named name k here q named scope.Package made = cc
  sound-named name k here q named scope.Interface made =
      let into = step-of (with_interface_type p name k here) (open_interface p) q made in
      let def : TypeDef = type_with (Some name) k (owner.Interface into.0) here in
      let half = map-of (λ (r : Draft). with_type r def) (with_type_name p name into.0) q into.2 in
      let to = step-of (with_type_name_in p name into.0) (slice_get p.interfaces into.0) half.0 half.1 in
      let new = new-is (lookup (bytes_eq name) to.0.types) _ half.0 to.2 in
      let opened = open_interface-is p into.0 sound into.1 in
      let held : Interface = record to.0 { types = to.0.types ++ (name, length p.types) ∷ [] } in
      let whole : with_type (record p { interfaces = slice_set p.interfaces into.0 held }) def ≡ q = ap (λ (r : Draft). with_type r def) new.1 ∙ half.2 in
      subst IsSound whole (sound-with p.name p.required p.interface_ids p.world_ids p.scope p.foreign (things p)
      (record { types = p.types ++ def ∷ []; interfaces = slice_set p.interfaces into.0 held; worlds = p.worlds }) sound
      (grows-owned nf nw nu (things p) sound.good into.0 to.0 to.1 opened.own name k here)
      (good-owned nf nw nu (things p) sound.good into.0 to.0 to.1 opened.own name k here new.0 (subst (λ (by : TypeOwner). IsNamedKind (things p) by k) opened.owns named))
      (length-set p.interfaces into.0 held) refl (interface_names-set nf p.interfaces into.0 to.0 held to.1 refl) refl)
  sound-named name k here q named scope.World made =
      let into = step-of (with_world_type p name k here) (open_world p) q made in
      let def : TypeDef = type_with (Some name) k (owner.World into.0) here in
      let it : WorldItem = entry.Type_ (length p.types) here.span in
      let half = map-of (λ (r : Draft). with_type r def) (with_import_at p (key.Name name) it into.0) q into.2 in
      let to = step-of (with_import_in p (key.Name name) it into.0) (slice_get p.worlds into.0) half.0 half.1 in
      let new = new-is (lookup (same_key (key.Name name)) to.0.imports) _ half.0 to.2 in
      let opened = open_world-is p into.0 sound into.1 in
      let held : World = record to.0 { imports = to.0.imports ++ (key.Name name, it) ∷ [] } in
      let whole : with_type (record p { worlds = slice_set p.worlds into.0 held }) def ≡ q = ap (λ (r : Draft). with_type r def) new.1 ∙ half.2 in
      subst IsSound whole (sound-with p.name p.required p.interface_ids p.world_ids p.scope p.foreign (things p)
      (record { types = p.types ++ def ∷ []; interfaces = p.interfaces; worlds = slice_set p.worlds into.0 held }) sound
      (grows-world_owned nf nw nu (things p) sound.good into.0 to.0 to.1 opened.own name k here)
      (good-world_owned nf nw nu (things p) sound.good into.0 to.0 to.1 opened.own name k here new.0 (subst (λ (by : TypeOwner). IsNamedKind (things p) by k) opened.owns named))
      refl (length-set p.worlds into.0 held) refl (world_names-set nw p.worlds into.0 to.0 held to.1 refl))
