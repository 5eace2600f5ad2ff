-- The functions that are active, as they are gathered, are those that are added.
use Rattle.std.proofs.Common.{◌≡◌, ◌∙◌, ◌&&◌, inl, inr, ℕ, Bool, true, false, not, List, [], ◌∷◌, ◌++◌, map, filter, length, cond, Option, Some, slice_get, refl, sym, ap, subst, Contains, if◌then◌else◌}
use Rattle.std.specs.List.{flat_map, range_with_len}
use Rattle.std.specs.Option.{option_map_or}
use Rattle.std.proofs.lemmas.Bool.{ltb-true}
use Rattle.std.proofs.lemmas.Grind.{flat_map-append}
use Rattle.wit_digraph.specs.facts.MemberFacts.{Contains-cons_cases, Contains-flat_map_cases, Contains-nil}
use Rattle.wit_data.specs.Each.{SomeAt}
use Rattle.wit_data.specs.Entries.{Entry}
use Rattle.wit_data.specs.Foreign.{ForeignItem, IsForeign, foreign_interfaces, foreign_worlds, interface_id, world_id}
use Rattle.wit_data.specs.Shape.{IsShaped}
use Rattle.wit_data.specs.declared.function.Function.{Function}
use Rattle.wit_data.specs.declared.interface.Interface.{Interface}
use Rattle.wit_names.specs.declared.package_name.PackageName.{PackageName}
use Rattle.wit_data.specs.declared.world.World.{World}
use Rattle.wit_data.specs.declared.world.WorldKey.{WorldKey}
use Rattle.wit_data.specs.declared.unresolved.AstItem.TheVariants as named
use Rattle.wit_data.specs.declared.world.WorldItem.TheVariants as item
use Rattle.wit_graph_data.specs.declared.features.Features.{Features}
use Rattle.wit_remap_spec.specs.Kept.{cut_interface, cut_world}
use Rattle.wit_graph_theory.specs.facts.ListFacts.{found_at, place_of, same_at, some_at}
use Rattle.wit_link_spec.specs.Addition.{Addition, active, own_functions, own_interface, own_interfaces, own_world, own_worlds}
use Rattle.wit_link_spec.specs.facts.ClosedCut.{member_of_first}
use Rattle.wit_link_spec.specs.Gates.{interface_is_active, is_foreign_interface, is_foreign_world, item_is_active, world_is_active}
use Rattle.wit_remap_spec.specs.Selected.{selected, selected_with_index}
use Rattle.wit_remap_spec.specs.ValueRemap.{item_function, world_functions as functions_of}
use Rattle.wit_link_resources.specs.steps.Active.{active_entries, active_functions, active_named, interface_functions, world_functions}
use Rattle.wit_link_resources.proofs.Gathered.{gathered}
use Rattle.wit_data.specs.steps.Parts.{IsNameOnlyInterface, IsNameOnlyWorld}
use Rattle.wit_link_spec.specs.steps.Parts.{function_is_active}

-- ---- what is named of other packages is bare

bare_interface : (interfaces : List Interface) (worlds : List World) (i : ℕ) (it : ForeignItem) → Contains (interface_id it.1.0) i → IsForeign interfaces worlds it
    → SomeAt interfaces i (λ (interface : Interface). interface.functions ≡ [])
bare_interface interfaces worlds i (name, (named.Interface j, notes)) has is = elim (Contains-cons_cases j i [] has) [
  | inl same ↦
      let found = found_at (IsNameOnlyInterface name) interfaces j is.0 in
      subst (λ (k : ℕ). SomeAt interfaces k (λ (interface : Interface). interface.functions ≡ [])) same
      (some_at (λ (interface : Interface). interface.functions ≡ []) interfaces j found.0 found.1 found.2.1)
  | inr none ↦ absurd (Contains-nil none)
]
bare_interface interfaces worlds i (name, (named.World w, notes)) has is = absurd (Contains-nil has)

abbrev IsEmpty : World → Type 0
IsEmpty world = (world.imports ≡ []) × (world.exports ≡ [])

bare_world : (interfaces : List Interface) (worlds : List World) (w : ℕ) (it : ForeignItem) → Contains (world_id it.1.0) w → IsForeign interfaces worlds it → SomeAt worlds w IsEmpty
bare_world interfaces worlds w (name, (named.World v, notes)) has is = elim (Contains-cons_cases v w [] has) [
  | inl same ↦
      let found = found_at (IsNameOnlyWorld name) worlds v is.0 in
      subst (λ (k : ℕ). SomeAt worlds k IsEmpty) same (some_at IsEmpty worlds v found.0 found.1 (found.2.1, found.2.2))
  | inr none ↦ absurd (Contains-nil none)
]
bare_world interfaces worlds w (name, (named.Interface i, notes)) has is = absurd (Contains-nil has)

module _ (a : Addition) (shaped : IsShaped a.unresolved) where
  no_functions : (i : ℕ) (interface : Interface) → slice_get a.unresolved.interfaces i ≡ Some interface → is_foreign_interface a.unresolved i ≡ true → interface.functions ≡ []
  no_functions i interface at foreign =
      let deps = a.unresolved.foreign_deps in
      let has = member_of_first (foreign_interfaces deps) (length a.unresolved.interfaces) i shaped.foreign.interfaces (ltb-true i (length (foreign_interfaces deps)) foreign) in
      let home = Contains-flat_map_cases (λ (e : PackageName × List ForeignItem). flat_map (λ (it : ForeignItem). interface_id it.1.0) e.1) deps i has in
      let it = Contains-flat_map_cases (λ (it : ForeignItem). interface_id it.1.0) home.0.1 i home.1.1 in
      let outer = place_of deps home.0 home.1.0 in
      let inner = place_of home.0.1 it.0 it.1.0 in
      let bare = found_at (λ (x : Interface). x.functions ≡ []) a.unresolved.interfaces i
      (bare_interface a.unresolved.interfaces a.unresolved.worlds i it.0 it.1.1 (shaped.foreign.bare outer.0 home.0 outer.1 inner.0 it.0 inner.1)) in
      ap (λ (x : Interface). x.functions) (same_at a.unresolved.interfaces i i interface bare.0 refl at bare.1) ∙ bare.2

  no_entries : (w : ℕ) (world : World) → slice_get a.unresolved.worlds w ≡ Some world → is_foreign_world a.unresolved w ≡ true → IsEmpty world
  no_entries w world at foreign =
      let deps = a.unresolved.foreign_deps in
      let has = member_of_first (foreign_worlds deps) (length a.unresolved.worlds) w shaped.foreign.worlds (ltb-true w (length (foreign_worlds deps)) foreign) in
      let home = Contains-flat_map_cases (λ (e : PackageName × List ForeignItem). flat_map (λ (it : ForeignItem). world_id it.1.0) e.1) deps w has in
      let it = Contains-flat_map_cases (λ (it : ForeignItem). world_id it.1.0) home.0.1 w home.1.1 in
      let outer = place_of deps home.0 home.1.0 in
      let inner = place_of home.0.1 it.0 it.1.0 in
      let bare = found_at IsEmpty a.unresolved.worlds w (bare_world a.unresolved.interfaces a.unresolved.worlds w it.0 it.1.1 (shaped.foreign.bare outer.0 home.0 outer.1 inner.0 it.0 inner.1)) in
      subst IsEmpty (sym (same_at a.unresolved.worlds w w world bare.0 refl at bare.1)) bare.2

-- ---- what is kept of a list

flat_map-map : {A B C : Type 0} (f : B → List C) (h : A → B) (xs : List A) → flat_map f (map h xs) ≡ flat_map (λ (x : A). f (h x)) xs
flat_map-map f h [] = refl
flat_map-map f h (x ∷ xs) = ap (λ l. f (h x) ++ l) (flat_map-map f h xs)

named_kept : (features : Features) (named : List (List ℕ × Function)) → active_named features named ≡ map (λ (e : List ℕ × Function). e.1) (filter (λ (e : List ℕ × Function). function_is_active features e.1) named)
named_kept features [] = refl
named_kept features (e ∷ es) = by (function_is_active features e.1) (named_kept features es)
  where
    rest : List (List ℕ × Function)
    rest = filter (λ (e : List ℕ × Function). function_is_active features e.1) es

    by : (b : Bool) → active_named features es ≡ map (λ (e : List ℕ × Function). e.1) rest → (if b then e.1 ∷ [] else []) ++ active_named features es ≡ map (λ (e : List ℕ × Function). e.1) (cond b (e ∷ rest) rest)
    by true more = ap (λ (l : List Function). e.1 ∷ l) more
    by false more = more

module _ (a : Addition) where
  abbrev keeps : Entry → Bool
  keeps e = item_is_active a.features a.unresolved.types e.1

  abbrev of_entry : Entry → List Function
  of_entry e = item_function e.1

  one_more : (b : Bool) (k : WorldKey) (f : Function) (es : List Entry) (fs : List Function) → fs ≡ flat_map of_entry es → (if b then f ∷ [] else []) ++ fs ≡ flat_map of_entry (cond b ((k, item.Function f) ∷ es) es)
  one_more true k f es fs more = ap (λ (l : List Function). f ∷ l) more
  one_more false k f es fs more = more

  none_more : (b : Bool) (e : Entry) (es : List Entry) (fs : List Function) → of_entry e ≡ [] → fs ≡ flat_map of_entry es → fs ≡ flat_map of_entry (cond b (e ∷ es) es)
  none_more true e es fs none more = more ∙ ap (λ (l : List Function). l ++ flat_map of_entry es) (sym none)
  none_more false e es fs none more = more

  entries_kept : (entries : List Entry) → active_entries a.features entries ≡ flat_map of_entry (filter keeps entries)
  entries_kept [] = refl
  entries_kept ((k, item.Function f) ∷ es) = one_more (function_is_active a.features f) k f (filter keeps es) (active_entries a.features es) (entries_kept es)
  entries_kept ((k, item.Interface i stability docs span external_id) ∷ es) =
      none_more (keeps (k, item.Interface i stability docs span external_id)) (k, item.Interface i stability docs span external_id) (filter keeps es) (active_entries a.features es) refl (entries_kept es)
  entries_kept ((k, item.Type_ t span) ∷ es) = none_more (keeps (k, item.Type_ t span)) (k, item.Type_ t span) (filter keeps es) (active_entries a.features es) refl (entries_kept es)

-- ---- those of interfaces and worlds

module _ (a : Addition) (shaped : IsShaped a.unresolved) where
  abbrev of_interface : Interface → List Function
  of_interface interface = map (λ (e : List ℕ × Function). e.1) (cut_interface (active a) interface).functions

  abbrev of_world : World → List Function
  of_world world = functions_of (cut_world (active a) world)

  -- one that is of another package has none
  bare_interface_has : (i : ℕ) (interface : Interface) → slice_get a.unresolved.interfaces i ≡ Some interface → is_foreign_interface a.unresolved i ≡ true → active_named a.features interface.functions ≡ []
  bare_interface_has i interface at foreign = ap (active_named a.features) (no_functions a shaped i interface at foreign)

  interface_at : (i : ℕ) (interface : Interface) → slice_get a.unresolved.interfaces i ≡ Some interface → interface_functions a i ≡ (if own_interface a i then of_interface interface else [])
  interface_at i interface at =
      ap (λ (o : Option Interface). if interface_is_active a.features a.unresolved i then option_map_or (λ (x : Interface). active_named a.features x.functions) o [] else []) at
      ∙ by (is_foreign_interface a.unresolved i) (interface_is_active a.features a.unresolved i) refl
    where
      by : (foreign on : Bool) → is_foreign_interface a.unresolved i ≡ foreign → (if on then active_named a.features interface.functions else []) ≡ (if not foreign && on then of_interface interface else [])
      by true true is = bare_interface_has i interface at is
      by true false is = refl
      by false true is = named_kept a.features interface.functions
      by false false is = refl

  world_at : (w : ℕ) (world : World) → slice_get a.unresolved.worlds w ≡ Some world → world_functions a w ≡ (if own_world a w then of_world world else [])
  world_at w world at =
      ap (λ (o : Option World). if world_is_active a.features a.unresolved w then option_map_or (λ (x : World). active_entries a.features x.imports ++ active_entries a.features x.exports) o [] else []) at
      ∙ by (is_foreign_world a.unresolved w) (world_is_active a.features a.unresolved w) refl
    where
      all : List Function
      all = active_entries a.features world.imports ++ active_entries a.features world.exports

      by : (foreign on : Bool) → is_foreign_world a.unresolved w ≡ foreign → (if on then all else []) ≡ (if not foreign && on then of_world world else [])
      by true true is =
          let empty = no_entries a shaped w world at is in
          ap (λ (es : List Entry). active_entries a.features es ++ active_entries a.features world.exports) empty.0 ∙ ap (active_entries a.features) empty.1
      by true false is = refl
      by false true is =
          ap (λ (l : List Function). l ++ active_entries a.features world.exports) (entries_kept a world.imports)
          ∙ (ap (λ (l : List Function). flat_map (of_entry a) (filter (keeps a) world.imports) ++ l) (entries_kept a world.exports)
          ∙ sym (flat_map-append (of_entry a) (filter (keeps a) world.imports) (filter (keeps a) world.exports)))
      by false false is = refl

  -- the functions that are active are those that are added
  pub active_own : active_functions a ≡ own_functions a
  active_own = ap (λ (l : List Function). l ++ flat_map (world_functions a) (range_with_len 0 (length a.unresolved.worlds))) interfaces_same ∙ ap (λ (l : List Function). flat_map of_functions (own_interfaces a) ++ l) worlds_same
    where
      of_functions : Interface → List Function
      of_functions interface = map (λ (e : List ℕ × Function). e.1) interface.functions

      interfaces_same : flat_map (interface_functions a) (range_with_len 0 (length a.unresolved.interfaces)) ≡ flat_map of_functions (own_interfaces a)
      interfaces_same =
          gathered (interface_functions a) (own_interface a) of_interface a.unresolved.interfaces interface_at
          ∙ sym (flat_map-map of_functions (cut_interface (active a)) (selected (own_interface a) a.unresolved.interfaces))

      of_pair : ℕ × World → List Function
      of_pair e = functions_of e.1

      worlds_same : flat_map (world_functions a) (range_with_len 0 (length a.unresolved.worlds)) ≡ flat_map of_pair (own_worlds a)
      worlds_same =
          gathered (world_functions a) (own_world a) of_world a.unresolved.worlds world_at
          ∙ (flat_map-map of_world (λ (e : ℕ × World). e.1) (selected_with_index (own_world a) a.unresolved.worlds)
          ∙ sym (flat_map-map of_pair (λ (e : ℕ × World). let r : ℕ × World = (e.0, cut_world (active a) e.1) in r) (selected_with_index (own_world a) a.unresolved.worlds)))
