-- What things are remapped to, and which take the next ids.
use Rattle.std.proofs.Common.{◌≡◌, ◌∙◌, ◌+◌, ◌<◌, ◌&&◌, ℕ, zero, suc, Bool, true, false, not, List, ◌∷◌, map, length, nat_eq, nat_lt, Option, None, Some, refl, sym, ap, subst, arith, add-one, Contains, if◌then◌else◌}
use Rattle.std.specs.List.{list_any, range_with_len}
use Rattle.std.specs.Prelude.{option_and_then, flat_map}
use Rattle.std.proofs.lemmas.Bool.{false≢true, lt-ltb, ltb-true}
use Rattle.std.proofs.lemmas.List.FromFn.{length-map-range_with_len}
use Rattle.wit_digraph.specs.facts.FreshFacts.{any_from_contains, contains_from_any}
use Rattle.wit_digraph.specs.facts.MemberFacts.{Contains-flat_map, Contains-flat_map_cases}
use Rattle.wit_data.specs.Foreign.{AreFirst, ForeignItem, interface_id, world_id}
use Rattle.wit_data.specs.Shape.{IsShaped}
use Rattle.wit_data.specs.declared.unresolved.AstItem.{AstItem}
use Rattle.wit_names.specs.declared.package_name.PackageName.{PackageName}
use Rattle.wit_graph_theory.specs.facts.ListFacts.{place_of}
use Rattle.wit_link_spec.specs.Addition.{Addition, own_type}
use Rattle.wit_remap_spec.specs.Selected.{rank}
use Rattle.wit_link_spec.specs.Gates.{interface_is_active, type_is_active, world_is_active}
use Rattle.wit_link_spec.specs.Lookup.{find_interface, find_package, find_world, foreign_type_id, is_foreign_type, named_items, naming_item}
use Rattle.wit_link_spec.specs.declared.addition.Activity.{Activity}
use Rattle.wit_link_spec.specs.facts.ClosedCut.{member_of_first}
use Rattle.wit_link_spec.specs.facts.ForeignFound.{find-passes, find-some, interface_of, world_of}
use Rattle.wit_link_spec.specs.facts.RankFacts.{after, rank-suc}
use Rattle.wit_link_spec.specs.steps.AdditionRefs.{activity_of}
use Rattle.wit_link_lookup.specs.steps.ForeignItems.{AreThere, Lookup, NamedItem, assigned_ids, first_among, found_among, goes, has_new_id, item_in, named_is_active}
use Rattle.wit_link_lookup.specs.declared.foreign.Found.{Found}
use Rattle.wit_link_lookup.proofs.NamedItems.{ids_named}
use Rattle.wit_link_spec.specs.steps.Parts.{active_type_id, active_interface_id, active_world_id}

-- what a thing is remapped to, when what is of other packages and is active is found, and nothing else is
goes_there : (active foreign : Bool) (found : Option ℕ) (next : ℕ) → (active ≡ true → foreign ≡ true → found ≡ None → ⊥) → (foreign ≡ false → found ≡ None)
    → goes active found next ≡ (if active then (if foreign then found else Some next) else None)
goes_there false foreign found next there own = refl
goes_there true true (Some id) next there own = refl
goes_there true true None next there own = absurd (there refl refl refl)
goes_there true false (Some id) next there own = let none = own refl in cc
goes_there true false None next there own = refl

takes_own : (active foreign : Bool) (found : Option ℕ) → (active ≡ true → foreign ≡ true → found ≡ None → ⊥) → (foreign ≡ false → found ≡ None) → has_new_id active found ≡ (not foreign && active)
takes_own false true found there own = refl
takes_own false false found there own = refl
takes_own true true (Some id) there own = refl
takes_own true true None there own = absurd (there refl refl refl)
takes_own true false (Some id) there own = let none = own refl in cc
takes_own true false None there own = refl

-- the next id behind one more
pub next_id : (kept : ℕ → Bool) (base t : ℕ) (takes : Bool) (next : ℕ) → takes ≡ kept t → next ≡ after takes (base + rank kept t) → next ≡ base + rank kept (t + 1)
next_id kept base t takes next same is =
    is ∙ ap (λ (b : Bool). after b (base + rank kept t)) same ∙ inside (kept t) base (rank kept t)
    ∙ ap (λ (r : ℕ). base + r) (sym (rank-suc kept t)) ∙ ap (λ (k : ℕ). base + rank kept k) (sym (add-one t))
  where
    inside : (b : Bool) (m n : ℕ) → after b (m + n) ≡ m + after b n
    inside true m n = omega arith
    inside false m n = refl

-- what is of another package is named, and nothing else is
named_one : (ids : AstItem → List ℕ) (a : Addition) (id : ℕ) → Contains (flat_map (λ (e : PackageName × List ForeignItem). flat_map (λ (i : ForeignItem). ids i.1.0) e.1) a.unresolved.foreign_deps) id
    → (e : NamedItem) × (naming_item ids a.unresolved id ≡ Some e)
named_one ids a id has =
    let one = Contains-flat_map_cases (λ (e : NamedItem). ids e.2.1.0) (named_items a.unresolved.foreign_deps) id (subst (λ (l : List ℕ). Contains l id) (sym (ids_named ids a.unresolved.foreign_deps)) has) in
    find-some (λ (e : NamedItem). list_any (nat_eq id) (ids e.2.1.0)) (named_items a.unresolved.foreign_deps) one.0 one.1.0 (any_from_contains id (ids one.0.2.1.0) one.1.1)

one_named : (ids : AstItem → List ℕ) (a : Addition) (id : ℕ) (e : NamedItem) → naming_item ids a.unresolved id ≡ Some e
    → Contains (flat_map (λ (e : PackageName × List ForeignItem). flat_map (λ (i : ForeignItem). ids i.1.0) e.1) a.unresolved.foreign_deps) id
one_named ids a id e is =
    let passes = find-passes (λ (e : NamedItem). list_any (nat_eq id) (ids e.2.1.0)) (named_items a.unresolved.foreign_deps) e is in
    subst (λ (l : List ℕ). Contains l id) (ids_named ids a.unresolved.foreign_deps)
    (Contains-flat_map (λ (e : NamedItem). ids e.2.1.0) (named_items a.unresolved.foreign_deps) e id passes.0 (contains_from_any id (ids e.2.1.0) passes.1))

first_ids : (ids : List ℕ) (count id : ℕ) → AreFirst ids count → Contains ids id → id < length ids
first_ids ids count id first has = let at = place_of ids id has in first.first at.0 id at.1

-- ---- interfaces and worlds

-- the things of one sort, by its ids, its look-up and which are active; what is named of other packages and is active is found
module _ (a : Addition) (ids : AstItem → List ℕ) (look_up : Lookup) (active : ℕ → Bool) (count : ℕ)
    (firsts : AreFirst (flat_map (λ (d : PackageName × List ForeignItem). flat_map (λ (i : ForeignItem). ids i.1.0) d.1) a.unresolved.foreign_deps) count)
    (there : (e : NamedItem) (id : ℕ) → Contains (named_items a.unresolved.foreign_deps) e → list_any (nat_eq id) (ids e.2.1.0) ≡ true → active id ≡ true → look_up a.graph a.unresolved.name e.1 e.2.0 ≡ None → ⊥) where
  abbrev named_ids : List ℕ
  named_ids = flat_map (λ (d : PackageName × List ForeignItem). flat_map (λ (i : ForeignItem). ids i.1.0) d.1) a.unresolved.foreign_deps

  abbrev is_foreign : ℕ → Bool
  is_foreign id = nat_lt id (length named_ids)

  abbrev is_own : ℕ → Bool
  is_own id = not (is_foreign id) && active id

  abbrev found_id : ℕ → Option ℕ
  found_id = first_among ids look_up a (named_items a.unresolved.foreign_deps)

  abbrev remapped : ℕ → ℕ → Option ℕ
  remapped base id = if active id then (if is_foreign id then found_id id else Some (base + rank is_own id)) else None

  is_there : (id : ℕ) → active id ≡ true → is_foreign id ≡ true → found_id id ≡ None → ⊥
  is_there id on foreign none =
      let one = named_one ids a id (member_of_first named_ids count id firsts (ltb-true id (length named_ids) foreign)) in
      let passes = find-passes (λ (e : NamedItem). list_any (nat_eq id) (ids e.2.1.0)) (named_items a.unresolved.foreign_deps) one.0 one.1 in
      there one.0 id passes.0 passes.1 on (ap (option_and_then (λ (e : NamedItem). look_up a.graph a.unresolved.name e.1 e.2.0)) (sym one.1) ∙ none)

  own_unfound : (id : ℕ) → is_foreign id ≡ false → found_id id ≡ None
  own_unfound id own = by (naming_item ids a.unresolved id) refl
    where
      by : (o : Option NamedItem) → naming_item ids a.unresolved id ≡ o → option_and_then (λ (e : NamedItem). look_up a.graph a.unresolved.name e.1 e.2.0) o ≡ None
      by None is = refl
      by (Some e) is = absurd (false≢true (sym own ∙ lt-ltb id (length named_ids) (first_ids named_ids count id firsts (one_named ids a id e is))))

  -- from one of them on
  assigned_from : (base n k : ℕ) → assigned_ids (base + rank is_own k) (map active (range_with_len k n)) (map found_id (range_with_len k n)) ≡ map (remapped base) (range_with_len k n)
  assigned_from base zero k = refl
  assigned_from base (suc n) k =
      let left = λ (next : ℕ). assigned_ids next (map active (range_with_len (k + 1) n)) (map found_id (range_with_len (k + 1) n)) in
      let here : goes (active k) (found_id k) (base + rank is_own k) ≡ remapped base k = goes_there (active k) (is_foreign k) (found_id k) (base + rank is_own k) (is_there k) (own_unfound k) in
      let next = next_id is_own base k (has_new_id (active k) (found_id k)) (after (has_new_id (active k) (found_id k)) (base + rank is_own k)) (takes_own (active k) (is_foreign k) (found_id k) (is_there k) (own_unfound k)) refl in
      ap (λ (o : Option ℕ). o ∷ left (after (has_new_id (active k) (found_id k)) (base + rank is_own k))) here ∙ ap (λ (l : List (Option ℕ)). remapped base k ∷ l) (ap left next ∙ assigned_from base n (k + 1))

  -- all of them
  assigned : (base first : ℕ) (flags : List Bool) (new_ids new : List (Option ℕ)) → first ≡ base → flags ≡ map active (range_with_len 0 count) → new_ids ≡ map found_id (range_with_len 0 count)
      → new ≡ assigned_ids first flags new_ids → new ≡ map (remapped base) (range_with_len 0 count)
  assigned base first flags new_ids new first_is flags_are places_are new_are =
      let start : first ≡ base + 0 = omega arith in
      new_are ∙ ap (λ (n : ℕ). assigned_ids n flags new_ids) start ∙ ap (λ (l : List Bool). assigned_ids (base + 0) l new_ids) flags_are
      ∙ ap (assigned_ids (base + 0) (map active (range_with_len 0 count))) places_are ∙ assigned_from base count 0

same_length : {X Y : Type 0} (f : ℕ → X) (g : ℕ → Y) (n : ℕ) (xs : List X) (ys : List Y) → xs ≡ map f (range_with_len 0 n) → ys ≡ map g (range_with_len 0 n) → length xs ≡ length ys
same_length f g n xs ys first second = ap length first ∙ length-map-range_with_len f 0 n ∙ sym (ap length second ∙ length-map-range_with_len g 0 n)

module _ (a : Addition) (activity : Activity) (found : Found) (active_is : activity ≡ activity_of a) (found_is : found ≡ found_among a (named_items a.unresolved.foreign_deps)) where
  -- there are as many flags as places
  pub interfaces_agree : length activity.interfaces ≡ length found.interfaces
  interfaces_agree =
      same_length (interface_is_active a.features a.unresolved) (first_among interface_id find_interface a (named_items a.unresolved.foreign_deps)) (length a.unresolved.interfaces) activity.interfaces found.interfaces
      (ap (λ (x : Activity). x.interfaces) active_is) (ap (λ (x : Found). x.interfaces) found_is)

  pub worlds_agree : length activity.worlds ≡ length found.worlds
  worlds_agree =
      same_length (world_is_active a.features a.unresolved) (first_among world_id find_world a (named_items a.unresolved.foreign_deps)) (length a.unresolved.worlds) activity.worlds found.worlds
      (ap (λ (x : Activity). x.worlds) active_is) (ap (λ (x : Found). x.worlds) found_is)

  -- what the interfaces, and the worlds, are remapped to
  module _ (shaped : IsShaped a.unresolved) (there : AreThere a (named_items a.unresolved.foreign_deps)) (first : ℕ) (new : List (Option ℕ)) where
    pub interfaces_assigned : first ≡ length a.graph.interfaces → new ≡ assigned_ids first activity.interfaces found.interfaces → new ≡ map (active_interface_id a) (range_with_len 0 (length a.unresolved.interfaces))
    interfaces_assigned first_is new_are =
        assigned a interface_id find_interface (interface_is_active a.features a.unresolved) (length a.unresolved.interfaces) shaped.foreign.interfaces
        (λ e i has names on none.
        let is = interface_of i e.2.1.0 names in
        there e has (ap (named_is_active a) is ∙ on) (ap (item_in a.graph (find_package a.graph a.unresolved.name e.1) e.2.0) is ∙ none))
        (length a.graph.interfaces) first activity.interfaces found.interfaces new first_is (ap (λ (x : Activity). x.interfaces) active_is) (ap (λ (x : Found). x.interfaces) found_is) new_are

    pub worlds_assigned : first ≡ length a.graph.worlds → new ≡ assigned_ids first activity.worlds found.worlds → new ≡ map (active_world_id a) (range_with_len 0 (length a.unresolved.worlds))
    worlds_assigned first_is new_are =
        assigned a world_id find_world (world_is_active a.features a.unresolved) (length a.unresolved.worlds) shaped.foreign.worlds
        (λ e w has names on none.
        let is = world_of w e.2.1.0 names in
        there e has (ap (named_is_active a) is ∙ on) (ap (item_in a.graph (find_package a.graph a.unresolved.name e.1) e.2.0) is ∙ none))
        (length a.graph.worlds) first activity.worlds found.worlds new first_is (ap (λ (x : Activity). x.worlds) active_is) (ap (λ (x : Found). x.worlds) found_is) new_are

-- ---- types

type_remapped : (active foreign : Bool) (found : Option ℕ) (next : ℕ) → (active ≡ true → foreign ≡ true → ⊥) → goes active None next ≡ (if active then (if foreign then found else Some next) else None)
type_remapped false foreign found next own = refl
type_remapped true true found next own = absurd (own refl refl)
type_remapped true false found next own = refl

-- a type of another package that is active goes where it is found
pub foreign_type_remapped : (a : Addition) (t : ℕ) → type_is_active a.features a.unresolved.types t ≡ true → is_foreign_type a.unresolved t ≡ true → foreign_type_id a.graph a.unresolved t ≡ active_type_id a t
foreign_type_remapped a t active foreign =
    sym (ap (λ (b : Bool). if b then (if is_foreign_type a.unresolved t then foreign_type_id a.graph a.unresolved t else Some (length a.graph.types + rank (own_type a) t)) else None) active
    ∙ ap (λ (b : Bool). if b then foreign_type_id a.graph a.unresolved t else Some (length a.graph.types + rank (own_type a) t)) foreign)

-- any other type isn't remapped, or to the next id
pub own_type_step : (a : Addition) (t : ℕ) (active : Bool) (next new : ℕ) (place : Option ℕ) → active ≡ type_is_active a.features a.unresolved.types t
    → (type_is_active a.features a.unresolved.types t ≡ true → is_foreign_type a.unresolved t ≡ true → ⊥) → next ≡ length a.graph.types + rank (own_type a) t → place ≡ goes active None next → new ≡ after (has_new_id active None) next
    → (place ≡ active_type_id a t) × (new ≡ length a.graph.types + rank (own_type a) (t + 1))
own_type_step a t active next new place active_is own next_is place_is new_is = (
  place_is ∙ ap (λ (b : Bool). goes b None next) active_is ∙ ap (goes (type_is_active a.features a.unresolved.types t) None) next_is
      ∙ type_remapped (type_is_active a.features a.unresolved.types t) (is_foreign_type a.unresolved t) (foreign_type_id a.graph a.unresolved t) (length a.graph.types + rank (own_type a) t) own,
  next_id (own_type a) (length a.graph.types) t (has_new_id active None) new (ap (λ (b : Bool). has_new_id b None) active_is ∙ takes_own (type_is_active a.features a.unresolved.types t) (is_foreign_type a.unresolved t) None (λ on foreign none. own on foreign) (λ not_foreign. refl))
      (new_is ∙ ap (after (has_new_id active None)) next_is),
)
