-- What goes to a new id is what is the package's own and is active.
use Rattle.std.proofs.Common.{◌≡◌, ◌∙◌, ℕ, zero, suc, ◌+◌, ◌<◌, ◌≤◌, ◌&&◌, Bool, true, false, not, inl, inr, List, [], ◌∷◌, map, length, Option, None, Some, option_and_then, slice_get, refl, sym, ap, arith, if◌then◌else◌}
use Rattle.std.specs.Prelude.{nat_le, bytes_eq}
use Rattle.std.specs.List.{range_with_len}
use Rattle.std.specs.Map.{lookup}
use Rattle.std.specs.Option.{option_map_or}
use Rattle.std.proofs.lemmas.Bool.{and_right, cases_lt, false_from_ne_true, le-leb, leb-true, ltb-true}
use Rattle.std.proofs.lemmas.Map.Views.{Contains-from_lookup}
use Rattle.std.proofs.lemmas.Option.{slice_get_within}
use Rattle.std.proofs.lemmas.Slice.Eq.{bytes_eq-Decides}
use Rattle.wit_data.specs.Foreign.{ForeignItem, foreign_worlds, interface_id, world_id}
use Rattle.wit_data.specs.Shape.{IsShaped}
use Rattle.wit_data.specs.declared.interface.Interface.{Interface}
use Rattle.wit_names.specs.declared.package_name.PackageName.{PackageName}
use Rattle.wit_data.specs.declared.types.TypeDef.{TypeDef}
use Rattle.wit_data.specs.declared.world.World.{World}
use Rattle.wit_data.specs.declared.types.TypeOwner.TheVariants as owner
use Rattle.wit_elaboration.specs.Valid.{IsValid}
use Rattle.wit_graph_data.specs.declared.graph.Package.{Package}
use Rattle.wit_graph_theory.specs.facts.ListFacts.{found_at, place_of}
use Rattle.wit_link_spec.specs.steps.AdditionRefs.{new_ids_of}
use Rattle.wit_link_spec.specs.Addition.{Addition, own_interface, own_type, own_world}
use Rattle.wit_remap_spec.specs.Selected.{rank}
use Rattle.wit_link_spec.specs.facts.ClosedCut.{closed_part}
use Rattle.wit_link_spec.specs.Gates.{foreign_gates, interface_is_active, is_active, is_foreign_interface, is_foreign_world, type_is_active, world_is_active}
use Rattle.wit_link_spec.specs.Lookup.{find_interface, find_package, find_world, foreign_interface_id, foreign_type_id, foreign_world_id, is_foreign_type, naming_item, owning_interface}
use Rattle.wit_graph_data.specs.Named.{interface_type}
use Rattle.wit_link_spec.specs.facts.RangeFacts.{range-at, range-past}
use Rattle.wit_link_spec.specs.Reasons.{IsResolved}
use Rattle.wit_link_spec.specs.facts.Standing.{find_is, listed_is}
use Rattle.wit_link_spec.specs.steps.NewThings.{is_from, is_new}
use Rattle.wit_link_spec.specs.steps.Parts.{some_active, active_type_id, active_interface_id, active_world_id}

-- ---- what is found is in the graph

and_then : {X Y : Type 0} (o : Option X) (f : X → Option Y) (y : Y) → option_and_then f o ≡ Some y → (x : X) × (o ≡ Some x) × (f x ≡ Some y)
and_then None f y h = cc
and_then (Some x) f y h = (x, refl, h)

module _ (a : Addition) (valid : IsValid a.graph) where
  pub foreign_type_id-below : (t n : ℕ) → foreign_type_id a.graph a.unresolved t ≡ Some n → n < length a.graph.types
  foreign_type_id-below t n found =
      let def = and_then (slice_get a.unresolved.types t) (λ (def : TypeDef). option_and_then (λ (name : List ℕ). option_and_then (λ (i : ℕ). option_and_then (interface_type a.graph name) (foreign_interface_id a.graph a.unresolved i)) (owning_interface def.owner)) def.name) n found in
      let name = and_then def.0.name (λ (name : List ℕ). option_and_then (λ (i : ℕ). option_and_then (interface_type a.graph name) (foreign_interface_id a.graph a.unresolved i)) (owning_interface def.0.owner)) n def.2 in
      let i = and_then (owning_interface def.0.owner) (λ (i : ℕ). option_and_then (interface_type a.graph name.0) (foreign_interface_id a.graph a.unresolved i)) n name.2 in
      let there = and_then (foreign_interface_id a.graph a.unresolved i.0) (interface_type a.graph name.0) n i.2 in
      let is = found_at (λ (def : TypeDef). (def.name ≡ Some name.0) × (def.owner ≡ owner.Interface there.0)) a.graph.types n (listed_is a.graph valid name.0 there.0 n there.2) in
      slice_get_within a.graph.types n is.0 is.1

  foreign_interface_id-below : (i n : ℕ) → foreign_interface_id a.graph a.unresolved i ≡ Some n → n < length a.graph.interfaces
  foreign_interface_id-below i n found =
      let e = and_then (naming_item interface_id a.unresolved i) (λ (e : ℕ × PackageName × ForeignItem). find_interface a.graph a.unresolved.name e.1 e.2.0) n found in
      let is = found_at (λ (interface : Interface). interface.name ≡ Some e.0.2.0) a.graph.interfaces n (find_is a.graph valid a.unresolved.name e.0.1 e.0.2.0 n e.2) in
      slice_get_within a.graph.interfaces n is.0 is.1

  foreign_world_id-below : (w n : ℕ) → foreign_world_id a.graph a.unresolved w ≡ Some n → n < length a.graph.worlds
  foreign_world_id-below w n found =
      let e = and_then (naming_item world_id a.unresolved w) (λ (e : ℕ × PackageName × ForeignItem). find_world a.graph a.unresolved.name e.1 e.2.0) n found in
      let p = and_then (find_package a.graph a.unresolved.name e.0.1) (λ (p : ℕ). option_and_then (λ (there : Package). lookup (bytes_eq e.0.2.0) there.worlds) (slice_get a.graph.packages p)) n e.2 in
      let home = and_then (slice_get a.graph.packages p.0) (λ (there : Package). lookup (bytes_eq e.0.2.0) there.worlds) n p.2 in
      let has = Contains-from_lookup (λ x y. (bytes_eq-Decides x y).0) e.0.2.0 n home.0.worlds home.2 in
      let place = place_of home.0.worlds (e.0.2.0, n) has in
      let is = found_at (λ (world : World). (world.name ≡ e.0.2.0) × (world.package ≡ Some p.0)) a.graph.worlds n (valid.well_formed.tables.world_tables p.0 home.0 home.1 place.0 (e.0.2.0, n) place.1) in
      slice_get_within a.graph.worlds n is.0 is.1

-- ---- nothing is active past the ends of the package's lists

past_end : {X : Type 0} (xs : List X) (i : ℕ) → length xs ≤ i → slice_get xs i ≡ None
past_end [] i past = refl
past_end (x ∷ xs) zero past = absurd (omega arith)
past_end (x ∷ xs) (suc i) past = past_end xs i (omega arith)

module _ (a : Addition) (shaped : IsShaped a.unresolved) (image : IsResolved a) where
  pub type_past : (t : ℕ) → length a.unresolved.types ≤ t → type_is_active a.features a.unresolved.types t ≡ false
  type_past t past = ap (λ (o : Option TypeDef). option_map_or (λ (def : TypeDef). is_active a.features def.stability) o false) (past_end a.unresolved.types t past)

  pub interface_past : (i : ℕ) → length a.unresolved.interfaces ≤ i → interface_is_active a.features a.unresolved i ≡ false
  interface_past i past = false_from_ne_true (interface_is_active a.features a.unresolved i) (λ on. let below = (closed_part a shaped image).interfaces_in_range i on in absurd (omega arith))

  pub world_past : (w : ℕ) → length a.unresolved.worlds ≤ w → world_is_active a.features a.unresolved w ≡ false
  world_past w past =
      let own : is_foreign_world a.unresolved w ≡ false = false_from_ne_true (is_foreign_world a.unresolved w) (λ foreign.
      let below = ltb-true w (length (foreign_worlds a.unresolved.foreign_deps)) foreign in
      let there = shaped.foreign.worlds.there in absurd (omega arith)) in
      ap (λ (b : Bool). some_active a.features (if b then foreign_gates world_id a.unresolved.foreign_deps w else option_map_or (λ (world : World). world.stability ∷ []) (slice_get a.unresolved.worlds w) [])) own
      ∙ ap (λ (o : Option World). some_active a.features (option_map_or (λ (world : World). world.stability ∷ []) o [])) (past_end a.unresolved.worlds w past)

-- ---- new ids

-- what goes to a new id
pub new-is : (f : ℕ → Option ℕ) (own : ℕ → Bool) (first n : ℕ) → ((i : ℕ) → n ≤ i → own i ≡ false) → ((i : ℕ) → is_from first (Some (f i)) ≡ own i)
    → is_new first (map f (range_with_len 0 n)) ≡ own
new-is f own first n none same = λ j i. each i j
  where
    each : (i : ℕ) → is_new first (map f (range_with_len 0 n)) i ≡ own i
    each i = elim (cases_lt i n) [
      | inl below ↦ ap (is_from first) (range-at f n i below) ∙ same i
      | inr past ↦ ap (is_from first) (range-past f n i (omega arith)) ∙ sym (none i (omega arith))
    ]

pub nothing_below : (first id : ℕ) → id < first → nat_le first id ≡ false
nothing_below first id below = false_from_ne_true (nat_le first id) (λ h. let le = leb-true first id h in absurd (omega arith))

-- an id from the first one on is that of what is its own and is active
new_or_found : (active foreign : Bool) (found : Option ℕ) (first next : ℕ) → ((n : ℕ) → found ≡ Some n → n < first) → first ≤ next
    → is_from first (Some (if active then (if foreign then found else Some next) else None)) ≡ not foreign && active
new_or_found true true None first next low high = refl
new_or_found true true (Some n) first next low high = nothing_below first n (low n refl)
new_or_found true false found first next low high = le-leb first next high
new_or_found false true found first next low high = refl
new_or_found false false found first next low high = refl

module _ (a : Addition) (valid : IsValid a.graph) (shaped : IsShaped a.unresolved) (image : IsResolved a) where
  pub new_types : is_new (length a.graph.types) (new_ids_of a).types ≡ own_type a
  new_types = new-is (active_type_id a) (own_type a) (length a.graph.types) (length a.unresolved.types)
      (λ t past. and_right (not (is_foreign_type a.unresolved t)) (type_is_active a.features a.unresolved.types t) (type_past a shaped image t past))
      (λ t. new_or_found (type_is_active a.features a.unresolved.types t) (is_foreign_type a.unresolved t) (foreign_type_id a.graph a.unresolved t) (length a.graph.types) (length a.graph.types + rank (own_type a) t) (foreign_type_id-below a valid t) (omega arith))

  pub new_interfaces : is_new (length a.graph.interfaces) (new_ids_of a).interfaces ≡ own_interface a
  new_interfaces = new-is (active_interface_id a) (own_interface a) (length a.graph.interfaces) (length a.unresolved.interfaces)
      (λ i past. and_right (not (is_foreign_interface a.unresolved i)) (interface_is_active a.features a.unresolved i) (interface_past a shaped image i past))
      (λ i. new_or_found (interface_is_active a.features a.unresolved i) (is_foreign_interface a.unresolved i) (foreign_interface_id a.graph a.unresolved i) (length a.graph.interfaces) (length a.graph.interfaces + rank (own_interface a) i) (foreign_interface_id-below a valid i) (omega arith))

  pub new_worlds : is_new (length a.graph.worlds) (new_ids_of a).worlds ≡ own_world a
  new_worlds = new-is (active_world_id a) (own_world a) (length a.graph.worlds) (length a.unresolved.worlds)
      (λ w past. and_right (not (is_foreign_world a.unresolved w)) (world_is_active a.features a.unresolved w) (world_past a shaped image w past))
      (λ w. new_or_found (world_is_active a.features a.unresolved w) (is_foreign_world a.unresolved w) (foreign_world_id a.graph a.unresolved w) (length a.graph.worlds) (length a.graph.worlds + rank (own_world a) w) (foreign_world_id-below a valid w) (omega arith))
