-- The functions that are active are those that are listed.
use Rattle.std.proofs.Common.{◌≡◌, ◌∙◌, inl, inr, ℕ, ◌<◌, Bool, true, false, List, [], ◌∷◌, ◌++◌, length, Option, Some, slice_get, refl, sym, ap, subst, Contains, if◌then◌else◌}
use Rattle.std.specs.List.{flat_map, range_with_len}
use Rattle.std.specs.Option.{option_map_or}
use Rattle.std.proofs.lemmas.Bool.{cases_Bool}
use Rattle.std.proofs.lemmas.List.Elements.{Contains-append_cases, Contains-append_left, Contains-append_right}
use Rattle.std.proofs.lemmas.Option.{slice_get_within}
use Rattle.wit_digraph.specs.facts.MemberFacts.{Contains-cons_cases, Contains-flat_map, Contains-flat_map_cases, Contains-here, Contains-nil}
use Rattle.wit_data.specs.Entries.{Entry}
use Rattle.wit_data.specs.declared.function.Function.{Function}
use Rattle.wit_data.specs.declared.interface.Interface.{Interface}
use Rattle.wit_data.specs.declared.world.World.{World}
use Rattle.wit_data.specs.declared.world.WorldItem.{WorldItem}
use Rattle.wit_data.specs.declared.world.WorldKey.{WorldKey}
use Rattle.wit_data.specs.declared.world.WorldItem.TheVariants as item
use Rattle.wit_graph_data.specs.declared.features.Features.{Features}
use Rattle.wit_graph_theory.specs.facts.ListFacts.{get_at}
use Rattle.wit_link_spec.specs.Addition.{Addition}
use Rattle.wit_link_spec.specs.Gates.{interface_is_active, world_is_active}
use Rattle.wit_link_spec.specs.facts.RangeFacts.{in_range, range_below}
use Rattle.wit_link_spec.specs.Reasons.{IsActiveFunction, of_interface, of_world}
use Rattle.wit_link_resources.specs.steps.Active.{active_entries, active_functions, active_item, active_named, active_one, interface_functions, world_functions}
use Rattle.wit_link_spec.specs.steps.Parts.{function_is_active}

one_in : (features : Features) (f : Function) → function_is_active features f ≡ true → Contains (active_one features f) f
one_in features f takes = subst (λ (b : Bool). Contains (if b then f ∷ [] else []) f) (sym takes) (Contains-here f [])

one_back : (features : Features) (f g : Function) → Contains (active_one features f) g → (f ≡ g) × (function_is_active features f ≡ true)
one_back features f g has = by (function_is_active features f) has
  where
    by : (b : Bool) → Contains (if b then f ∷ [] else []) g → (f ≡ g) × (b ≡ true)
    by true has = elim (Contains-cons_cases f g [] has) [ inl same ↦ (same, refl) | inr none ↦ absurd (Contains-nil none) ]
    by false has = absurd (Contains-nil has)

item_back : (features : Features) (held : WorldItem) (g : Function) → Contains (active_item features held) g → (held ≡ item.Function g) × (function_is_active features g ≡ true)
item_back features (item.Function f) g has =
    let one = one_back features f g has in
    (ap item.Function one.0, subst (λ (x : Function). function_is_active features x ≡ true) one.0 one.1)
item_back features (item.Interface i stability docs span external_id) g has = absurd (Contains-nil has)
item_back features (item.Type_ t span) g has = absurd (Contains-nil has)

module _ (a : Addition) where
  -- the functions of an interface
  pub interface_on : (i : ℕ) (interface : Interface) → slice_get a.unresolved.interfaces i ≡ Some interface → interface_is_active a.features a.unresolved i ≡ true
      → interface_functions a i ≡ active_named a.features interface.functions
  interface_on i interface at on =
      ap (λ (b : Bool). if b then option_map_or (λ (x : Interface). active_named a.features x.functions) (slice_get a.unresolved.interfaces i) [] else []) on
      ∙ ap (λ (o : Option Interface). option_map_or (λ (x : Interface). active_named a.features x.functions) o []) at

  pub interface_off : (i : ℕ) → interface_is_active a.features a.unresolved i ≡ false → interface_functions a i ≡ []
  interface_off i off = ap (λ (b : Bool). if b then option_map_or (λ (x : Interface). active_named a.features x.functions) (slice_get a.unresolved.interfaces i) [] else []) off

  -- those of a world
  pub world_on : (w : ℕ) (world : World) → slice_get a.unresolved.worlds w ≡ Some world → world_is_active a.features a.unresolved w ≡ true
      → world_functions a w ≡ active_entries a.features world.imports ++ active_entries a.features world.exports
  world_on w world at on =
      ap (λ (b : Bool). if b then option_map_or (λ (x : World). active_entries a.features x.imports ++ active_entries a.features x.exports) (slice_get a.unresolved.worlds w) [] else []) on
      ∙ ap (λ (o : Option World). option_map_or (λ (x : World). active_entries a.features x.imports ++ active_entries a.features x.exports) o []) at

  pub world_off : (w : ℕ) → world_is_active a.features a.unresolved w ≡ false → world_functions a w ≡ []
  world_off w off =
      ap (λ (b : Bool). if b then option_map_or (λ (x : World). active_entries a.features x.imports ++ active_entries a.features x.exports) (slice_get a.unresolved.worlds w) [] else []) off

  -- ---- each that is active is listed

  entries_in : (entries : List Entry) (k : WorldKey) (f : Function) → Contains entries (k, item.Function f) → function_is_active a.features f ≡ true → Contains (active_entries a.features entries) f
  entries_in entries k f has takes = Contains-flat_map (λ (e : Entry). active_item a.features e.1) entries (k, item.Function f) f has (one_in a.features f takes)

  pub active_in : (f : Function) → IsActiveFunction a f → Contains (active_functions a) f
  active_in g (of_interface i interface name f at on has takes) =
      let all = flat_map (interface_functions a) (range_with_len 0 (length a.unresolved.interfaces)) in
      Contains-append_left all (flat_map (world_functions a) (range_with_len 0 (length a.unresolved.worlds))) f
      (Contains-flat_map (interface_functions a) (range_with_len 0 (length a.unresolved.interfaces)) i f (in_range (length a.unresolved.interfaces) i (slice_get_within a.unresolved.interfaces i interface at))
      (subst (λ (fs : List Function). Contains fs f) (sym (interface_on i interface at on))
      (Contains-flat_map (λ (e : List ℕ × Function). active_one a.features e.1) interface.functions (name, f) f has (one_in a.features f takes))))
  active_in g (of_world w world k f at on has takes) =
      let all = flat_map (interface_functions a) (range_with_len 0 (length a.unresolved.interfaces)) in
      Contains-append_right all (flat_map (world_functions a) (range_with_len 0 (length a.unresolved.worlds))) f
      (Contains-flat_map (world_functions a) (range_with_len 0 (length a.unresolved.worlds)) w f (in_range (length a.unresolved.worlds) w (slice_get_within a.unresolved.worlds w world at))
      (subst (λ (fs : List Function). Contains fs f) (sym (world_on w world at on))
      (elim has [
        | inl import ↦ Contains-append_left (active_entries a.features world.imports) (active_entries a.features world.exports) f (entries_in world.imports k f import takes)
        | inr export ↦ Contains-append_right (active_entries a.features world.imports) (active_entries a.features world.exports) f (entries_in world.exports k f export takes)
      ])))

  -- ---- and nothing else

  interface_back : (i : ℕ) (f : Function) → i < length a.unresolved.interfaces → Contains (interface_functions a i) f → IsActiveFunction a f
  interface_back i f below has = elim (cases_Bool (interface_is_active a.features a.unresolved i)) [
    | inl on ↦
        let at = get_at a.unresolved.interfaces i below in
        let from = Contains-flat_map_cases (λ (e : List ℕ × Function). active_one a.features e.1) at.0.functions f (subst (λ (fs : List Function). Contains fs f) (interface_on i at.0 at.1 on) has) in
        let one = one_back a.features from.0.1 f from.1.1 in
        of_interface i at.0 from.0.0 f at.1 on (subst (λ (x : Function). Contains at.0.functions (from.0.0, x)) one.0 from.1.0) (subst (λ (x : Function). function_is_active a.features x ≡ true) one.0 one.1)
    | inr off ↦ absurd (Contains-nil (subst (λ (fs : List Function). Contains fs f) (interface_off i off) has))
  ]

  entries_back : (entries : List Entry) (f : Function) → Contains (active_entries a.features entries) f → (k : WorldKey) × Contains entries (k, item.Function f) × (function_is_active a.features f ≡ true)
  entries_back entries f has =
      let from = Contains-flat_map_cases (λ (e : Entry). active_item a.features e.1) entries f has in
      let one = item_back a.features from.0.1 f from.1.1 in
      (from.0.0, subst (λ (held : WorldItem). Contains entries (from.0.0, held)) one.0 from.1.0, one.1)

  world_back : (w : ℕ) (f : Function) → w < length a.unresolved.worlds → Contains (world_functions a w) f → IsActiveFunction a f
  world_back w f below has = elim (cases_Bool (world_is_active a.features a.unresolved w)) [
    | inl on ↦
        let at = get_at a.unresolved.worlds w below in
        elim (Contains-append_cases (active_entries a.features at.0.imports) (active_entries a.features at.0.exports) f (subst (λ (fs : List Function). Contains fs f) (world_on w at.0 at.1 on) has)) [
          | inl import ↦ let from = entries_back at.0.imports f import in of_world w at.0 from.0 f at.1 on (inl from.1) from.2
          | inr export ↦ let from = entries_back at.0.exports f export in of_world w at.0 from.0 f at.1 on (inr from.1) from.2
        ]
    | inr off ↦ absurd (Contains-nil (subst (λ (fs : List Function). Contains fs f) (world_off w off) has))
  ]

  pub active_back : (f : Function) → Contains (active_functions a) f → IsActiveFunction a f
  active_back f has = elim (Contains-append_cases (flat_map (interface_functions a) (range_with_len 0 (length a.unresolved.interfaces))) (flat_map (world_functions a) (range_with_len 0 (length a.unresolved.worlds))) f has) [
    | inl first ↦
        let from = Contains-flat_map_cases (interface_functions a) (range_with_len 0 (length a.unresolved.interfaces)) f first in
        interface_back from.0 f (range_below (length a.unresolved.interfaces) from.0 from.1.0) from.1.1
    | inr second ↦
        let from = Contains-flat_map_cases (world_functions a) (range_with_len 0 (length a.unresolved.worlds)) f second in
        world_back from.0 f (range_below (length a.unresolved.worlds) from.0 from.1.0) from.1.1
  ]
