-- What a value position of the package names is active, so that the `own`s that are made are of active types.
use Rattle.std.proofs.Common.{◌≡◌, ℕ, ◌&&◌, Bool, true, false, List, [], ◌++◌, inl, inr, map, nat_eq, refl, sym, subst, Contains}
use Rattle.std.specs.List.{flat_map, list_any}
use Rattle.std.specs.Option.{option_to_list}
use Rattle.std.proofs.lemmas.List.Elements.{Contains-append_cases, Contains-append_right}
use Rattle.wit_digraph.specs.facts.MemberFacts.{Contains-cons_cases, Contains-flat_map_cases, Contains-nil}
use Rattle.wit_digraph.specs.facts.FreshFacts.{contains_from_any}
use Rattle.wit_data.specs.Each.{Each}
use Rattle.wit_data.specs.Entries.{Entry}
use Rattle.wit_data.specs.Function.{resource_of}
use Rattle.wit_data.specs.Kind.{function_references, referred, signature_types}
use Rattle.wit_data.specs.facts.ReferenceFacts.{in_referred}
use Rattle.wit_data.specs.Shape.{IsShaped}
use Rattle.wit_data.specs.declared.function.Function.{Function}
use Rattle.wit_data.specs.declared.interface.Interface.{Interface}
use Rattle.wit_data.specs.declared.types.TypeDef.{TypeDef}
use Rattle.wit_data.specs.declared.world.World.{World}
use Rattle.wit_data.specs.declared.world.WorldItem.{WorldItem}
use Rattle.wit_data.specs.declared.world.WorldItem.TheVariants as item
use Rattle.wit_elaboration.specs.facts.Filters.{Contains-filter}
use Rattle.wit_graph_theory.specs.Cut.{ItemIsKept}
use Rattle.wit_graph_theory.specs.facts.ListFacts.{Contains-map_cases, place_of}
use Rattle.wit_link_spec.specs.Addition.{Addition, own_functions, own_interfaces, own_worlds, remap_of_addition, remapped_type}
use Rattle.wit_link_spec.specs.facts.ActivePart.{part}
use Rattle.wit_link_spec.specs.facts.ClosedCut.{closed_part, references_kept}
use Rattle.wit_link_spec.specs.Gates.{type_is_active}
use Rattle.wit_link_spec.specs.facts.OwnThingFacts.{own_interface_from, own_type_from, own_world_from}
use Rattle.wit_link_spec.specs.Reasons.{IsResolved}
use Rattle.wit_remap_spec.specs.Resources.{is_value, leads_to_resource}
use Rattle.wit_remap_spec.specs.ValueRemap.{ValueRemap, item_function, needs_own, positions, world_functions}
use Rattle.wit_remap_spec.specs.steps.Parts.{value_positions, types_without_owns}
use Rattle.wit_link_spec.specs.steps.Parts.{own_types}

-- a value position of a function is a reference of it
signature_referred : (f : Function) (t : ℕ) → Contains (signature_types f) t → Contains (function_references f) t
signature_referred f t has = Contains-append_right (option_to_list (resource_of f.kind)) (signature_types f) t has

module _ (a : Addition) (shaped : IsShaped a.unresolved) (image : IsResolved a) where
  abbrev IsActive : ℕ → Type 0
  IsActive t = type_is_active a.features a.unresolved.types t ≡ true

  of_each : (ids : List ℕ) (t : ℕ) → Each IsActive ids → Contains ids t → IsActive t
  of_each ids t each has = let place = place_of ids t has in each place.0 t place.1

  type_position : (t : ℕ) → Contains (flat_map (λ (def : TypeDef). value_positions def.kind) (own_types a)) t → IsActive t
  type_position t has =
      let from = Contains-flat_map_cases (λ (def : TypeDef). value_positions def.kind) (own_types a) t has in
      let place = place_of (own_types a) from.0 from.1.0 in
      let own = own_type_from a place.0 from.0 place.1 in
      of_each (referred from.0.kind) t (references_kept a shaped image own.t from.0 own.there own.active) (in_referred is_value from.0.kind t from.1.1)

  item_refers : (held : WorldItem) (f : Function) → ItemIsKept (part a) held → Contains (item_function held) f → Each IsActive (function_references f)
  item_refers (item.Interface i stability docs span external_id) f kept has = absurd (Contains-nil has)
  item_refers (item.Function g) f kept has = elim (Contains-cons_cases g f [] has) [ inl same ↦ subst (λ (h : Function). Each IsActive (function_references h)) same kept | inr none ↦ absurd (Contains-nil none) ]
  item_refers (item.Type_ u span) f kept has = absurd (Contains-nil has)

  -- what a function that is added refers to is active
  function_refers : (f : Function) → Contains (own_functions a) f → Each IsActive (function_references f)
  function_refers f has =
      let of_interfaces = flat_map (λ (interface : Interface). map (λ (e : List ℕ × Function). e.1) interface.functions) (own_interfaces a) in
      let of_worlds = flat_map (λ (e : ℕ × World). world_functions e.1) (own_worlds a) in
      elim (Contains-append_cases of_interfaces of_worlds f has) [
        | inl here ↦
            let from = Contains-flat_map_cases (λ (interface : Interface). map (λ (e : List ℕ × Function). e.1) interface.functions) (own_interfaces a) f here in
            let place = place_of (own_interfaces a) from.0 from.1.0 in
            let own = own_interface_from a place.0 from.0 place.1 in
            let function = Contains-map_cases (λ (e : List ℕ × Function). e.1) from.0.functions f from.1.1 in
            let kept = Contains-filter (λ (e : List ℕ × Function). (part a).functions e.1) own.interface.functions function.0 (subst (λ (x : Interface). Contains x.functions function.0) (sym own.is) function.1) in
            let spot = place_of own.interface.functions function.0 kept.0 in
            subst (λ (g : Function). Each IsActive (function_references g)) function.2 ((closed_part a shaped image).functions own.f own.interface own.there own.active spot.0 function.0 spot.1 kept.1)
        | inr later ↦
            let from = Contains-flat_map_cases (λ (e : ℕ × World). world_functions e.1) (own_worlds a) f later in
            let place = place_of (own_worlds a) from.0 from.1.0 in
            let own = own_world_from a place.0 from.0 place.1 in
            let entry = Contains-flat_map_cases (λ (entry : Entry). item_function entry.1) (from.0.1.imports ++ from.0.1.exports) f from.1.1 in
            item_refers entry.0.1 f (elim (Contains-append_cases from.0.1.imports from.0.1.exports entry.0 entry.1.0) [
              | inl imported ↦
                  let kept = Contains-filter (λ (e : Entry). (part a).items e.1) own.world.imports entry.0 (subst (λ (x : World). Contains x.imports entry.0) (sym own.is) imported) in
                  let spot = place_of own.world.imports entry.0 kept.0 in
                  (closed_part a shaped image).imports from.0.0 own.world own.there own.own spot.0 entry.0 spot.1 kept.1
              | inr exported ↦
                  let kept = Contains-filter (λ (e : Entry). (part a).items e.1) own.world.exports entry.0 (subst (λ (x : World). Contains x.exports entry.0) (sym own.is) exported) in
                  let spot = place_of own.world.exports entry.0 kept.0 in
                  (closed_part a shaped image).exports from.0.0 own.world own.there own.own spot.0 entry.0 spot.1 kept.1
            ]) entry.1.1
      ]

  -- what a value position names is active
  pub position_active : (t : ℕ) → Contains (positions (remap_of_addition a)) t → type_is_active a.features a.unresolved.types t ≡ true
  position_active t has =
      elim (Contains-append_cases (flat_map (λ (def : TypeDef). value_positions def.kind) (own_types a)) (flat_map signature_types (own_functions a)) t has) [
        | inl here ↦ type_position t here
        | inr later ↦
            let from = Contains-flat_map_cases signature_types (own_functions a) t later in
            of_each (function_references from.0) t (function_refers from.0 from.1.0) (signature_referred from.0 t from.1.1)
      ]

  -- so a type that needs an `own` does
  pub needs_active : (t : ℕ) → needs_own (remap_of_addition a) t ≡ true → type_is_active a.features a.unresolved.types t ≡ true
  needs_active t needs =
      let r : ValueRemap = remap_of_addition a in
      position_active t (contains_from_any t (positions r) (first (list_any (nat_eq t) (positions r)) (leads_to_resource (types_without_owns r) (remapped_type a t)) needs))
    where
      first : (b c : Bool) → b && c ≡ true → b ≡ true
      first true c h = refl
      first false c h = cc
