-- One more item that is found.
use Rattle.std.proofs.Common.{◌≡◌, ◌∙◌, ◌<◌, ℕ, true, List, [], ◌∷◌, ◌++◌, inl, inr, map, length, nat_eq, Option, None, slice_set, refl, sym, ap, subst, Contains}
use Rattle.std.specs.List.{IsDistinct, range_with_len}
use Rattle.std.specs.Prelude.{option_and_then, flat_map}
use Rattle.std.proofs.lemmas.List.Elements.{Contains-append_cases}
use Rattle.wit_digraph.specs.facts.MemberFacts.{Contains-cons_cases, Contains-nil}
use Rattle.wit_data.specs.Foreign.{ForeignItem, interface_id, world_id}
use Rattle.wit_data.specs.Shape.{IsShaped}
use Rattle.wit_data.specs.declared.unresolved.AstItem.{AstItem}
use Rattle.wit_names.specs.declared.package_name.PackageName.{PackageName}
use Rattle.wit_data.specs.declared.unresolved.AstItem.TheVariants as item
use Rattle.wit_link_spec.specs.Addition.{Addition}
use Rattle.wit_link_spec.specs.Lookup.{find_interface, find_package, find_world, named_items}
use Rattle.wit_link_spec.specs.facts.RangeFacts.{range-same, range-set}
use Rattle.wit_link_lookup.specs.steps.ForeignItems.{AreThere, Lookup, NamedItem, first_among, found_among, found_item, item_in, named_is_active, with_item}
use Rattle.wit_link_lookup.proofs.PackageItems.{IsItemOf}
use Rattle.wit_link_lookup.specs.declared.foreign.Found.{Found}
use Rattle.wit_link_lookup.proofs.Firsts.{first_as_before, first_at_end, none_before}
use Rattle.wit_link_lookup.proofs.NamedItems.{ids_named}

other_one : (i j : ℕ) → (j ≡ i → ⊥) → Contains (i ∷ []) j → ⊥
other_one i j other has = elim (Contains-cons_cases i j [] has) [ inl same ↦ other (sym same) | inr none ↦ Contains-nil none ]

-- what is found is told by its two lists
pub found_from : (a : Addition) (named : List NamedItem) (new : Found) → new.interfaces ≡ (found_among a named).interfaces → new.worlds ≡ (found_among a named).worlds → new ≡ found_among a named
found_from a named new interfaces worlds =
    ap (λ (l : List (Option ℕ)). let r : Found = record { interfaces = l; worlds = new.worlds } in r) interfaces
    ∙ ap (λ (l : List (Option ℕ)). let r : Found = record { interfaces = (found_among a named).interfaces; worlds = l } in r) worlds

-- one more item, of one sort
module _ (ids : AstItem → List ℕ) (look_up : Lookup) (a : Addition) (before : List NamedItem) (x : NamedItem) where
  abbrev place : NamedItem → Option ℕ
  place e = look_up a.graph a.unresolved.name e.1 e.2.0

  abbrev old : ℕ → Option ℕ
  old = first_among ids look_up a before

  abbrev new : ℕ → Option ℕ
  new = first_among ids look_up a (before ++ x ∷ [])

  -- it hides nothing that it doesn't name
  as_before : (j : ℕ) → (Contains (ids x.2.1.0) j → ⊥) → old j ≡ new j
  as_before j other = ap (option_and_then place) (sym (first_as_before (λ (e : NamedItem). ids e.2.1.0) before x j other))

  -- where it is of another sort, all is as before
  all_as_before : (count : ℕ) → ids x.2.1.0 ≡ [] → map old (range_with_len 0 count) ≡ map new (range_with_len 0 count)
  all_as_before count none = range-same old new count (λ j. as_before j (λ has. Contains-nil (subst (λ (l : List ℕ). Contains l j) none has)))

  -- what it names was named by none before it, and is where the item is
  one_set : (rest : List NamedItem) (count id : ℕ) → IsDistinct nat_eq (flat_map (λ (d : PackageName × List ForeignItem). flat_map (λ (i : ForeignItem). ids i.1.0) d.1) a.unresolved.foreign_deps)
      → named_items a.unresolved.foreign_deps ≡ before ++ x ∷ rest → ids x.2.1.0 ≡ id ∷ [] → id < count → slice_set (map old (range_with_len 0 count)) id (place x) ≡ map new (range_with_len 0 count)
  one_set rest count id once whole is below =
      let fresh = none_before (λ (e : NamedItem). ids e.2.1.0) before rest x id (subst (IsDistinct nat_eq) (sym (ids_named ids a.unresolved.foreign_deps) ∙ ap (flat_map (λ (e : NamedItem). ids e.2.1.0)) whole) once) is in
      let here : place x ≡ new id = ap (option_and_then place) (sym (first_at_end (λ (e : NamedItem). ids e.2.1.0) before x id fresh is)) in
      range-set old new count id (place x) below (λ j other. as_before j (λ has. other_one id j other (subst (λ (l : List ℕ). Contains l j) is has))) here

-- what is found with one more item
pub item-found : (a : Addition) → IsShaped a.unresolved → (before rest : List NamedItem) (x : NamedItem) → named_items a.unresolved.foreign_deps ≡ before ++ x ∷ rest → IsItemOf a.unresolved x.2.1.0
    → with_item (found_among a before) x.2.1.0 (found_item a x) ≡ found_among a (before ++ x ∷ [])
item-found a shaped before rest x whole inside = by x.2.1.0 refl inside
  where
    by : (it : AstItem) → x.2.1.0 ≡ it → IsItemOf a.unresolved it
        → with_item (found_among a before) it (item_in a.graph (find_package a.graph a.unresolved.name x.1) x.2.0 it) ≡ found_among a (before ++ x ∷ [])
    by (item.Interface i) is below =
        found_from a (before ++ x ∷ []) (with_item (found_among a before) (item.Interface i) (find_interface a.graph a.unresolved.name x.1 x.2.0))
        (one_set interface_id find_interface a before x rest (length a.unresolved.interfaces) i shaped.foreign.interfaces.once whole (ap interface_id is) below)
        (all_as_before world_id find_world a before x (length a.unresolved.worlds) (ap world_id is))
    by (item.World w) is below =
        found_from a (before ++ x ∷ []) (with_item (found_among a before) (item.World w) (find_world a.graph a.unresolved.name x.1 x.2.0))
        (all_as_before interface_id find_interface a before x (length a.unresolved.interfaces) (ap interface_id is))
        (one_set world_id find_world a before x rest (length a.unresolved.worlds) w shaped.foreign.worlds.once whole (ap world_id is) below)

-- none is missing with one more item, if that isn't
pub item-there : (a : Addition) (before : List NamedItem) (x : NamedItem) → AreThere a before → (named_is_active a x.2.1.0 ≡ true → found_item a x ≡ None → ⊥) → AreThere a (before ++ x ∷ [])
item-there a before x there here = λ e has active none. elim (Contains-append_cases before (x ∷ []) e has) [
  | inl earlier ↦ there e earlier active none
  | inr last ↦ elim (Contains-cons_cases x e [] last) [
    | inl same ↦ here (ap (λ (n : NamedItem). named_is_active a n.2.1.0) same ∙ active) (ap (found_item a) same ∙ none)
    | inr nothing ↦ Contains-nil nothing
  ]
]
