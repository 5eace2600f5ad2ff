-- The imports under labels stay as they were.
use Rattle.std.proofs.Common.{◌≡◌, ◌∙◌, inl, inr, ℕ, Bool, true, not, List, [], ◌∷◌, Option, None, Some, filter, map, slice_get, refl, sym, ap, Contains, nat_eq}
use Rattle.std.proofs.lemmas.Bool.{cases_Bool}
use Rattle.wit_digraph.specs.facts.MemberFacts.{flat_map-same}
use Rattle.wit_data.specs.Each.{SomeAt}
use Rattle.wit_data.specs.Entries.{IsImport}
use Rattle.wit_data.specs.Uses.{alias_target, other_owner, type_interface_dep, uses_of}
use Rattle.wit_names.specs.declared.track.TrackRule.{TrackRule}
use Rattle.wit_data.specs.declared.types.TypeDef.{TypeDef}
use Rattle.wit_data.specs.declared.world.World.{World}
use Rattle.wit_data.specs.declared.world.WorldItem.{WorldItem}
use Rattle.wit_data.specs.declared.world.WorldKey.{WorldKey}
use Rattle.wit_data.specs.declared.types.TypeOwner.TheVariants as owner
use Rattle.wit_data.specs.declared.world.WorldItem.TheVariants as item
use Rattle.wit_data.specs.declared.world.WorldKey.TheVariants as key
use Rattle.wit_elaboration.specs.facts.Filters.{Contains-filter, filter-all, filter-fail, filter-flat_map, filter-pass, filter-same}
use Rattle.wit_elaboration.specs.Entries.{Entry, by_class, elaboration_class, role_of}
use Rattle.wit_elaboration.specs.laws.KeptByElaboration.{is_label, labelled, listed_without_span}
use Rattle.wit_elaboration.specs.facts.SoundFacts.{lists_in_order}
use Rattle.wit_elaboration.specs.Valid.{IsValid}
use Rattle.wit_graph_data.specs.declared.graph.Graph.{Graph}
use Rattle.wit_graph_theory.specs.facts.CutIsGood.{distinct_kept}
use Rattle.wit_graph_theory.specs.facts.DependencyFacts.{needs_from, needs_into}
use Rattle.wit_graph_theory.specs.facts.ListFacts.{found_at, place_of, same_at}
use Rattle.wit_elaboration.specs.AllElaborated.{elaborated_world}
use Rattle.wit_graph_theory.specs.facts.LawsOfElaboration.{LawsOfElaboration}
use Rattle.wit_graph_theory.specs.facts.OptionFacts.{option_cases}
use Rattle.wit_semver.specs.SemverMerged.{kept_imports, types_with_new_targets, with_new_entries_at, SemverMerge, newest, IsComplete}
use Rattle.wit_semver.specs.facts.Accepting.{complete, elaborates, in_order, listed_there, new_types, new_uses, uses_acyclic}
use Rattle.wit_semver.specs.facts.Merged.{is_done}
use Rattle.wit_semver.specs.facts.TypesAfter.{after, needs_after, retargeted_from, retargeted_owner, retargeted_type, type_into}
use Rattle.wit_semver.specs.laws.TrackLaws.{IsSemverMerged}
use Rattle.wit_elaboration.specs.steps.Parts.{type_role, of_class}
use Rattle.wit_semver.specs.steps.Parts.{is_replaced_entry, listed_world, retargeted, new_target}

-- ---- lists

filter-filter : {X : Type 0} (p q : X → Bool) (xs : List X) → filter p (filter q xs) ≡ filter q (filter p xs)
filter-filter p q [] = refl
filter-filter p q (x ∷ xs) =
    elim (cases_Bool (p x)) [
      | inl here ↦ elim (cases_Bool (q x)) [
        | inl there ↦ rw (filter-pass q x xs there, filter-pass p x xs here, filter-pass p x (filter q xs) here, filter-pass q x (filter p xs) there, filter-filter p q xs) refl
        | inr fails ↦ rw (filter-fail q x xs fails, filter-pass p x xs here, filter-fail q x (filter p xs) fails) (filter-filter p q xs)
      ]
      | inr not_here ↦ elim (cases_Bool (q x)) [
        | inl there ↦ rw (filter-pass q x xs there, filter-fail p x xs not_here, filter-fail p x (filter q xs) not_here) (filter-filter p q xs)
        | inr fails ↦ rw (filter-fail q x xs fails, filter-fail p x xs not_here) (filter-filter p q xs)
      ]
    ]

-- a test that lets pass all that another picks
filter-among : {X : Type 0} (p q : X → Bool) (xs : List X) → ((x : X) → p x ≡ true → q x ≡ true) → filter p (filter q xs) ≡ filter p xs
filter-among p q xs weaker = filter-filter p q xs ∙ filter-all q (filter p xs) (λ x has. weaker x (Contains-filter p xs x has).1)

abbrev has_label : Entry → Bool
has_label e = is_label e.0

class_labels : (types : List TypeDef) (es : List Entry) → labelled (by_class types es) ≡ by_class types (labelled es)
class_labels types es =
    filter-flat_map has_label (λ c. of_class types c es) (0 ∷ 1 ∷ 2 ∷ 3 ∷ 4 ∷ [])
    ∙ flat_map-same (λ c. labelled (of_class types c es)) (λ c. of_class types c (labelled es)) (0 ∷ 1 ∷ 2 ∷ 3 ∷ 4 ∷ [])
    (λ c among. filter-filter has_label (λ (e : Entry). nat_eq (elaboration_class (role_of types e.1)) c) es)

-- entries of the same classes are sorted the same
same_classes : (old new : List TypeDef) (es : List Entry) → ((e : Entry) → Contains es e → elaboration_class (role_of new e.1) ≡ elaboration_class (role_of old e.1)) → by_class new es ≡ by_class old es
same_classes old new es same =
    flat_map-same (λ c. of_class new c es) (λ c. of_class old c es) (0 ∷ 1 ∷ 2 ∷ 3 ∷ 4 ∷ [])
    (λ c among. filter-same (λ (e : Entry). nat_eq (elaboration_class (role_of new e.1)) c) (λ (e : Entry). nat_eq (elaboration_class (role_of old e.1)) c) es (λ e has. ap (λ (n : ℕ). nat_eq n c) (same e has)))

-- ---- a type of a world that uses an interface uses one still

both_or_none : (new old : Option ℕ) → ((j : ℕ) → new ≡ Some j → (f : ℕ) × (old ≡ Some f)) → ((f : ℕ) → old ≡ Some f → (j : ℕ) × (new ≡ Some j)) → elaboration_class (type_role new) ≡ elaboration_class (type_role old)
both_or_none None None back there = refl
both_or_none (Some j) (Some f) back there = refl
both_or_none None (Some f) back there = let some = there f refl in let no = some.1 in cc
both_or_none (Some j) None back there = let some = back j refl in let no = some.1 in cc

module _ (u : SemverMerge) (valid : IsValid u.graph) (complete : IsComplete u) (w : ℕ) where
  abbrev types : List TypeDef
  types = u.graph.types

  owned : (t : ℕ) (name : List ℕ) (def : TypeDef) → SomeAt types t (λ (def : TypeDef). (def.name ≡ Some name) × (def.owner ≡ owner.World w)) → slice_get types t ≡ Some def → def.owner ≡ owner.World w
  owned t name def h at =
      let found = found_at (λ (def : TypeDef). (def.name ≡ Some name) × (def.owner ≡ owner.World w)) types t h in
      ap (λ (d : TypeDef). d.owner) (same_at types t t def found.0 refl at found.1) ∙ found.2.1

  uses_still : (t : ℕ) (name : List ℕ) → SomeAt types t (λ (def : TypeDef). (def.name ≡ Some name) × (def.owner ≡ owner.World w)) → (f : ℕ) → type_interface_dep types t ≡ Some f → (j : ℕ) × (type_interface_dep (types_with_new_targets u) t ≡ Some j)
  uses_still t name is f dep =
      let needs = needs_from types t f dep in
      let mine = owned t name needs.alias is needs.there in
      elim (option_cases (new_target u t)) [
        | inl none ↦
            let kept : after u t needs.alias ≡ needs.alias = ap (retargeted needs.alias) none in (
              f,
              needs_into (types_with_new_targets u) t f (record {
                alias = after u t needs.alias;
                there = type_into u t needs.alias needs.there;
                target = needs.target;
                names = ap (λ (d : TypeDef). alias_target d.kind) kept ∙ needs.names;
                named = after u needs.target needs.named;
                target_there = type_into u needs.target needs.named needs.target_there;
                other = (λ i. other_owner (retargeted_owner needs.alias (new_target u t) i) (retargeted_owner needs.named (new_target u needs.target) i)) ∙ needs.other;
              }),
            )
        | inr some ↦
            let now = retargeted_from u t some.0 some.1 in
            let found = found_at (λ (named : TypeDef). (named.name ≡ Some now.name) × (named.owner ≡ owner.Interface (newest u now.f))) types some.0 (retargeted_type u valid t some.0 now) in
            let own : (after u t needs.alias).owner ≡ owner.World w = retargeted_owner needs.alias (new_target u t) ∙ mine in
            let of : (after u some.0 found.0).owner ≡ owner.Interface (newest u now.f) = retargeted_owner found.0 (new_target u some.0) ∙ found.2.1 in (
              newest u now.f,
              needs_into (types_with_new_targets u) t (newest u now.f) (record {
                alias = after u t needs.alias;
                there = type_into u t needs.alias needs.there;
                target = some.0;
                names = ap (λ (o : Option ℕ). alias_target (retargeted needs.alias o).kind) some.1;
                named = after u some.0 found.0;
                target_there = type_into u some.0 found.0 found.1;
                other = λ i. other_owner (own i) (of i);
              }),
            )
      ]

  class_still : (k : WorldKey) (held : WorldItem) → is_label k ≡ true → IsImport u.graph.interfaces types w k held → elaboration_class (role_of (types_with_new_targets u) held) ≡ elaboration_class (role_of types held)
  class_still (key.Name name) (item.Type_ t span) label is =
      both_or_none (type_interface_dep (types_with_new_targets u) t) (type_interface_dep types t) (λ j dep. let needs = needs_after u valid complete t j dep in (needs.f, needs.needed)) (uses_still t name is)
  class_still (key.Name name) (item.Interface i stability docs span external_id) label is = refl
  class_still (key.Name name) (item.Function f) label is = refl
  class_still (key.Interface i) held label is = cc

-- ---- labels

kept_label : (u : SemverMerge) (k : WorldKey) (held : WorldItem) → is_label k ≡ true → not (is_replaced_entry u (k, held)) ≡ true
kept_label u (key.Name name) held label = refl
kept_label u (key.Interface i) held label = cc

module _ (laws : LawsOfElaboration) (rule : TrackRule) (g : Graph) (w : ℕ) (old new : World) (merged : IsSemverMerged rule g w old new) where
  abbrev u : SemverMerge
  u = record { rule = rule; graph = g; world = old }

  abbrev now : List TypeDef
  now = types_with_new_targets u

  sorted_same : by_class now (labelled old.imports) ≡ by_class g.types (labelled old.imports)
  sorted_same =
      same_classes g.types now (labelled old.imports)
      (λ e has.
      let parts = Contains-filter has_label old.imports e has in
      let place = place_of old.imports e parts.0 in
      class_still u merged.valid (complete u merged.valid w merged.there merged.accepted) w e.0 e.1 parts.1 (merged.valid.well_formed.worlds.imports w old merged.there place.0 e place.1))

  staying_labels : labelled (kept_imports u) ≡ labelled old.imports
  staying_labels = filter-among has_label (λ (e : Entry). not (is_replaced_entry u e)) old.imports (λ e label. kept_label u e.0 e.1 label)

  new_labels : labelled new.imports ≡ map listed_without_span (labelled (by_class now (kept_imports u)))
  new_labels =
      ap (λ (x : World). labelled x.imports) (is_done laws rule g w old new merged)
      ∙ laws.labels (new_types u merged.valid w merged.there) (new_uses u merged.valid w merged.there) (listed_world u) (elaborated_world (with_new_entries_at u w) (listed_world u)) (uses_acyclic u merged.valid w merged.there merged.accepted)
      (in_order u merged.valid w merged.there w (listed_world u) (listed_there u merged.valid w merged.there))
      (distinct_kept (λ (e : Entry). not (is_replaced_entry u e)) old.imports (merged.valid.well_formed.worlds.distinct_imports w old merged.there))
      (elaborates u merged.valid w merged.there merged.accepted laws.refused w (listed_world u) (listed_there u merged.valid w merged.there))

  old_labels : labelled old.imports ≡ map listed_without_span (labelled (by_class g.types old.imports))
  old_labels =
      laws.labels g.types (uses_of g.types g.interfaces) old old merged.valid.no_cycles.uses
      (lists_in_order g.types g.interfaces merged.valid.well_formed.references.aliases w old (merged.valid.well_formed.worlds.imports w old merged.there) (merged.valid.well_formed.worlds.exports w old merged.there))
      (merged.valid.well_formed.worlds.distinct_imports w old merged.there) (merged.valid.canonical w old merged.there)

  pub labels_are_kept : labelled new.imports ≡ labelled old.imports
  labels_are_kept =
      new_labels ∙ ap (map listed_without_span) (class_labels now (kept_imports u) ∙ ap (by_class now) staying_labels ∙ sorted_same ∙ sym (class_labels g.types old.imports)) ∙ sym old_labels
