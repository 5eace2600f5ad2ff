-- Where matched things differ in nothing, each entry of a world that is matched is that of one of the other world: each of
-- these has one there, and there are as many.
use Rattle.std.proofs.Common.{◌≡◌, ◌∙◌, inl, inr, ℕ, Bool, length, nat_eq, Some, slice_get, refl, sym, ap, arith, Contains}
use Rattle.std.proofs.lemmas.Bool.{cases_Bool, eq-eqb, eqb-true, false≢true}
use Rattle.std.proofs.lemmas.Map.Views.{Contains-from_lookup}
use Rattle.std.proofs.lemmas.Option.{slice_get_within}
use Rattle.wit_data.specs.Entries.{Entry, entries_of}
use Rattle.wit_data.specs.declared.world.World.{World}
use Rattle.wit_data.specs.declared.world.WorldKey.{WorldKey}
use Rattle.wit_data.specs.declared.world.WorldKey.TheVariants as key
use Rattle.wit_elaboration.specs.facts.FreshEntries.{same_key-true}
use Rattle.wit_elaboration.specs.Valid.{IsValid}
use Rattle.wit_graph_theory.specs.facts.ListFacts.{place_of, same_at}
use Rattle.wit_merge_spec.specs.Cause as differ
use Rattle.wit_merge_spec.specs.Matches.{GraphMerge, counterpart_key, counterpart_world}
use Rattle.wit_merge_spec.specs.Cause.{HasNoMismatch}
use Rattle.wit_merge_laws.specs.facts.Covering.{covers}
use Rattle.wit_merge_laws.specs.facts.ListedStand.{interfaces_apart}
use Rattle.wit_merge_laws.specs.facts.MatchedOnce.{lists_distinct}
use Rattle.wit_merge_laws.specs.facts.UsesListed.{key_remapped}
use Rattle.wit_merge_laws.specs.facts.WorldsStand.{differs, entry, entry_there}

module _ (m : GraphMerge) (valid : IsValid m.graph) (valid_other : IsValid m.other) (one : HasNoMismatch m) where
  -- no two keys are looked for under one
  key_once : (j k l : WorldKey) → counterpart_key m j ≡ Some l → counterpart_key m k ≡ Some l → j ≡ k
  key_once (key.Name a) (key.Name b) l first second = cc
  key_once (key.Name a) (key.Interface i) l first second = let other = key_remapped m i l second in cc
  key_once (key.Interface i) (key.Name b) l first second = let other = key_remapped m i l first in cc
  key_once (key.Interface i) (key.Interface j) l first second = ap (λ (x : ℕ). key.Interface x) (interfaces_apart m valid valid_other i j (one_key (sym (key_remapped m i l first) ∙ key_remapped m j l second)))
    where
      one_key : {a b : ℕ} → key.Interface a ≡ key.Interface b → a ≡ b
      one_key same = cc

  module _ (w w' : ℕ) (old into : World) (there : slice_get m.other.worlds w ≡ Some old) (found : counterpart_world m w ≡ Some w') (into_there : slice_get m.graph.worlds w' ≡ Some into) where
    -- matched worlds have as many entries
    pub same_count : (exported : Bool) → length (entries_of exported old) ≡ length (entries_of exported into)
    same_count exported = elim (cases_Bool (nat_eq (length (entries_of exported old)) (length (entries_of exported into)))) [
      | inl same ↦ eqb-true (length (entries_of exported old)) (length (entries_of exported into)) same
      | inr other ↦
          absurd (differs m valid valid_other one w w' old into there found into_there exported
          (differ.count (λ same. false≢true (sym other ∙ eq-eqb (length (entries_of exported old)) (length (entries_of exported into)) same))))
    ]

    -- the place of the entry under whose key one is looked for
    record Goes (exported : Bool) (d : Entry) (p : ℕ) : Type 0 where
      e : Entry
      at : slice_get (entries_of exported into) p ≡ Some e
      key_is : counterpart_key m d.0 ≡ Some e.0

    goes : (exported : Bool) (d : Entry) → Contains (entries_of exported old) d → (p : ℕ) × Goes exported d p
    goes exported d has =
        let here = entry_there m valid valid_other one w w' old into there found into_there exported d.0 d.1 has in
        let place = place_of (entries_of exported into) (entry here.k' here.here) (Contains-from_lookup same_key-true here.k' here.here (entries_of exported into) here.looked) in
        (place.0, record { e = entry here.k' here.here; at = place.1; key_is = here.key_is })

    goes_once : (exported : Bool) (k l : ℕ) (x y : Entry) (p : ℕ) → slice_get (entries_of exported old) k ≡ Some x → slice_get (entries_of exported old) l ≡ Some y → Goes exported x p → Goes exported y p → k ≡ l
    goes_once exported k l x y p first second a b =
        let same = same_at (entries_of exported into) p p a.e b.e refl a.at b.at in
        let keys = key_once x.0 y.0 b.e.0 (a.key_is ∙ ap (λ (e : Entry). Some e.0) same) b.key_is in
        lists_distinct m.other valid_other w exported old there k l x y first second keys

    -- each entry is that of one of the other world
    pub covered : (exported : Bool) (e : Entry) → Contains (entries_of exported into) e → (d : Entry) × Contains (entries_of exported old) d × (counterpart_key m d.0 ≡ Some e.0)
    covered exported e has =
        let place = place_of (entries_of exported into) e has in
        let count = same_count exported in
        let within = slice_get_within (entries_of exported into) place.0 e place.1 in
        let from = covers (Goes exported) (entries_of exported old) (goes exported)
        (λ x p is. let inside = slice_get_within (entries_of exported into) p is.e is.at in omega (arith, inside, count)) (goes_once exported) place.0 (omega (arith, within, count)) in
        (from.0, from.1, from.2.key_is ∙ ap (λ (x : Entry). Some x.0) (same_at (entries_of exported into) place.0 place.0 from.2.e e refl from.2.at place.1))
