-- A second semver merge by the same rule: no import is replaced any more, so each type names what it named, and the world
-- keeps all its imports.
use Rattle.std.proofs.Common.{◌≡◌, ◌∙◌, inl, inr, ℕ, zero, suc, Bool, true, false, not, List, [], ◌∷◌, filter, Option, None, Some, if◌then◌else◌, option_and_then, slice_get, slice_set, refl, sym, ap, subst, nat_eq}
use Rattle.std.specs.List.{list_any}
use Rattle.std.proofs.lemmas.Bool.{and_parts, cases_Bool, false≢true}
use Rattle.wit_digraph.specs.facts.FreshFacts.{contains_from_any}
use Rattle.wit_data.specs.Uses.{type_interface_dep}
use Rattle.wit_names.specs.declared.track.TrackRule.{TrackRule}
use Rattle.wit_data.specs.declared.world.World.{World}
use Rattle.wit_elaboration.specs.AllElaborated.{elaborated_world}
use Rattle.wit_elaboration.specs.Entries.{Entry, key_interface}
use Rattle.wit_elaboration.specs.Valid.{IsValid}
use Rattle.wit_elaboration.specs.laws.ElaborationLaws.{ImportsKeepOrder}
use Rattle.wit_graph_data.specs.declared.graph.Graph.{Graph}
use Rattle.wit_graph_theory.specs.facts.LawsOfElaboration.{LawsOfElaboration}
use Rattle.wit_graph_theory.specs.facts.ListFacts.{at_map}
use Rattle.wit_values.specs.facts.Lists.{slice_get-set}
use Rattle.wit_semver.specs.SemverMerged.{imported, is_replaced, kept_imports, newest, newest_type, replaced_use, types_of_new_entries, semver_merged, target_name, with_new_entries_at, SemverMerge, SemverMergeIsAccepted}
use Rattle.wit_semver.specs.facts.Accepting.{semver_merged_is}
use Rattle.wit_semver.specs.facts.Greatest.{newest_stays}
use Rattle.wit_semver.specs.facts.Merged.{one_on_each}
use Rattle.wit_semver.specs.facts.TypesAfter.{replaced_use_from}
use Rattle.wit_semver.proofs.SameTypes.{same_types_keep_worlds}
use Rattle.wit_semver.proofs.ValidSemverMerges.{semver_merged_is_valid}
use Rattle.wit_semver.specs.steps.Parts.{is_replaced_entry, listed_world, interface_type, new_target}

-- ---- lists that stay

none_passes : {X : Type 0} (test : X → Bool) (xs : List X) → ((x : X) → test x ≡ false) → list_any test xs ≡ false
none_passes test [] off = refl
none_passes test (x ∷ xs) off = rw (off x) (none_passes test xs off)

all_stay : {X : Type 0} (test : X → Bool) (xs : List X) → ((x : X) → test x ≡ true) → filter test xs ≡ xs
all_stay test [] on = refl
all_stay test (x ∷ xs) on = rw (on x) (ap (λ l. x ∷ l) (all_stay test xs on))

set_same : {X : Type 0} (xs : List X) (i : ℕ) (x : X) → slice_get xs i ≡ Some x → slice_set xs i x ≡ xs
set_same [] i x at = refl
set_same (y ∷ ys) zero x at = let one : y ≡ x = cc in ap (λ z. z ∷ ys) (sym one)
set_same (y ∷ ys) (suc i) x at = ap (λ l. y ∷ l) (set_same ys i x at)

either_none : (b : Bool) (o : Option ℕ) → o ≡ None → (if b then o else None) ≡ None
either_none true o none = none
either_none false o none = refl

-- ---- of a valid graph in which no import is replaced

module _ (u : SemverMerge) (stay : (i : ℕ) → is_replaced u i ≡ false) (w : ℕ) (there : slice_get u.graph.worlds w ≡ Some u.world) where
  entries_stay : kept_imports u ≡ u.world.imports
  entries_stay = all_stay (λ (e : Entry). not (is_replaced_entry u e)) u.world.imports (λ e. ap not (none_passes (is_replaced u) (key_interface e.0) stay))

  none_used : (t : ℕ) → replaced_use u t ≡ None
  none_used t = by (type_interface_dep u.graph.types t)
    where
      by : (o : Option ℕ) → option_and_then (λ (f : ℕ). if is_replaced u f then Some f else None) o ≡ None
      by None = refl
      by (Some f) = ap (λ (b : Bool). if b then Some f else None) (stay f)

  no_target : (t : ℕ) → new_target u t ≡ None
  no_target t =
      either_none (list_any (nat_eq t) (types_of_new_entries u)) (newest_type u t)
      (ap (option_and_then (λ (f : ℕ). option_and_then (interface_type u.graph.interfaces (newest u f)) (target_name u.graph.types t))) (none_used t))

  worlds_stay : slice_set u.graph.worlds w (listed_world u) ≡ u.graph.worlds
  worlds_stay =
      ap (λ (entries : List Entry). slice_set u.graph.worlds w (record u.world { imports = entries })) entries_stay ∙ set_same u.graph.worlds w u.world there

  -- so no cause holds, and all stays
  changes_nothing : LawsOfElaboration → ImportsKeepOrder → IsValid u.graph → SemverMergeIsAccepted u.rule u.graph w × (semver_merged u.rule u.graph w ≡ u.graph)
  changes_nothing laws order valid =
      let same = same_types_keep_worlds laws order u w valid there no_target (λ t message follows lacks. false≢true (sym (stay lacks.f) ∙ (replaced_use_from u t lacks.f lacks.uses).1)) (λ f message differ. false≢true (sym (stay f) ∙ differ.replaced)) in
      (same.0, same.1 ∙ ap (λ (worlds : List World). record u.graph { worlds = worlds }) worlds_stay)

-- ---- after a merge no import is replaced

module _ (laws : LawsOfElaboration) (rule : TrackRule) (g : Graph) (w : ℕ) (old : World) (valid : IsValid g) (there : slice_get g.worlds w ≡ Some old) (accepted : SemverMergeIsAccepted rule g w) where
  abbrev merged : Graph
  merged = semver_merged rule g w

  abbrev again : World → SemverMerge
  again world = record { rule = rule; graph = merged; world = world }

  stay : (world : World) → slice_get merged.worlds w ≡ Some world → (i : ℕ) → is_replaced (again world) i ≡ false
  stay world at i = elim (cases_Bool (is_replaced (again world) i)) [
    | inl on ↦
        let newer = newest_stays (again world) i on in
        let among = contains_from_any i (imported (again world)) (and_parts (list_any (nat_eq i) (imported (again world))) _ on).0 in
        let one = one_on_each laws rule g w old world (record { valid = valid; there = there; accepted = accepted; is = at }) i (newest (again world) i) among newer.is_imported newer.on in
        absurd (false≢true (sym newer.stays ∙ ap (is_replaced (again world)) (sym one) ∙ on))
    | inr off ↦ off
  ]

  abbrev first : SemverMerge
  first = record { rule = rule; graph = g; world = old }

  abbrev done : World
  done = elaborated_world (with_new_entries_at first w) (listed_world first)

  there_after : slice_get merged.worlds w ≡ Some done
  there_after =
      subst (λ (x : Graph). slice_get x.worlds w ≡ Some done) (sym (semver_merged_is rule g w old there))
      (at_map (elaborated_world (with_new_entries_at first w)) (slice_set g.worlds w (listed_world first)) w (listed_world first) (slice_get-set g.worlds w old (listed_world first) there))

  valid_after : IsValid merged
  valid_after = semver_merged_is_valid laws rule g w old valid there accepted

  pub semver_merges_once : ImportsKeepOrder → SemverMergeIsAccepted rule merged w × (semver_merged rule merged w ≡ merged)
  semver_merges_once order = changes_nothing (again done) (stay done there_after) w there_after laws order valid_after
