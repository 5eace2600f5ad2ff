-- The worlds of a merged graph have the labels that they were listed with, and export the interfaces that they were
-- listed with.
use Rattle.std.proofs.Common.{◌≡◌, ◌∙◌, inl, inr, ℕ, Bool, true, false, List, Some, slice_get, refl, sym, ap, subst, Contains}
use Rattle.std.specs.Map.{keys_of}
use Rattle.wit_data.specs.Entries.{Entry, item_interface, entries_of}
use Rattle.wit_data.specs.declared.world.World.{World}
use Rattle.wit_data.specs.declared.world.WorldItem.{WorldItem}
use Rattle.wit_data.specs.declared.world.WorldKey.{WorldKey}
use Rattle.wit_data.specs.declared.world.WorldKey.TheVariants as key
use Rattle.wit_elaboration.specs.facts.Classes.{in_by_class}
use Rattle.wit_elaboration.specs.facts.Filters.{Contains-filter, Contains-filtered}
use Rattle.wit_elaboration.specs.Elaborated.{without_span}
use Rattle.wit_elaboration.specs.Elaboration.{graph_uses}
use Rattle.wit_elaboration.specs.Entries.{by_class}
use Rattle.wit_elaboration.specs.laws.KeptByElaboration.{is_label, labelled, listed_without_span}
use Rattle.wit_elaboration.specs.Valid.{IsValid}
use Rattle.wit_graph_data.specs.declared.graph.Graph.{Graph}
use Rattle.wit_elaboration.specs.AllElaborated.{elaborated_world}
use Rattle.wit_graph_theory.specs.facts.ElaboratedCome.{interface_without_span}
use Rattle.wit_graph_theory.specs.facts.LawsOfElaboration.{LawsOfElaboration}
use Rattle.wit_graph_theory.specs.facts.ListFacts.{Contains-map, Contains-map_cases}
use Rattle.wit_merge_spec.specs.Matches.{GraphMerge}
use Rattle.wit_merge_spec.specs.Cause.{HasNoMismatch}
use Rattle.wit_merge_spec.specs.Merged.{joined_graph}
use Rattle.wit_merge_laws.specs.facts.JoinedGood.{MergeCanElaborate, in_order}
use Rattle.wit_merge_laws.specs.facts.ListedStand.{worlds_come}
use Rattle.wit_merge_laws.specs.facts.MatchedOnce.{one_under}
use Rattle.wit_merge_laws.specs.facts.MergedWorlds.{entries_from, is_elaborated}
use Rattle.wit_merge_laws.specs.facts.WorldsStand.{entry}

-- what elaboration adds stands under no label
pub no_label : (label : List ℕ) (j : ℕ) → key.Name label ≡ key.Interface j → ⊥
no_label label j same = cc

-- an item that stands under a key where another stood, with the same interface if it is one
pub record Beside (entries : List Entry) (k : WorldKey) (held : WorldItem) : Type 0 where
  pub there : WorldItem
  pub has : Contains entries (entry k there)
  pub same : item_interface there ≡ item_interface held

-- the entry under a key
key_held : (es : List Entry) (k : WorldKey) → Contains (keys_of es) k → (held : WorldItem) × Contains es (entry k held)
key_held es k has =
    let from = Contains-map_cases (λ (e : Entry). e.0) es k has in
    (from.0.1, subst (λ (x : WorldKey). Contains es (entry x from.0.1)) from.2 from.1)

held_key : (es : List Entry) (k : WorldKey) (held : WorldItem) → Contains es (entry k held) → Contains (keys_of es) k
held_key es k held has = Contains-map (λ (e : Entry). e.0) es (entry k held) has

module _ (laws : LawsOfElaboration) (m : GraphMerge) (valid : IsValid m.graph) (valid_other : IsValid m.other) (one : HasNoMismatch m) (can : MergeCanElaborate m) where
  abbrev g : Graph
  g = joined_graph m

  module _ (w' : ℕ) (listed : World) (there : slice_get g.worlds w' ≡ Some listed) where
    abbrev done : World
    done = elaborated_world g listed

    -- what stands under a label was listed there
    pub label_from : (exported : Bool) (label : List ℕ) (held : WorldItem) → Contains (entries_of exported done) (entry (key.Name label) held) → Beside (entries_of exported listed) (key.Name label) held
    label_from false label held has = elim ((entries_from laws m valid valid_other one can w' listed there (entry (key.Name label) held)).0 has) [
      | inl stays ↦
          let same_key : stays.0.0 ≡ key.Name label = ap (λ (e : Entry). e.0) (sym stays.2) in
          let same_held : without_span stays.0.1 ≡ held = ap (λ (e : Entry). e.1) (sym stays.2) in
          record {
            there = stays.0.1;
            has = subst (λ (k : WorldKey). Contains listed.imports (entry k stays.0.1)) same_key stays.1;
            same = sym (interface_without_span stays.0.1) ∙ ap item_interface same_held;
          }
      | inr made ↦ absurd (no_label label made.1 (ap (λ (e : Entry). e.0) made.2))
    ]
    label_from true label held has = elim ((entries_from laws m valid valid_other one can w' listed there (entry (key.Name label) held)).1 has) [
      | inl stays ↦ record { there = held; has = stays; same = refl }
      | inr made ↦ absurd (no_label label made.1 (ap (λ (e : Entry). e.0) made.2))
    ]

    export_stays : (k : WorldKey) → (Contains (keys_of done.exports) k → Contains (keys_of listed.exports) k) × (Contains (keys_of listed.exports) k → Contains (keys_of done.exports) k)
    export_stays k =
        let same = laws.exports g.types (graph_uses g) listed done k can.acyclic (in_order m valid valid_other one w' listed there) (is_elaborated laws m valid valid_other one can w' listed there) in
        (same.0, same.1)

    -- and what was listed under a label stands there
    pub label_into : (exported : Bool) (label : List ℕ) (held : WorldItem) → Contains (entries_of exported listed) (entry (key.Name label) held) → Beside (entries_of exported done) (key.Name label) held
    label_into false label held has =
        let e = entry (key.Name label) held in
        let sorted = in_by_class g.types listed.imports e has in
        let under : Contains (labelled (by_class g.types listed.imports)) e = Contains-filtered (λ (d : Entry). is_label d.0) (by_class g.types listed.imports) e sorted refl in
        let stays = laws.labels g.types (graph_uses g) listed done can.acyclic (in_order m valid valid_other one w' listed there) (worlds_come m valid valid_other w' listed there).distinct_imports (is_elaborated laws m valid valid_other one can w' listed there) in
        let among : Contains (labelled done.imports) (listed_without_span e) = subst (λ (es : List Entry). Contains es (listed_without_span e)) (sym stays) (Contains-map listed_without_span (labelled (by_class g.types listed.imports)) e under) in
        record { there = without_span held; has = (Contains-filter (λ (d : Entry). is_label d.0) done.imports (listed_without_span e) among).0; same = interface_without_span held }
    label_into true label held has =
        let now = key_held done.exports (key.Name label) ((export_stays (key.Name label)).1 (held_key listed.exports (key.Name label) held has)) in
        let before = label_from true label now.0 now.1 in
        let same : before.there ≡ held = one_under listed.exports (worlds_come m valid valid_other w' listed there).distinct_exports (key.Name label) before.there held before.has has in
        record { there = now.0; has = now.1; same = sym before.same ∙ ap item_interface same }

    -- an exported key was listed, and stays
    pub export_from : (i : ℕ) (held : WorldItem) → Contains done.exports (entry (key.Interface i) held) → (there : WorldItem) × Contains listed.exports (entry (key.Interface i) there)
    export_from i held has = key_held listed.exports (key.Interface i) ((export_stays (key.Interface i)).0 (held_key done.exports (key.Interface i) held has))

    pub export_into : (i : ℕ) (held : WorldItem) → Contains listed.exports (entry (key.Interface i) held) → (there : WorldItem) × Contains done.exports (entry (key.Interface i) there)
    export_into i held has = key_held done.exports (key.Interface i) ((export_stays (key.Interface i)).1 (held_key listed.exports (key.Interface i) held has))
