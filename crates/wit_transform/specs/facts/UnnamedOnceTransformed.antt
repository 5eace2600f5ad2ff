-- In a graph with a transformed world an interface without a name has one place, where it had one.
use Rattle.std.proofs.Common.{◌≡◌, ◌∙◌, ◌⊎◌, inl, inr, ℕ, zero, suc, Bool, true, false, List, [], ◌∷◌, ◌++◌, Some, slice_get, slice_set, refl, sym, ap, subst, arith, Contains}
use Rattle.std.proofs.lemmas.List.Elements.{Contains-append_cases}
use Rattle.wit_data.specs.Entries.{is_unnamed, item_interface, entries_of}
use Rattle.wit_data.specs.declared.world.World.{World}
use Rattle.wit_data.specs.declared.world.WorldItem.{WorldItem}
use Rattle.wit_data.specs.declared.world.WorldItem.TheVariants as item
use Rattle.wit_elaboration.specs.Elaborated.{without_span}
use Rattle.wit_elaboration.specs.Elaboration.{graph_uses}
use Rattle.wit_elaboration.specs.Entries.{Entry}
use Rattle.wit_elaboration.specs.Imported.{HasTransitiveConflict}
use Rattle.wit_values.specs.Table.{HasDistinctKeys}
use Rattle.wit_elaboration.specs.Valid.{IsValid}
use Rattle.wit_graph_data.specs.declared.graph.Graph.{Graph}
use Rattle.wit_graph_theory.specs.facts.GoodWorlds.{same_one}
use Rattle.wit_graph_theory.specs.facts.ListFacts.{contained_at, place_of, same_at}
use Rattle.wit_graph_theory.specs.steps.UnnamedOnce.{Holds, StandsOnceOnly}
use Rattle.wit_graph_theory.specs.facts.UnnamedOnceCarried.{named_not}
use Rattle.wit_graph_theory.specs.facts.LawsOfElaboration.{LawsOfElaboration}
use Rattle.wit_transform.specs.facts.ListsFrom.{ComesFrom}
use Rattle.wit_transform.specs.facts.TransformedWorlds.{done, done_is_good, export_from, import_from}
use Rattle.wit_transform.specs.Transformed.{WorldLists}

-- what stands in a list after a write was written, or is old and elsewhere
pub set_split : {X : Type 0} (xs : List X) (i : ℕ) (y : X) (j : ℕ) (x : X) → slice_get (slice_set xs i y) j ≡ Some x → ((j ≡ i) × (x ≡ y)) ⊎ ((j ≡ i → ⊥) × (slice_get xs j ≡ Some x))
set_split [] i y j x at = cc
set_split (z ∷ zs) zero y zero x at = inl (refl, cc)
set_split (z ∷ zs) zero y (suc j) x at = inr (λ same. omega arith, at)
set_split (z ∷ zs) (suc i) y zero x at = inr (λ same. omega arith, at)
set_split (z ∷ zs) (suc i) y (suc j) x at =
    elim (set_split zs i y j x at) [ inl h ↦ inl (ap suc h.0, h.1) | inr h ↦ inr (λ same. h.0 (omega arith), h.1) ]

without_span_instance : (held : WorldItem) → item_interface (without_span held) ≡ item_interface held
without_span_instance (item.Interface i stability docs span external_id) = refl
without_span_instance (item.Function f) = refl
without_span_instance (item.Type_ t span) = refl

-- where an entry of the transformed world, under its key, stood in the old one
record Stood (old : World) (transform : WorldLists) (exported : Bool) (e : Entry) (f : ℕ) : Type 0
  where
    pub side : Bool
    pub place : ℕ
    pub before : Entry
    pub at : slice_get (entries_of side old) place ≡ Some before
    pub held : item_interface before.1 ≡ f ∷ []
    pub key : e.0 ≡ before.0
    pub imported : exported ≡ false → Contains transform.imports before
    pub exports : exported ≡ true → Contains transform.exports before

stood_at : (old : World) (e : Entry) → Contains (old.imports ++ old.exports) e → (side : Bool) × (place : ℕ) × (slice_get (entries_of side old) place ≡ Some e)
stood_at old e has =
    elim (Contains-append_cases old.imports old.exports e has) [
      | inl among ↦ let at = place_of old.imports e among in (false, at.0, at.1)
      | inr among ↦ let at = place_of old.exports e among in (true, at.0, at.1)
    ]

module _ (laws : LawsOfElaboration) (g : Graph) (valid : IsValid g) (w : ℕ) (old : World) (there : slice_get g.worlds w ≡ Some old) (transform : WorldLists) (from : ComesFrom old transform)
    (no_conflict : HasTransitiveConflict (graph_uses g) transform.exports → ⊥) (one : StandsOnceOnly g.interfaces g.worlds) where
  abbrev new : World
  new = done g valid w old there transform from

  stood : (b : Bool) (i f : ℕ) (e : Entry) → is_unnamed g.interfaces f ≡ true → slice_get (entries_of b new) i ≡ Some e → item_interface e.1 ≡ f ∷ [] → Stood old transform b e f
  stood false i f e unnamed at held =
      elim (import_from g valid w old there transform from laws no_conflict e (contained_at new.imports i e at)) [
        | inl stays ↦
            let before = stood_at old stays.0 (from.imports stays.0 stays.1) in
            record {
              side = before.0;
              place = before.1;
              before = stays.0;
              at = before.2;
              held = sym (without_span_instance stays.0.1) ∙ ap (λ (d : Entry). item_interface d.1) (sym stays.2) ∙ held;
              key = ap (λ (d : Entry). d.0) stays.2;
              imported = λ is. stays.1;
              exports = λ is. cc;
            }
        | inr added ↦
            let same : added.f ≡ f = same_one added.f f (sym added.held ∙ held) in
            absurd (named_not g.interfaces added.f added.named (subst (λ (i : ℕ). is_unnamed g.interfaces i ≡ true) (sym same) unnamed))
      ]
  stood true i f e unnamed at held =
      elim (export_from g valid w old there transform from laws no_conflict e (contained_at new.exports i e at)) [
        | inl stays ↦
            let before = stood_at old e (from.exports e stays).0 in
            record { side = before.0; place = before.1; before = e; at = before.2; held = held; key = refl; imported = λ is. cc; exports = λ is. stays }
        | inr added ↦
            let same : added.f ≡ f = same_one added.f f (sym added.held ∙ held) in
            absurd (named_not g.interfaces added.f added.named (subst (λ (i : ℕ). is_unnamed g.interfaces i ≡ true) (sym same) unnamed))
      ]

  was_held : (b : Bool) (e : Entry) (f : ℕ) (s : Stood old transform b e f) → Holds g.worlds w s.side s.place f
  was_held b e f s = record { world = old; there = there; entry = s.before; at = s.at; held = s.held }

  distinct_side : (b : Bool) → HasDistinctKeys (entries_of b new)
  distinct_side false = (done_is_good g valid w old there transform from laws no_conflict).distinct_imports
  distinct_side true = (done_is_good g valid w old there transform from laws no_conflict).distinct_exports

  both_here : (b c : Bool) (i j f : ℕ) (d e : Entry) → is_unnamed g.interfaces f ≡ true → slice_get (entries_of b new) i ≡ Some d → slice_get (entries_of c new) j ≡ Some e
      → item_interface d.1 ≡ f ∷ [] → item_interface e.1 ≡ f ∷ [] → (b ≡ c) × (i ≡ j)
  both_here b c i j f d e unnamed first second held other = by b c first second (stood b i f d unnamed first held) (stood c j f e unnamed second other)
    where
      same_before : (b c : Bool) (s : Stood old transform b d f) (t : Stood old transform c e f) → s.before ≡ t.before
      same_before b c s t =
          let places = one f w w s.side t.side s.place t.place unnamed (was_held b d f s) (was_held c e f t) in
          let at : slice_get (entries_of s.side old) t.place ≡ Some t.before = subst (λ (side : Bool). slice_get (entries_of side old) t.place ≡ Some t.before) (sym places.1) t.at in
          same_at (entries_of s.side old) s.place t.place s.before t.before places.2 s.at at

      by : (b c : Bool) → slice_get (entries_of b new) i ≡ Some d → slice_get (entries_of c new) j ≡ Some e → Stood old transform b d f → Stood old transform c e f → (b ≡ c) × (i ≡ j)
      by false false first second s t = (refl, distinct_side false i j d e first second (s.key ∙ ap (λ (x : Entry). x.0) (same_before false false s t) ∙ sym t.key))
      by true true first second s t = (refl, distinct_side true i j d e first second (s.key ∙ ap (λ (x : Entry). x.0) (same_before true true s t) ∙ sym t.key))
      by false true first second s t = absurd (from.one_side s.before (s.imported refl) (subst (Contains transform.exports) (sym (same_before false true s t)) (t.exports refl)))
      by true false first second s t = absurd (from.one_side t.before (t.imported refl) (subst (Contains transform.exports) (same_before true false s t) (s.exports refl)))

  at_new : (b : Bool) (i : ℕ) (e : Entry) (world : World) → world ≡ new → slice_get (entries_of b world) i ≡ Some e → slice_get (entries_of b new) i ≡ Some e
  at_new b i e world same at = subst (λ (x : World). slice_get (entries_of b x) i ≡ Some e) same at

  -- interfaces without names have one place
  pub unnamed_once_transformed : StandsOnceOnly g.interfaces (slice_set g.worlds w new)
  unnamed_once_transformed f v u b c i j unnamed first second =
      elim (set_split g.worlds w new v first.world first.there) [
        | inl here ↦ elim (set_split g.worlds w new u second.world second.there) [
          | inl also ↦
              let both = both_here b c i j f first.entry second.entry unnamed (at_new b i first.entry first.world here.1 first.at) (at_new c j second.entry second.world also.1 second.at) first.held second.held in
              (here.0 ∙ sym also.0, both.0, both.1)
          | inr else ↦
              let s = stood b i f first.entry unnamed (at_new b i first.entry first.world here.1 first.at) first.held in
              let same = one f w u s.side c s.place j unnamed (was_held b first.entry f s) (record { world = second.world; there = else.1; entry = second.entry; at = second.at; held = second.held }) in
              absurd (else.0 (sym same.0))
        ]
        | inr there_still ↦ elim (set_split g.worlds w new u second.world second.there) [
          | inl also ↦
              let s = stood c j f second.entry unnamed (at_new c j second.entry second.world also.1 second.at) second.held in
              let same = one f v w b s.side i s.place unnamed (record { world = first.world; there = there_still.1; entry = first.entry; at = first.at; held = first.held }) (was_held c second.entry f s) in
              absurd (there_still.0 same.0)
          | inr else ↦
              one f v u b c i j unnamed (record { world = first.world; there = there_still.1; entry = first.entry; at = first.at; held = first.held })
              (record { world = second.world; there = else.1; entry = second.entry; at = second.at; held = second.held })
        ]
      ]
