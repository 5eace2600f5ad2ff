-- The steps that look for stabilities that can't be joined: entries under the keys of interfaces, and from what the steps
-- tell to the definition.
use Rattle.std.proofs.Common.{◌≡◌, ◌∙◌, ℕ, ◌<◌, ◌≤◌, Bool, true, false, List, length, nat_eq, Option, Some, None, option_and_then, slice_get, refl, sym, ap, subst, arith, Contains, if◌then◌else◌}
use Rattle.std.specs.List.{IsDistinct}
use Rattle.std.specs.Map.{keys_of, lookup}
use Rattle.std.proofs.lemmas.Bool.{eqb-true}
use Rattle.std.proofs.lemmas.Bool.Decides.{Decides-eqb}
use Rattle.std.proofs.lemmas.Map.Views.{Contains-from_lookup, lookup-from_Contains}
use Rattle.std.proofs.lemmas.Option.{cond_some, slice_get_within}
use Rattle.wit_data.specs.Entries.{Entry, entries_of}
use Rattle.wit_data.specs.facts.WorldKeyFacts.{key_is, key_laws}
use Rattle.wit_data.specs.declared.stability.Docs.{Docs}
use Rattle.wit_data.specs.declared.interface.Interface.{Interface}
use Rattle.wit_data.specs.declared.stability.Stability.{Stability}
use Rattle.wit_data.specs.declared.types.TypeDef.{TypeDef}
use Rattle.wit_data.specs.declared.world.World.{World}
use Rattle.wit_data.specs.declared.world.WorldItem.{WorldItem}
use Rattle.wit_data.specs.declared.world.WorldKey.{WorldKey}
use Rattle.wit_data.specs.declared.world.WorldItem.TheVariants as item
use Rattle.wit_data.specs.declared.world.WorldKey.TheVariants as key
use Rattle.wit_elaboration.specs.Entries.{same_key}
use Rattle.wit_graph_theory.specs.facts.ListFacts.{contained_at, place_of}
use Rattle.wit_graph_theory.specs.facts.OptionFacts.{some_parts, some_same, some_whole}
use Rattle.wit_sources.specs.Span.{OptionalSpan}
use Rattle.wit_remap_spec.specs.Joined.{Disagree, HasStability}
use Rattle.wit_merge_spec.specs.Matches.{GraphMerge, Pair, counterpart_interface, counterpart_type, counterpart_world}
use Rattle.wit_merge_spec.specs.Cause as reasons
use Rattle.wit_merge_spec.specs.Cause.{AreJoined}
use Rattle.wit_merge_match.specs.steps.Stabilities as stabilities
use Rattle.wit_merge_match.specs.steps.Stabilities.{AreApart, EntriesApart, EntryApart, InterfacesApartAt, TypesApartAt, WorldsApart, WorldsApartAt, matched_stability, own_stability}
use Rattle.wit_merge_match.proofs.Steps.{NoneBelow, from_pair, to_pair}
use Rattle.wit_merge_spec.specs.steps.Parts.{StabilitiesMismatch}

-- ---- entries

-- an item with the stability of an interface under its own key is that interface
own_item : (i : ℕ) (held : WorldItem) (s : Stability) → own_stability (key.Interface i) held ≡ Some s
    → (docs : Docs) × (place : OptionalSpan) × (external_id : Option (List ℕ)) × (held ≡ item.Interface i s docs place external_id)
own_item i (item.Interface id stability docs span external_id) s is =
    let parts = cond_some (nat_eq id i) stability s is in
    let same : id ≡ i = eqb-true id i parts.0 in
    let one : stability ≡ s = parts.1 in
    (docs, span, external_id, ap (λ (x : ℕ). item.Interface x stability docs span external_id) same ∙ ap (λ (x : Stability). item.Interface i x docs span external_id) one)
own_item i (item.Function f) s is = cc
own_item i (item.Type_ t span) s is = cc

-- and the interface has it
item_own : (i : ℕ) (s : Stability) (docs : Docs) (place : OptionalSpan) (external_id : Option (List ℕ)) → own_stability (key.Interface i) (item.Interface i s docs place external_id) ≡ Some s
item_own i s docs place external_id = ap (λ (b : Bool). if b then Some s else None) ((Decides-eqb i i).1 refl)

has_own : (entries : List Entry) (i : ℕ) (held : WorldItem) (s : Stability) → Contains entries (key.Interface i, held) → own_stability (key.Interface i) held ≡ Some s → HasStability entries i s
has_own entries i held s has is =
    let own = own_item i held s is in
    (own.0, own.1, own.2, subst (λ (x : WorldItem). Contains entries (key.Interface i, x)) own.3 has)

-- what stands under a key is what a look-up finds, where keys differ
own_found : (entries : List Entry) → IsDistinct same_key (keys_of entries) → (i : ℕ) (s : Stability) → HasStability entries i s
    → option_and_then (own_stability (key.Interface i)) (lookup (same_key (key.Interface i)) entries) ≡ Some s
own_found entries distinct i s has =
    let held = item.Interface i s has.0 has.1 has.2 in
    ap (option_and_then (own_stability (key.Interface i))) (lookup-from_Contains key_laws (key.Interface i) held entries distinct has.3) ∙ item_own i s has.0 has.1 has.2

found_own : (entries : List Entry) (i : ℕ) (s : Stability) → option_and_then (own_stability (key.Interface i)) (lookup (same_key (key.Interface i)) entries) ≡ Some s → HasStability entries i s
found_own entries i s is =
    let parts = some_parts (own_stability (key.Interface i)) (lookup (same_key (key.Interface i)) entries) s is in
    has_own entries i parts.0 s (Contains-from_lookup (λ a b. (key_is a b).0) (key.Interface i) parts.0 entries parts.1) parts.2

-- the two of an entry and of the one under its key don't disagree
pub entry_agrees : (m : GraphMerge) (into : List Entry) (k : WorldKey) (held : WorldItem) (a b : Stability) → Some a ≡ own_stability k held → Some b ≡ matched_stability m into k
    → ((s : Stability × Stability) → AreApart a b s → ⊥) → (s : Stability × Stability) → EntryApart m into k held s → ⊥
entry_agrees m into k held a b a_is b_is none s d =
    none s (record { from_is = some_same s.0 a (sym d.comes ∙ sym a_is); into_is = some_same s.1 b (sym d.there ∙ sym b_is); apart = d.apart })

module _ (m : GraphMerge) (from into : List Entry) where
  -- those of the entry at a place
  abbrev pub EntryApartAt : ℕ → Stability × Stability → Type 0
  EntryApartAt n s = (e : Entry) × (slice_get from n ≡ Some e) × EntryApart m into e.0 e.1 s

  pub entry_fits : (n : ℕ) (e : Entry) → slice_get from n ≡ Some e → ((s : Stability × Stability) → EntryApart m into e.0 e.1 s → ⊥) → (s : Stability × Stability) → EntryApartAt n s → ⊥
  entry_fits n e at none s d =
      let same : d.0 ≡ e = some_same d.0 e (sym d.1 ∙ at) in
      none s (subst (λ (x : Entry). EntryApart m into x.0 x.1 s) same d.2)

  by_key : (n : ℕ) (k : WorldKey) (held : WorldItem) (s : Stability × Stability) → slice_get from n ≡ Some (k, held) → EntryApart m into k held s → EntriesApart m from into s
  by_key n (key.Name label) held s at d = let own = d.comes in cc
  by_key n (key.Interface i) held s at d =
      let parts = some_parts (λ i'. option_and_then (own_stability (key.Interface i')) (lookup (same_key (key.Interface i')) into)) (counterpart_interface m i) s.1 d.there in
      record {
        i = i;
        i' = parts.0;
        matched = parts.1;
        comes = has_own from i held s.0 (contained_at from n (key.Interface i, held) at) d.comes;
        there = found_own into parts.0 s.1 parts.2;
        apart = d.apart;
      }

  pub entries_apart : (n : ℕ) (e : Entry) → slice_get from n ≡ Some e → (s : Stability × Stability) → EntryApart m into e.0 e.1 s → EntriesApart m from into s
  entries_apart n e at s d = by_key n e.0 e.1 s at d

  pub entries_fit : IsDistinct same_key (keys_of into) → (n : ℕ) → length from ≤ n → NoneBelow EntryApartAt n → (s : Stability × Stability) → EntriesApart m from into s → ⊥
  entries_fit distinct n reached below s d =
      let held = item.Interface d.i s.0 d.comes.0 d.comes.1 d.comes.2 in
      let e : Entry = (key.Interface d.i, held) in
      let place = place_of from e d.comes.3 in
      let within : place.0 < length from = slice_get_within from place.0 e place.1 in
      below place.0 (omega arith) s (
        e,
        place.1,
        record {
          comes = item_own d.i s.0 d.comes.0 d.comes.1 d.comes.2;
          there =
              some_whole (λ i'. option_and_then (own_stability (key.Interface i')) (lookup (same_key (key.Interface i')) into)) (counterpart_interface m d.i) d.i' s.1 d.matched
              (own_found into distinct d.i' s.1 d.there);
          apart = d.apart;
        },
      )

-- ---- worlds

pub worlds_fit : (m : GraphMerge) (from into : World) → ((s : Stability × Stability) → AreApart from.stability into.stability s → ⊥)
    → ((s : Stability × Stability) → EntriesApart m from.imports into.imports s → ⊥) → ((s : Stability × Stability) → EntriesApart m from.exports into.exports s → ⊥)
    → (s : Stability × Stability) → WorldsApart m from into s → ⊥
worlds_fit m from into own imports exports s (stabilities.own apart) = own s apart
worlds_fit m from into own imports exports s (stabilities.entries exported apart) = by exported apart
  where
    by : (exported : Bool) → EntriesApart m (entries_of exported from) (entries_of exported into) s → ⊥
    by false apart = imports s apart
    by true apart = exports s apart

-- ---- graphs

module _ (m : GraphMerge) where
  -- two stabilities that are joined, as a pair
  mismatch : (a b : Stability) (s : Stability × Stability) → AreJoined m a b → AreApart a b s → StabilitiesMismatch m s.0 s.1
  mismatch a b s joined apart = record {
    joined = subst (λ (x : Stability). AreJoined m x s.1) (sym apart.from_is) (subst (λ (x : Stability). AreJoined m a x) (sym apart.into_is) joined);
    apart = apart.apart;
  }

  pub types_mismatch : (t : ℕ) (s : Stability × Stability) → TypesApartAt m t s → StabilitiesMismatch m s.0 s.1
  types_mismatch t s at =
      let pair = to_pair (counterpart_type m) m.other.types m.graph.types (λ (from into : TypeDef). AreApart from.stability into.stability) t s at in
      mismatch pair.0.from.stability pair.0.into.stability s (reasons.types pair.0) pair.1

  pub interfaces_mismatch : (i : ℕ) (s : Stability × Stability) → InterfacesApartAt m i s → StabilitiesMismatch m s.0 s.1
  interfaces_mismatch i s at =
      let pair = to_pair (counterpart_interface m) m.other.interfaces m.graph.interfaces (λ (from into : Interface). AreApart from.stability into.stability) i s at in
      mismatch pair.0.from.stability pair.0.into.stability s (reasons.interfaces pair.0) pair.1

  pub worlds_mismatch : (w : ℕ) (s : Stability × Stability) → WorldsApartAt m w s → StabilitiesMismatch m s.0 s.1
  worlds_mismatch w s at =
      let pair = to_pair (counterpart_world m) m.other.worlds m.graph.worlds (WorldsApart m) w s at in
      by pair.0 pair.1
    where
      by : (p : Pair (counterpart_world m) m.other.worlds m.graph.worlds) → WorldsApart m p.from p.into s → StabilitiesMismatch m s.0 s.1
      by p (stabilities.own apart) = mismatch p.from.stability p.into.stability s (reasons.worlds p) apart
      by p (stabilities.entries exported d) = record { joined = reasons.entries p exported d.i d.i' s.0 s.1 d.matched d.comes d.there; apart = d.apart }

  pub none_mismatch : ((t : ℕ) (s : Stability × Stability) → TypesApartAt m t s → ⊥) → ((i : ℕ) (s : Stability × Stability) → InterfacesApartAt m i s → ⊥)
      → ((w : ℕ) (s : Stability × Stability) → WorldsApartAt m w s → ⊥) → (from into : Stability) → StabilitiesMismatch m from into → ⊥
  none_mismatch types interfaces worlds from into d = by from into d.joined d.apart
    where
      by : (a b : Stability) → AreJoined m a b → Disagree a b → ⊥
      by _ _ (reasons.types p) apart =
          types p.x (p.from.stability, p.into.stability)
          (from_pair (counterpart_type m) m.other.types m.graph.types (λ (x y : TypeDef). AreApart x.stability y.stability) p (p.from.stability, p.into.stability) (record { from_is = refl; into_is = refl; apart = apart }))
      by _ _ (reasons.interfaces p) apart =
          interfaces p.x (p.from.stability, p.into.stability)
          (from_pair (counterpart_interface m) m.other.interfaces m.graph.interfaces (λ (x y : Interface). AreApart x.stability y.stability) p (p.from.stability, p.into.stability)
          (record { from_is = refl; into_is = refl; apart = apart }))
      by _ _ (reasons.worlds p) apart =
          worlds p.x (p.from.stability, p.into.stability)
          (from_pair (counterpart_world m) m.other.worlds m.graph.worlds (WorldsApart m) p (p.from.stability, p.into.stability) (stabilities.own (record { from_is = refl; into_is = refl; apart = apart })))
      by a b (reasons.entries p exported i i' x y matched comes there) apart =
          worlds p.x (x, y)
          (from_pair (counterpart_world m) m.other.worlds m.graph.worlds (WorldsApart m) p (x, y)
          (stabilities.entries exported (record { i = i; i' = i'; matched = matched; comes = comes; there = there; apart = apart })))
