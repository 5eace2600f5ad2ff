-- A list that an include joins: no key comes twice where nothing is shadowed, and what comes under a label is there.
use Rattle.std.proofs.Common.{◌≡◌, ◌∙◌, ◌⊎◌, inl, inr, ℕ, ◌<◌, Bool, true, false, not, List, filter, map, take, Some, slice_get, refl, sym, ap, subst, Contains, nat_eq, if◌then◌else◌}
use Rattle.std.specs.Map.{keys_of}
use Rattle.std.proofs.lemmas.Bool.{cases_Bool, cases_order, eq-eqb, false≢true}
use Rattle.std.proofs.lemmas.List.Elements.{Contains-append_left, Contains-append_right, Contains-append_cases}
use Rattle.wit_values.specs.Table.{HasDistinctKeys}
use Rattle.wit_data.specs.Entries.{Entry}
use Rattle.wit_data.specs.Ownership.{IsNamed}
use Rattle.wit_data.specs.declared.world.WorldItem.{WorldItem}
use Rattle.wit_data.specs.declared.world.WorldKey.{WorldKey}
use Rattle.wit_data.specs.declared.world.WorldItem.TheVariants as item
use Rattle.wit_data.specs.declared.world.WorldKey.TheVariants as key
use Rattle.wit_elaboration.specs.facts.Filters.{Contains-filter, Contains-filtered, not_true}
use Rattle.wit_elaboration.specs.facts.FreshEntries.{same_key-refl, same_key-true}
use Rattle.wit_elaboration.specs.Entries.{same_key}
use Rattle.wit_graph_data.specs.declared.graph.Graph.{Graph}
use Rattle.wit_graph_theory.specs.facts.CutIsGood.{distinct_kept}
use Rattle.wit_remap_spec.specs.Image.{entry_image, key_image}
use Rattle.wit_graph_theory.specs.facts.ListFacts.{Contains-map, Contains-map_cases, at_map, contained_at, from_map, place_of}
use Rattle.wit_link_spec.specs.Include.{joined_entries, new_item}
use Rattle.wit_remap_spec.specs.Joined.{joined_entry}
use Rattle.wit_link_spec.specs.WorldReasons.{IsShadowed, renamed_key}
use Rattle.wit_labels.specs.Rename.{renamed_label}
use Rattle.wit_link_spec.specs.facts.Copies.{interface_stays, named_left}
use Rattle.wit_link_spec.specs.facts.IncludedWorld.{Including, brought, maps}
use Rattle.wit_link_spec.specs.facts.KeysApart.{joined_apart, taken}
use Rattle.wit_link_spec.specs.facts.PartiallyLinked.{IsSoundSoFar}
use Rattle.wit_link_spec.specs.facts.Truth.{one_passes, passing}
use Rattle.wit_link_spec.specs.steps.Parts.{has_key}

-- a key of a list is found there
pub has_key-from : (es : List Entry) (e : Entry) → Contains es e → has_key es e.0 ≡ true
has_key-from es e has = one_passes (λ (d : Entry). same_key e.0 d.0) es e has (same_key-refl e.0)

pub has_key-is : (es : List Entry) (k : WorldKey) → has_key es k ≡ true → (e : Entry) × Contains es e × (e.0 ≡ k)
has_key-is es k found = let one = passing (λ (d : Entry). same_key k d.0) es found in (one.0, one.1, sym (same_key-true k one.0.0 one.2))

-- what comes under a label comes as it is
pub new_labelled : (other : Bool) (n : List ℕ) (held : WorldItem) → new_item other (key.Name n) held ≡ held
new_labelled true n (item.Interface i stability docs span external_id) = refl
new_labelled true n (item.Function f) = refl
new_labelled true n (item.Type_ t span) = refl
new_labelled false n held = refl

-- of one list: what it has, and what is brought, before it is renamed
pub record JoinsList (g : Graph) (i : Including g) (current entries : List Entry) : Type 0 where
  pub distinct_current : HasDistinctKeys current
  pub distinct_entries : HasDistinctKeys entries
  pub named : (e : Entry) (f : ℕ) → Contains entries e → e.0 ≡ key.Interface f
      → IsNamed g.interfaces f
  pub unshadowed : (n : List ℕ)
      → IsShadowed current (map (λ (e : Entry). renamed_key i.names e.0) entries) n → ⊥

module _ (g : Graph) (stands : IsSoundSoFar g) (i : Including g) (current entries : List Entry) (joins : JoinsList g i current entries) where
  -- the key under which an entry is brought
  pub brought_key : (e : Entry) → Contains entries e → key_image (maps g i) i.from e.0 ≡ renamed_key i.names e.0
  brought_key e has = by e.0 refl
    where
      own : (b : Bool) (label : List ℕ) → b ≡ true → (if b then renamed_label i.names label else label) ≡ renamed_label i.names label
      own true label h = refl
      own false label h = cc

      by : (k : WorldKey) → e.0 ≡ k → key_image (maps g i) i.from k ≡ renamed_key i.names k
      by (key.Name label) is = ap key.Name (own (nat_eq i.from i.from) label (eq-eqb i.from i.from refl))
      by (key.Interface f) is = ap key.Interface (interface_stays g stands i f (named_left g stands i f (joins.named e f has is)))

  abbrev renamed_keys : List WorldKey
  renamed_keys = map (λ (e : Entry). renamed_key i.names e.0) entries

  -- a label isn't brought twice
  twice : (a b : ℕ) (n : List ℕ) → a < b → slice_get renamed_keys a ≡ Some (key.Name n) → slice_get renamed_keys b ≡ Some (key.Name n) → ⊥
  twice a b n below first second =
      joins.unshadowed n (b, second, Contains-append_right (keys_of current) (take b renamed_keys) (key.Name n) (taken renamed_keys a b (key.Name n) below first))

  -- nor one that is there
  there_too : (b : ℕ) (n : List ℕ) → slice_get renamed_keys b ≡ Some (key.Name n) → Contains (keys_of current) (key.Name n) → ⊥
  there_too b n second first =
      joins.unshadowed n (b, second, Contains-append_left (keys_of current) (take b renamed_keys) (key.Name n) first)

  -- where an entry is brought from
  pub from_brought : (d : Entry) → Contains (brought g i entries) d → (e : Entry) × Contains entries e × (entry_image (maps g i) i.from e ≡ d)
  from_brought d has = Contains-map_cases (entry_image (maps g i) i.from) entries d has

  pub label_is_new : (d : Entry) (n : List ℕ) → Contains (brought g i entries) d → d.0 ≡ key.Name n → has_key current d.0 ≡ false
  label_is_new d n has is = elim (cases_Bool (has_key current d.0)) [
    | inr absent ↦ absent
    | inl found ↦
        let old = from_brought d has in
        let place = place_of entries old.0 old.1 in
        let called : renamed_key i.names old.0.0 ≡ key.Name n = sym (brought_key old.0 old.1) ∙ ap (λ (x : Entry). x.0) old.2 ∙ is in
        let at : slice_get renamed_keys place.0 ≡ Some (key.Name n) = at_map (λ (e : Entry). renamed_key i.names e.0) entries place.0 old.0 place.1 ∙ ap Some called in
        let held = has_key-is current d.0 found in
        absurd (there_too place.0 n at (subst (Contains (keys_of current)) (held.2 ∙ is) (Contains-map (λ (e : Entry). e.0) current held.0 held.1)))
  ]

  one_label : (a b : ℕ) (n : List ℕ) → slice_get renamed_keys a ≡ Some (key.Name n) → slice_get renamed_keys b ≡ Some (key.Name n) → a ≡ b
  one_label a b n first second = elim (cases_order a b) [
    | inl same ↦ same
    | inr (inl below) ↦ absurd (twice a b n below first second)
    | inr (inr above) ↦ absurd (twice b a n above second first)
  ]

  distinct_brought : HasDistinctKeys (brought g i entries)
  distinct_brought a b e f first second same =
      let x = from_map (entry_image (maps g i) i.from) entries a e first in
      let y = from_map (entry_image (maps g i) i.from) entries b f second in
      let in_x = contained_at entries a x.0 x.1 in
      let in_y = contained_at entries b y.0 y.1 in
      let keys : renamed_key i.names x.0.0 ≡ renamed_key i.names y.0.0 =
      sym (brought_key x.0 in_x) ∙ ap (λ (d : Entry). d.0) x.2 ∙ same ∙ ap (λ (d : Entry). d.0) (sym y.2) ∙ brought_key y.0 in_y in
      by x.0 y.0 x.1 y.1 x.0.0 y.0.0 refl refl keys
    where
      by : (x y : Entry) → slice_get entries a ≡ Some x → slice_get entries b ≡ Some y → (k l : WorldKey) → x.0 ≡ k → y.0 ≡ l → renamed_key i.names k ≡ renamed_key i.names l → a ≡ b
      by x y at at' (key.Name m) (key.Name n) is is' keys =
          one_label a b (renamed_label i.names m) (at_map (λ (e : Entry). renamed_key i.names e.0) entries a x at ∙ ap (λ (k : WorldKey). Some (renamed_key i.names k)) is)
          (at_map (λ (e : Entry). renamed_key i.names e.0) entries b y at' ∙ ap (λ (k : WorldKey). Some (renamed_key i.names k)) is' ∙ ap Some (sym keys))
      by x y at at' (key.Interface f) (key.Interface h) is is' keys = joins.distinct_entries a b x y at at' (is ∙ keys ∙ sym is')
      by x y at at' (key.Name m) (key.Interface h) is is' keys = cc
      by x y at at' (key.Interface f) (key.Name n) is is' keys = cc

  abbrev is_new : Entry → Bool
  is_new e = not (has_key current e.0)

  -- what comes anew comes of what is brought, and what was there stays
  pub joined_cases : (other : Bool) (d : Entry) → Contains (joined_entries other current (brought g i entries)) d
      → ((e : Entry) × Contains current e × (joined_entry other (brought g i entries) e ≡ d))
      ⊎ ((e : Entry) × Contains (brought g i entries) e × (has_key current e.0 ≡ false) × (d ≡ (e.0, new_item other e.0 e.1)))
  joined_cases other d has =
      elim (Contains-append_cases (map (joined_entry other (brought g i entries)) current) (map (λ (e : Entry). let r : Entry = (e.0, new_item other e.0 e.1) in r) (filter is_new (brought g i entries))) d has) [
        | inl old ↦ inl (Contains-map_cases (joined_entry other (brought g i entries)) current d old)
        | inr new ↦
            let made = Contains-map_cases (λ (e : Entry). let r : Entry = (e.0, new_item other e.0 e.1) in r) (filter is_new (brought g i entries)) d new in
            let parts = Contains-filter is_new (brought g i entries) made.0 made.1 in
            inr (made.0, parts.0, not_true (has_key current made.0.0) parts.1, sym made.2)
      ]

  pub distinct_joined : (other : Bool) → HasDistinctKeys (joined_entries other current (brought g i entries))
  distinct_joined other =
      joined_apart (map (joined_entry other (brought g i entries)) current) (map (λ (e : Entry). let r : Entry = (e.0, new_item other e.0 e.1) in r) (filter is_new (brought g i entries)))
      (λ a b e f first second same.
      let x = from_map (joined_entry other (brought g i entries)) current a e first in
      let y = from_map (joined_entry other (brought g i entries)) current b f second in
      joins.distinct_current a b x.0 y.0 x.1 y.1 (ap (λ (d : Entry). d.0) x.2 ∙ same ∙ ap (λ (d : Entry). d.0) (sym y.2)))
      (λ a b e f first second same.
      let x = from_map (λ (e : Entry). let r : Entry = (e.0, new_item other e.0 e.1) in r) (filter is_new (brought g i entries)) a e first in
      let y = from_map (λ (e : Entry). let r : Entry = (e.0, new_item other e.0 e.1) in r) (filter is_new (brought g i entries)) b f second in
      distinct_kept is_new (brought g i entries) distinct_brought a b x.0 y.0 x.1 y.1 (ap (λ (d : Entry). d.0) x.2 ∙ same ∙ ap (λ (d : Entry). d.0) (sym y.2)))
      (λ e f first second same.
      let x = Contains-map_cases (joined_entry other (brought g i entries)) current e first in
      let y = Contains-map_cases (λ (e : Entry). let r : Entry = (e.0, new_item other e.0 e.1) in r) (filter is_new (brought g i entries)) f second in
      let absent = not_true (has_key current y.0.0) (Contains-filter is_new (brought g i entries) y.0 y.1).1 in
      let keys : x.0.0 ≡ y.0.0 = ap (λ (d : Entry). d.0) x.2 ∙ same ∙ ap (λ (d : Entry). d.0) (sym y.2) in
      absurd (false≢true (sym absent ∙ ap (has_key current) (sym keys) ∙ has_key-from current x.0 x.1)))

  -- what comes under a label is there
  pub label_comes : (other : Bool) (e : Entry) (n : List ℕ) → Contains entries e → key_image (maps g i) i.from e.0 ≡ key.Name n
      → Contains (joined_entries other current (brought g i entries)) (entry_image (maps g i) i.from e)
  label_comes other e n has is =
      let d = entry_image (maps g i) i.from e in
      let among = Contains-map (entry_image (maps g i) i.from) entries e has in
      let absent : not (has_key current d.0) ≡ true = ap not (label_is_new d n among is) in
      let kept = Contains-filtered is_new (brought g i entries) d among absent in
      let made : Contains (map (λ (e : Entry). let r : Entry = (e.0, new_item other e.0 e.1) in r) (filter is_new (brought g i entries))) (d.0, new_item other d.0 d.1) =
      Contains-map (λ (e : Entry). let r : Entry = (e.0, new_item other e.0 e.1) in r) (filter is_new (brought g i entries)) d kept in
      let same : new_item other d.0 d.1 ≡ d.1 = ap (λ (k : WorldKey). new_item other k d.1) is ∙ new_labelled other n d.1 in
      Contains-append_right (map (joined_entry other (brought g i entries)) current) _ d
      (subst (λ (h : WorldItem). Contains (map (λ (e : Entry). let r : Entry = (e.0, new_item other e.0 e.1) in r) (filter is_new (brought g i entries))) (d.0, h)) same made)
