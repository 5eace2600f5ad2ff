-- The steps of joining: a list that is joined to some entries, and one entry more.
use Rattle.std.proofs.Common.{◌≡◌, ◌∙◌, ◌⊎◌, inl, inr, ℕ, zero, suc, ◌<◌, Bool, true, false, cond, not, List, [], ◌∷◌, ◌++◌, Option, Some, None, map, filter, take, length, refl, ap, sym, subst, slice_get, Contains, arith}
use Rattle.std.proofs.lemmas.List.{append_assoc, append-nil, map-append}
use Rattle.std.proofs.lemmas.List.Elements.{Contains-append_cases, Contains-append_left, Contains-append_right, filter-append}
use Rattle.std.proofs.lemmas.Map.Views.{lookup-from_Contains}
use Rattle.std.proofs.lemmas.Option.{slice_get_within}
use Rattle.std.specs.List.{AllByRecursion, IsDistinct}
use Rattle.std.specs.Map.{keys_of, lookup}
use Rattle.std.specs.Option.{option_map_or}
use Rattle.indexmap.specs.Layout.{set_value_at}
use Rattle.wit_values.specs.facts.Lists.{key_at, push-cases, slice_get-append, slice_get-behind}
use Rattle.wit_data.specs.Entries.{Entry}
use Rattle.wit_data.specs.facts.WorldKeyFacts.{key_is, key_laws, same_key}
use Rattle.wit_data.specs.declared.stability.Docs.{Docs}
use Rattle.wit_data.specs.declared.stability.Stability.{Stability}
use Rattle.wit_data.specs.declared.world.WorldItem.{WorldItem}
use Rattle.wit_data.specs.declared.world.WorldKey.{WorldKey}
use Rattle.wit_data.specs.declared.world.WorldItem.TheVariants as item
use Rattle.wit_data.specs.declared.world.WorldKey.TheVariants as key
use Rattle.wit_elaboration.specs.Entries as graph
use Rattle.wit_graph_data.specs.Error.{NoCause}
use Rattle.wit_graph_data.specs.declared.error_kind.ResolveErrorKind.{ResolveErrorKind}
use Rattle.wit_graph_data.specs.declared.error_kind.ResolveErrorKind.TheVariants.{ItemShadowing}
use Rattle.wit_graph_theory.specs.facts.ListFacts.{Contains-map, contained_at, from_map, old_or_new, place_of}
use Rattle.wit_link_spec.specs.Gates.{OptionalSpan}
use Rattle.wit_link_spec.specs.Include.{joined_entries, new_item}
use Rattle.wit_remap_spec.specs.Joined.{include_stability, joined_entry, joined_item, Disagree}
use Rattle.wit_link_spec.specs.WorldReasons.{IsShadowed}
use Rattle.wit_link_include.specs.steps.Included.{ComeOnce, IsItemError, IsJoinError, ItemsAgree, JoinIsAccepted, StabilitiesDiffer, StandsWith, item_shadowing_7, stability_mismatch_8}
use Rattle.wit_link_include.proofs.Keys.{Lacks, has_key-has, has_key-lacks, key_there, lacks-head, lacks-tail, lookup-lacks, lookup-last, lookup-other, under_key}
use Rattle.wit_link_spec.specs.steps.Parts.{has_key}

-- ---- what a joined list has

-- an entry as it comes anew
abbrev pub come : Bool → Entry → Entry
come other e = (e.0, new_item other e.0 e.1)

-- those that come anew
abbrev pub coming : Bool → List Entry → List Entry → List Entry
coming other current brought = map (come other) (filter (λ (e : Entry). not (has_key current e.0)) brought)

kept-keys : (other : Bool) (brought es : List Entry) → keys_of (map (joined_entry other brought) es) ≡ keys_of es
kept-keys other brought [] = refl
kept-keys other brought (e ∷ es) = ap (λ (ks : List WorldKey). e.0 ∷ ks) (kept-keys other brought es)

coming-key : (other : Bool) (current brought : List Entry) (k : WorldKey) → Contains (keys_of (coming other current brought)) k → Contains (keys_of brought) k
coming-key other current [] k has = absurd (omega (arith, has.1))
coming-key other current (e ∷ es) k has = by (has_key current e.0) (coming-key other current es k) has
  where
    by : (b : Bool) → (Contains (keys_of (coming other current es)) k → Contains (keys_of es) k)
        → Contains (keys_of (map (come other) (cond (not b) (e ∷ filter (λ (d : Entry). not (has_key current d.0)) es) (filter (λ (d : Entry). not (has_key current d.0)) es)))) k → Contains (keys_of (e ∷ es)) k
    by true rest h = Contains-append_right (e.0 ∷ []) (keys_of es) k (rest h)
    by false rest h =
        elim (Contains-append_cases (e.0 ∷ []) (keys_of (coming other current es)) k h) [
          | inl here ↦ Contains-append_left (e.0 ∷ []) (keys_of es) k here
          | inr there ↦ Contains-append_right (e.0 ∷ []) (keys_of es) k (rest there)
        ]

comes-key : (other : Bool) (current brought : List Entry) (k : WorldKey) → Lacks current k → Contains (keys_of brought) k → Contains (keys_of (coming other current brought)) k
comes-key other current [] k lacks has = absurd (omega (arith, has.1))
comes-key other current (e ∷ es) k lacks has =
    elim (Contains-append_cases (e.0 ∷ []) (keys_of es) k has) [
      | inl here ↦ let place = place_of (e.0 ∷ []) k here in head place.0 place.1
      | inr there ↦ by (has_key current e.0) (comes-key other current es k lacks there)
    ]
  where
    by : (b : Bool) → Contains (keys_of (coming other current es)) k
        → Contains (keys_of (map (come other) (cond (not b) (e ∷ filter (λ (d : Entry). not (has_key current d.0)) es) (filter (λ (d : Entry). not (has_key current d.0)) es)))) k
    by true h = h
    by false h = Contains-append_right (e.0 ∷ []) (keys_of (coming other current es)) k h

    head : (i : ℕ) → slice_get (e.0 ∷ []) i ≡ Some k → Contains (keys_of (coming other current (e ∷ es))) k
    head zero at =
        let same : e.0 ≡ k = cc in
        let absent : has_key current e.0 ≡ false = subst (λ (x : WorldKey). has_key current x ≡ false) (sym same) (has_key-lacks current k lacks) in
        rw absent (Contains-append_left (e.0 ∷ []) (keys_of (coming other current es)) k (contained_at (e.0 ∷ []) 0 k at))
    head (suc i) at = cc

keys-joined_entries : (other : Bool) (current brought : List Entry) → keys_of (joined_entries other current brought) ≡ keys_of current ++ keys_of (coming other current brought)
keys-joined_entries other current brought =
    map-append (λ (e : Entry). e.0) (map (joined_entry other brought) current) (coming other current brought) ∙ ap (λ (ks : List WorldKey). ks ++ keys_of (coming other current brought)) (kept-keys other brought current)

-- a key of a joined list was there or came
pub joined_entries-key : (other : Bool) (current brought : List Entry) (k : WorldKey) → Contains (keys_of (joined_entries other current brought)) k → Contains (keys_of current ++ keys_of brought) k
joined_entries-key other current brought k has =
    elim (Contains-append_cases (keys_of current) (keys_of (coming other current brought)) k (subst (λ (ks : List WorldKey). Contains ks k) (keys-joined_entries other current brought) has)) [
      | inl old ↦ Contains-append_left (keys_of current) (keys_of brought) k old
      | inr new ↦ Contains-append_right (keys_of current) (keys_of brought) k (coming-key other current brought k new)
    ]

-- and what was there or came is there
pub lacks-current : (other : Bool) (current brought : List Entry) (k : WorldKey) → Lacks (joined_entries other current brought) k → Lacks current k
lacks-current other current brought k lacks has =
    lacks (subst (λ (ks : List WorldKey). Contains ks k) (sym (keys-joined_entries other current brought)) (Contains-append_left (keys_of current) (keys_of (coming other current brought)) k has))

pub lacks-brought : (other : Bool) (current brought : List Entry) (k : WorldKey) → Lacks (joined_entries other current brought) k → Lacks brought k
lacks-brought other current brought k lacks has =
    lacks (subst (λ (ks : List WorldKey). Contains ks k) (sym (keys-joined_entries other current brought))
    (Contains-append_right (keys_of current) (keys_of (coming other current brought)) k (comes-key other current brought k (lacks-current other current brought k lacks) has)))

-- ---- one entry more, under a new key

map-other : (other : Bool) (brought : List Entry) (k : WorldKey) (v : WorldItem) (es : List Entry) → Lacks es k → map (joined_entry other (brought ++ (k, v) ∷ [])) es ≡ map (joined_entry other brought) es
map-other other brought k v [] lacks = refl
map-other other brought k v (e ∷ es) lacks =
    let apart : e.0 ≡ k → ⊥ = λ (same : e.0 ≡ k). lacks-head k e es lacks (sym same) in
    rw (lookup-other e.0 k v brought apart, map-other other brought k v es (lacks-tail k e es lacks)) refl

pub joined_entries-new : (other : Bool) (current brought : List Entry) (k : WorldKey) (v : WorldItem) → Lacks (joined_entries other current brought) k
    → joined_entries other current (brought ++ (k, v) ∷ []) ≡ joined_entries other current brought ++ (k, new_item other k v) ∷ []
joined_entries-new other current brought k v lacks =
    let lacked = lacks-current other current brought k lacks in
    let old = map-other other brought k v current lacked in
    let split = filter-append (λ (e : Entry). not (has_key current e.0)) brought ((k, v) ∷ []) in
    let absent : has_key current k ≡ false = has_key-lacks current k lacked in
    let last : filter (λ (e : Entry). not (has_key current e.0)) ((k, v) ∷ []) ≡ (k, v) ∷ [] = ap (λ (b : Bool). cond (not b) ((k, v) ∷ []) []) absent in
    let new : coming other current (brought ++ (k, v) ∷ []) ≡ coming other current brought ++ (k, new_item other k v) ∷ [] =
    ap (map (come other)) (split ∙ ap (λ (es : List Entry). filter (λ (e : Entry). not (has_key current e.0)) brought ++ es) last)
    ∙ map-append (come other) (filter (λ (e : Entry). not (has_key current e.0)) brought) ((k, v) ∷ []) in
    ap (λ (es : List Entry). es ++ coming other current (brought ++ (k, v) ∷ [])) old ∙ ap (λ (es : List Entry). map (joined_entry other brought) current ++ es) new
    ∙ sym (append_assoc (map (joined_entry other brought) current) (coming other current brought) ((k, new_item other k v) ∷ []))

-- ---- one entry more, under a key that is there

-- what stands under a key that didn't come is as it was
kept-item : (other : Bool) (brought : List Entry) (e : Entry) (k : WorldKey) (into : WorldItem) → Lacks brought k → joined_entry other brought e ≡ (k, into) → e ≡ (k, into)
kept-item other brought e k into lacks is =
    let same : e.0 ≡ k = ap (λ (d : Entry). d.0) is in
    let none : lookup (graph.same_key e.0) brought ≡ None = lookup-lacks e.0 brought (subst (Lacks brought) (sym same) lacks) in
    let held : e.1 ≡ into = sym (ap (λ (o : Option WorldItem). option_map_or (λ (from : WorldItem). joined_item other from e.1) o e.1) none) ∙ ap (λ (d : Entry). d.1) is in
    ap (λ (x : WorldKey). (x, e.1)) same ∙ ap (λ (x : WorldItem). (k, x)) held

set-there : (other : Bool) (brought : List Entry) (k : WorldKey) (v : WorldItem) (es fs : List Entry) (i : ℕ) (into : WorldItem) → Lacks brought k → Lacks fs k
    → IsDistinct same_key (keys_of (map (joined_entry other brought) es ++ fs)) → slice_get (map (joined_entry other brought) es ++ fs) i ≡ Some (k, into)
    → map (joined_entry other (brought ++ (k, v) ∷ [])) es ++ fs ≡ set_value_at (map (joined_entry other brought) es ++ fs) i (joined_item other v into)
unfolding IsDistinct
set-there other brought k v [] fs i into lacks lacked distinct at = absurd (lacked (key_there fs i k into at))
set-there other brought k v (e ∷ es) fs zero into lacks lacked distinct at =
    let same : joined_entry other brought e ≡ (k, into) = cc in
    let is : e ≡ (k, into) = kept-item other brought e k into lacks same in
    let here : joined_entry other (brought ++ (k, v) ∷ []) e ≡ (k, joined_item other v into) =
    ap (joined_entry other (brought ++ (k, v) ∷ [])) is ∙ ap (λ (o : Option WorldItem). (k, option_map_or (λ (from : WorldItem). joined_item other from into) o into)) (lookup-last k v brought lacks) in
    let front : e.0 ≡ k = ap (λ (d : Entry). d.0) is in
    let others : Lacks es k = λ (has : Contains (keys_of es) k).
    let place = place_of (keys_of es) k has in
    behind es place.0 place.1 (subst (λ (x : WorldKey). IsDistinct same_key (x ∷ keys_of (map (joined_entry other brought) es ++ fs))) front distinct) in
    ap (λ (d : Entry). d ∷ (map (joined_entry other (brought ++ (k, v) ∷ [])) es ++ fs)) here
    ∙ ap (λ (ds : List Entry). (k, joined_item other v into) ∷ (ds ++ fs)) (map-other other brought k v es others)
    ∙ ap (λ (x : WorldKey). (x, joined_item other v into) ∷ (map (joined_entry other brought) es ++ fs)) (sym front)
  where
    behind : (ds : List Entry) (j : ℕ) → slice_get (keys_of ds) j ≡ Some k → IsDistinct same_key (k ∷ keys_of (map (joined_entry other brought) ds ++ fs)) → ⊥
    behind [] j there apart = cc
    behind (d ∷ ds) zero there apart =
        let called : d.0 ≡ k = cc in
        let holds : same_key k d.0 ≡ true = (key_is k d.0).1 (sym called) in
        cc (apart.0.0, holds)
    behind (d ∷ ds) (suc j) there apart = behind ds j there (apart.0.1, apart.1.1)
set-there other brought k v (e ∷ es) fs (suc i) into lacks lacked distinct at =
    let apart : e.0 ≡ k → ⊥ = λ (same : e.0 ≡ k).
    let differs : same_key e.0 k ≡ false = key_at (λ (y : WorldKey). same_key e.0 y ≡ false) (map (joined_entry other brought) es ++ fs) i k into distinct.0 at in
    let holds : same_key e.0 k ≡ true = (key_is e.0 k).1 same in
    cc in
    rw (lookup-other e.0 k v brought apart)
    (ap (λ (ds : List Entry). joined_entry other brought e ∷ ds) (set-there other brought k v es fs i into lacks lacked distinct.1 at))

-- what is at a place of a joined list under a key that didn't come was there
pub there-before : (other : Bool) (current brought : List Entry) (k : WorldKey) (into : WorldItem) (i : ℕ) → Lacks brought k → slice_get (joined_entries other current brought) i ≡ Some (k, into) → Contains current (k, into)
there-before other current brought k into i lacks at =
    elim (old_or_new (map (joined_entry other brought) current) (coming other current brought) i (k, into) at) [
      | inl old ↦
          let from = from_map (joined_entry other brought) current i (k, into) old in
          subst (Contains current) (kept-item other brought from.0 k into lacks from.2) (contained_at current i from.0 from.1)
      | inr new ↦ absurd (lacks (coming-key other current brought k (key_there (coming other current brought) new.0 k into new.2)))
    ]

pub joined_entries-there : (other : Bool) (current brought : List Entry) (k : WorldKey) (v into : WorldItem) (i : ℕ) → Lacks brought k → IsDistinct same_key (keys_of (joined_entries other current brought))
    → slice_get (joined_entries other current brought) i ≡ Some (k, into) → joined_entries other current (brought ++ (k, v) ∷ []) ≡ set_value_at (joined_entries other current brought) i (joined_item other v into)
joined_entries-there other current brought k v into i lacks distinct at =
    let there : Contains current (k, into) = there-before other current brought k into i lacks at in
    let has : Contains (keys_of current) k = Contains-map (λ (e : Entry). e.0) current (k, into) there in
    let present : has_key current k ≡ true = present_by (has_key current k) refl has in
    let last : filter (λ (e : Entry). not (has_key current e.0)) ((k, v) ∷ []) ≡ [] = ap (λ (b : Bool). cond (not b) ((k, v) ∷ []) []) present in
    let same : coming other current (brought ++ (k, v) ∷ []) ≡ coming other current brought =
    ap (map (come other)) (filter-append (λ (e : Entry). not (has_key current e.0)) brought ((k, v) ∷ []) ∙ ap (λ (es : List Entry). filter (λ (e : Entry). not (has_key current e.0)) brought ++ es) last ∙ append-nil (filter (λ (e : Entry). not (has_key current e.0)) brought)) in
    let lacked : Lacks (coming other current brought) k = λ (came : Contains (keys_of (coming other current brought)) k). lacks (coming-key other current brought k came) in
    ap (λ (es : List Entry). map (joined_entry other (brought ++ (k, v) ∷ [])) current ++ es) same
    ∙ set-there other brought k v current (coming other current brought) i into lacks lacked distinct at
  where
    present_by : (b : Bool) → has_key current k ≡ b → Contains (keys_of current) k → has_key current k ≡ true
    present_by true is has = is
    present_by false is has = absurd (has_key-has current k is has)

-- ---- no cause holds against one entry more

-- what is taken of a list stays where one comes behind it
take-front : {X : Type 0} (xs : List X) (x y : X) (j : ℕ) → slice_get xs j ≡ Some y → take j (xs ++ x ∷ []) ≡ take j xs
take-front [] x y j at = cc
take-front (z ∷ zs) x y zero at = refl
take-front {X} (z ∷ zs) x y (suc j) at = ap (λ (l : List X). z ∷ l) (take-front zs x y j at)

take-before : {X : Type 0} (xs ys : List X) → take (length xs) (xs ++ ys) ≡ xs
take-before [] [] = refl
take-before [] (y ∷ ys) = refl
take-before {X} (x ∷ xs) ys = ap (λ (l : List X). x ∷ l) (take-before xs ys)

one-key : (k : WorldKey) (v : WorldItem) (done : List Entry) → keys_of (done ++ (k, v) ∷ []) ≡ keys_of done ++ k ∷ []
one-key k v done = map-append (λ (e : Entry). e.0) done ((k, v) ∷ [])

unshadowed-more : (current done : List Entry) (k : WorldKey) (v : WorldItem) → ((name : List ℕ) → IsShadowed current (keys_of done) name → ⊥)
    → ((name : List ℕ) → k ≡ key.Name name → Contains (keys_of current ++ keys_of done) k → ⊥) → (name : List ℕ) → IsShadowed current (keys_of (done ++ (k, v) ∷ [])) name → ⊥
unshadowed-more current done k v earlier last name is =
    let at : slice_get (keys_of done ++ k ∷ []) is.0 ≡ Some (key.Name name) = subst (λ (ks : List WorldKey). slice_get ks is.0 ≡ Some (key.Name name)) (one-key k v done) is.1 in
    let there : Contains (keys_of current ++ take is.0 (keys_of done ++ k ∷ [])) (key.Name name) = subst (λ (ks : List WorldKey). Contains (keys_of current ++ take is.0 ks) (key.Name name)) (one-key k v done) is.2 in
    elim (push-cases (keys_of done) k is.0 (key.Name name) at) [
      | inl old ↦
          earlier name (is.0, old, subst (λ (ks : List WorldKey). Contains (keys_of current ++ ks) (key.Name name)) (take-front (keys_of done) k (key.Name name) is.0 old) there)
      | inr new ↦
          let behind : Contains (keys_of current ++ keys_of done) (key.Name name) =
          subst (λ (ks : List WorldKey). Contains (keys_of current ++ ks) (key.Name name)) (ap (λ (j : ℕ). take j (keys_of done ++ k ∷ [])) new.0 ∙ take-before (keys_of done) (k ∷ [])) there in
          last name (sym new.1) (subst (Contains (keys_of current ++ keys_of done)) new.1 behind)
    ]

-- the one more entry brings this stability
abbrev Brings : WorldKey → WorldItem → ℕ → Stability → Type 0
Brings k v i stability = (id : ℕ) × (docs : Docs) × (place : OptionalSpan) × (external_id : Option (List ℕ)) × ◌≡◌ {A = Entry} (k, v) (key.Interface i, item.Interface id stability docs place external_id)

agree-more : (other : Bool) (current done : List Entry) (k : WorldKey) (v : WorldItem) → ((brings has : Stability) → StabilitiesDiffer other current done brings has → ⊥)
    → ((brings has : Stability) (i : ℕ) → StandsWith current i has → Brings k v i brings → Disagree brings has → include_stability other brings has ≡ brings → ⊥)
    → (brings has : Stability) → StabilitiesDiffer other current (done ++ (k, v) ∷ []) brings has → ⊥
agree-more other current done k v earlier last brings has is =
    let entry : Entry = (key.Interface is.i, item.Interface is.comes.0 brings is.comes.1 is.comes.2 is.comes.3) in
    elim (Contains-append_cases done ((k, v) ∷ []) entry is.comes.4) [
      | inl before ↦ earlier brings has (record { i = is.i; there = is.there; comes = (is.comes.0, is.comes.1, is.comes.2, is.comes.3, before); apart = is.apart; counts = is.counts })
      | inr new ↦ last brings has is.i is.there (is.comes.0, is.comes.1, is.comes.2, is.comes.3, only new) is.apart is.counts
    ]
  where
    only : {e : Entry} → Contains ((k, v) ∷ []) e → (k, v) ≡ e
    only {e} has = let place = place_of ((k, v) ∷ []) e has in at place.0 place.1
      where
        at : (j : ℕ) → slice_get ((k, v) ∷ []) j ≡ Some e → (k, v) ≡ e
        at zero there = cc
        at (suc j) there = cc

-- ---- the state of joining

-- so many entries are joined, and no cause holds against them
pub record IsJoining (other : Bool) (current done entries : List Entry) : Type 0 where
  pub is : entries ≡ joined_entries other current done
  pub unshadowed : (name : List ℕ) → IsShadowed current (keys_of done) name → ⊥
  pub agree : (brings has : Stability) → StabilitiesDiffer other current done brings has → ⊥

-- so joining them is refused for nothing
pub joining_accepted : (other : Bool) (span : OptionalSpan) (word : List ℕ) (current done entries : List Entry) → IsJoining other current done entries → JoinIsAccepted other span word current done
joining_accepted other span word current done entries joining = record { no_cause = none }
  where
    none : NoCause (IsJoinError other span word current done)
    none _ (item_shadowing_7 name is) = joining.unshadowed name is
    none _ (stability_mismatch_8 brings has is) = joining.agree brings has is

joined_entries-none : (other : Bool) (es : List Entry) → map (joined_entry other []) es ≡ es
joined_entries-none other [] = refl
joined_entries-none other (e ∷ es) = ap (λ (ds : List Entry). e ∷ ds) (joined_entries-none other es)

none_at : {X : Type 0} (i : ℕ) (x : X) → slice_get [] i ≡ Some x → ⊥
none_at i x at = cc

no-place : {X : Type 0} (x : X) → Contains [] x → ⊥
no-place x has = absurd (omega (arith, has.1))

pub joining-none : (other : Bool) (current : List Entry) → IsJoining other current [] current
joining-none other current = record {
  is = sym (append-nil (map (joined_entry other []) current) ∙ joined_entries-none other current);
  unshadowed = λ name is. none_at is.0 (key.Name name) is.1;
  agree = λ brings has is. no-place (key.Interface is.i, item.Interface is.comes.0 brings is.comes.1 is.comes.2 is.comes.3) is.comes.4;
}

stands-key : (es : List Entry) (i : ℕ) (stability : Stability) → StandsWith es i stability → Contains (keys_of es) (key.Interface i)
stands-key es i stability stands = Contains-map (λ (e : Entry). e.0) es (key.Interface i, item.Interface stands.0 stability stands.1 stands.2 stands.3) stands.4

-- an entry under a new key
pub joining-new : (other : Bool) (current done entries entries' : List Entry) (k : WorldKey) (v : WorldItem) → IsJoining other current done entries → Lacks entries k
    → entries' ≡ entries ++ (k, new_item other k v) ∷ [] → IsJoining other current (done ++ (k, v) ∷ []) entries'
joining-new other current done entries entries' k v joining lacks is =
    let lacked : Lacks (joined_entries other current done) k = subst (λ (es : List Entry). Lacks es k) joining.is lacks in
    let not_here = lacks-current other current done k lacked in
    let not_come = lacks-brought other current done k lacked in
    record {
      is = is ∙ ap (λ (es : List Entry). es ++ (k, new_item other k v) ∷ []) joining.is ∙ sym (joined_entries-new other current done k v lacked);
      unshadowed = unshadowed-more current done k v joining.unshadowed
          (λ name same has. elim (Contains-append_cases (keys_of current) (keys_of done) k has) [ inl old ↦ not_here old | inr new ↦ not_come new ]);
      agree = agree-more other current done k v joining.agree
          (λ brings has i stands comes apart counts. not_here (subst (Contains (keys_of current)) (sym (ap (λ (e : Entry). e.0) comes.4)) (stands-key current i has stands)));
    }

all-front : (P : WorldKey → Type 0) (es fs : List WorldKey) → AllByRecursion P (es ++ fs) → AllByRecursion P es
all-front P [] fs all = tt
all-front P (k ∷ ks) fs all = (all.0, all-front P ks fs all.1)

-- keys that differ, at the front of a list
distinct-front : (es fs : List WorldKey) → IsDistinct same_key (es ++ fs) → IsDistinct same_key es
unfolding IsDistinct
distinct-front [] fs distinct = tt
distinct-front (k ∷ ks) fs distinct = (all-front (λ (y : WorldKey). same_key k y ≡ false) ks fs distinct.0, distinct-front ks fs distinct.1)

one-item : (es : List Entry) (k : WorldKey) (v w : WorldItem) → IsDistinct same_key (keys_of es) → Contains es (k, v) → Contains es (k, w) → v ≡ w
one-item es k v w distinct first second =
    let same : Some v ≡ Some w = sym (lookup-from_Contains key_laws k v es distinct first) ∙ lookup-from_Contains key_laws k w es distinct second in
    cc

-- an entry under the key of an interface that is there
pub joining-there : (other : Bool) (current done entries entries' : List Entry) (k : WorldKey) (v into : WorldItem) (n i : ℕ) → IsJoining other current done entries → k ≡ key.Interface n
    → Lacks done k → IsDistinct same_key (keys_of entries) → slice_get entries i ≡ Some (k, into) → ItemsAgree other v into → entries' ≡ set_value_at entries i (joined_item other v into)
    → IsJoining other current (done ++ (k, v) ∷ []) entries'
joining-there other current done entries entries' k v into n i joining called lacks distinct at agree is =
    let apart : IsDistinct same_key (keys_of (joined_entries other current done)) = subst (λ (es : List Entry). IsDistinct same_key (keys_of es)) joining.is distinct in
    let here : slice_get (joined_entries other current done) i ≡ Some (k, into) = subst (λ (es : List Entry). slice_get es i ≡ Some (k, into)) joining.is at in
    let there : Contains current (k, into) = there-before other current done k into i lacks here in
    let front : IsDistinct same_key (keys_of current) = distinct-front (keys_of current) (keys_of (coming other current done)) (subst (IsDistinct same_key) (keys-joined_entries other current done) apart) in
    record {
      is = is ∙ ap (λ (es : List Entry). set_value_at es i (joined_item other v into)) joining.is ∙ sym (joined_entries-there other current done k v into i lacks apart here);
      unshadowed = unshadowed-more current done k v joining.unshadowed (λ name same has. cc);
      agree = agree-more other current done k v joining.agree
          (λ brings has j stands comes differ counts.
          let key_is : k ≡ key.Interface j = ap (λ (e : Entry). e.0) comes.4 in
          let brought_is : v ≡ item.Interface comes.0 brings comes.1 comes.2 comes.3 = ap (λ (e : Entry). e.1) comes.4 in
          let has_it : Contains current (k, item.Interface stands.0 has stands.1 stands.2 stands.3) =
          subst (λ (x : WorldKey). Contains current (x, item.Interface stands.0 has stands.1 stands.2 stands.3)) (sym key_is) stands.4 in
          let into_is : into ≡ item.Interface stands.0 has stands.1 stands.2 stands.3 = one-item current k into (item.Interface stands.0 has stands.1 stands.2 stands.3) front there has_it in
          let both : ItemsAgree other (item.Interface comes.0 brings comes.1 comes.2 comes.3) (item.Interface stands.0 has stands.1 stands.2 stands.3) =
          subst (λ (x : WorldItem). ItemsAgree other x (item.Interface stands.0 has stands.1 stands.2 stands.3)) brought_is (subst (λ (x : WorldItem). ItemsAgree other v x) into_is agree) in
          both differ counts);
    }

-- ---- why it is refused

-- the place of an entry behind those that are done
behind-done : (brought done rest : List Entry) (e : Entry) → done ++ e ∷ rest ≡ brought → slice_get brought (length done) ≡ Some e
behind-done brought done rest e are = subst (λ (es : List Entry). slice_get es (length done) ≡ Some e) are (slice_get-behind done rest e)

-- an interface that comes once didn't come before
pub not-done : (brought done rest : List Entry) (n : ℕ) (v : WorldItem) → ComeOnce brought → done ++ (key.Interface n, v) ∷ rest ≡ brought → Lacks done (key.Interface n)
not-done brought done rest n v once are has =
    let under = under_key done (key.Interface n) has in
    let place = place_of done (key.Interface n, under.0) under.1 in
    let first : slice_get brought place.0 ≡ Some (key.Interface n, under.0) =
    subst (λ (es : List Entry). slice_get es place.0 ≡ Some (key.Interface n, under.0)) are (slice_get-append done ((key.Interface n, v) ∷ rest) place.0 (key.Interface n, under.0) place.1) in
    let same : place.0 ≡ length done = once place.0 (length done) n under.0 v first (behind-done brought done rest (key.Interface n, v) are) in
    let within : place.0 < length done = slice_get_within done place.0 (key.Interface n, under.0) place.1 in
    absurd (omega arith)

pub shadow-cause : (other : Bool) (span : OptionalSpan) (word label : List ℕ) (current brought done rest entries : List Entry) (v into : WorldItem) (i : ℕ) → IsJoining other current done entries
    → done ++ (key.Name label, v) ∷ rest ≡ brought → slice_get entries i ≡ Some (key.Name label, into) → IsJoinError other span word current brought (ItemShadowing span word label)
shadow-cause other span word label current brought done rest entries v into i joining are at =
    item_shadowing_7 label (
      length (keys_of done),
      subst (λ (ks : List WorldKey). slice_get ks (length (keys_of done)) ≡ Some (key.Name label)) (sym keys_are) (slice_get-behind (keys_of done) (keys_of rest) (key.Name label)),
      subst (λ (ks : List WorldKey). Contains (keys_of current ++ ks) (key.Name label)) (sym (ap (take (length (keys_of done))) keys_are ∙ take-before (keys_of done) (key.Name label ∷ keys_of rest)))
          (joined_entries-key other current done (key.Name label) (subst (λ (es : List Entry). Contains (keys_of es) (key.Name label)) joining.is (key_there entries i (key.Name label) into at))),
    )
  where
    keys_are : keys_of brought ≡ keys_of done ++ key.Name label ∷ keys_of rest
    keys_are = ap keys_of (sym are) ∙ map-append (λ (e : Entry). e.0) done ((key.Name label, v) ∷ rest)

differ-from : (other : Bool) (span : OptionalSpan) (word : List ℕ) (current brought : List Entry) (n : ℕ) (v into : WorldItem) (kind : ResolveErrorKind) → Contains current (key.Interface n, into)
    → Contains brought (key.Interface n, v) → IsItemError other span v into kind → IsJoinError other span word current brought kind
differ-from other span word current brought n (item.Interface a from docs place external_id) (item.Interface b into docs' place' external_id') kind there comes is =
    subst (IsJoinError other span word current brought) (sym is.0) (stability_mismatch_8 from into (record {
      i = n;
      there = (b, docs', place', external_id', there);
      comes = (a, docs, place, external_id, comes);
      apart = is.1;
      counts = is.2;
    }))
differ-from other span word current brought n (item.Interface a from docs place external_id) (item.Function f) kind there comes is = absurd is
differ-from other span word current brought n (item.Interface a from docs place external_id) (item.Type_ t s) kind there comes is = absurd is
differ-from other span word current brought n (item.Function f) into kind there comes is = absurd is
differ-from other span word current brought n (item.Type_ t s) into kind there comes is = absurd is

pub differ-cause : (other : Bool) (span : OptionalSpan) (word : List ℕ) (current brought done rest entries : List Entry) (n : ℕ) (v into : WorldItem) (i : ℕ) (kind : ResolveErrorKind) → IsJoining other current done entries
    → ComeOnce brought → done ++ (key.Interface n, v) ∷ rest ≡ brought → slice_get entries i ≡ Some (key.Interface n, into) → IsItemError other span v into kind
    → IsJoinError other span word current brought kind
differ-cause other span word current brought done rest entries n v into i kind joining once are at is =
    let here : slice_get (joined_entries other current done) i ≡ Some (key.Interface n, into) = subst (λ (es : List Entry). slice_get es i ≡ Some (key.Interface n, into)) joining.is at in
    let there = there-before other current done (key.Interface n) into i (not-done brought done rest n v once are) here in
    differ-from other span word current brought n v into kind there (contained_at brought (length done) (key.Interface n, v) (behind-done brought done rest (key.Interface n, v) are)) is
