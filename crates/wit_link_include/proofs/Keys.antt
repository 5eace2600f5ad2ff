-- Keys that are there, and keys that aren't.
use Rattle.std.proofs.Common.{◌≡◌, ◌∙◌, inl, inr, ℕ, zero, suc, Bool, ◌||◌, true, false, cond, List, [], ◌∷◌, ◌++◌, Option, Some, None, IsSome, refl, ap, sym, subst, slice_get, Contains, get_or, position, arith}
use Rattle.std.proofs.lemmas.Bool.{false_from_ne_true}
use Rattle.std.proofs.lemmas.List.Elements.{Contains-append_right, Contains-append_cases}
use Rattle.std.proofs.lemmas.List.Quantifiers.{position-Some}
use Rattle.std.proofs.lemmas.Map.Views.{IsSome-lookup_from_Contains}
use Rattle.std.proofs.lemmas.Option.{slice_get-get_or}
use Rattle.std.specs.Map.{keys_of, lookup}
use Rattle.wit_data.specs.Entries.{Entry}
use Rattle.wit_data.specs.facts.WorldKeyFacts.{key_is, key_laws, same_key}
use Rattle.wit_data.specs.declared.world.WorldItem.{WorldItem}
use Rattle.wit_data.specs.declared.world.WorldKey.{WorldKey}
use Rattle.wit_data.specs.declared.world.WorldKey.TheVariants as key
use Rattle.wit_elaboration.specs.Entries as graph
use Rattle.wit_graph_theory.specs.facts.ListFacts.{Contains-map, Contains-map_cases, contained_at, from_map, place_of}
use Rattle.wit_link_spec.specs.steps.Parts.{has_key}

-- ---- the test of two keys

-- the test of the definitions is that of the code
pub test_is : (j k : WorldKey) → graph.same_key j k ≡ same_key j k
test_is (key.Name m) (key.Name n) = refl
test_is (key.Name m) (key.Interface g) = refl
test_is (key.Interface f) (key.Name n) = refl
test_is (key.Interface f) (key.Interface g) = refl

pub passes : (k : WorldKey) → graph.same_key k k ≡ true
passes k = test_is k k ∙ (key_is k k).1 refl

pub fails : (j k : WorldKey) → (j ≡ k → ⊥) → graph.same_key j k ≡ false
fails j k apart = test_is j k ∙ false_from_ne_true (same_key j k) (λ same. apart ((key_is j k).0 same))

-- ---- keys of lists

-- no entry is under this key
abbrev pub Lacks : List Entry → WorldKey → Type 0
Lacks es k = Contains (keys_of es) k → ⊥

none_some : IsSome {T = WorldItem} None → ⊥
none_some h = cc

pub lacks_from : (k : WorldKey) (es : List Entry) → lookup (same_key k) es ≡ None → Lacks es k
lacks_from k es none has = by (lookup (same_key k) es) none (IsSome-lookup_from_Contains key_laws k es has)
  where
    by : (o : Option WorldItem) → o ≡ None → IsSome o → ⊥
    by None is some = absurd (none_some some)
    by (Some w) is some = cc

-- what lacks a key lacks it in its parts
pub lacks-head : (k : WorldKey) (e : Entry) (es : List Entry) → Lacks (e ∷ es) k → k ≡ e.0 → ⊥
lacks-head k e es lacks same = lacks (contained_at (keys_of (e ∷ es)) 0 k (ap Some (sym same)))

pub lacks-tail : (k : WorldKey) (e : Entry) (es : List Entry) → Lacks (e ∷ es) k → Lacks es k
lacks-tail k e es lacks has = lacks (Contains-append_right (e.0 ∷ []) (keys_of es) k has)

-- ---- look-ups

pub lookup-lacks : (k : WorldKey) (es : List Entry) → Lacks es k → lookup (graph.same_key k) es ≡ None
lookup-lacks k [] lacks = refl
lookup-lacks k (e ∷ es) lacks = rw (fails k e.0 (lacks-head k e es lacks)) (lookup-lacks k es (lacks-tail k e es lacks))

pub lookup-other : (k j : WorldKey) (v : WorldItem) (es : List Entry) → (k ≡ j → ⊥) → lookup (graph.same_key k) (es ++ (j, v) ∷ []) ≡ lookup (graph.same_key k) es
lookup-other k j v [] apart = rw (fails k j apart) refl
lookup-other k j v (e ∷ es) apart = ap (λ (o : Option WorldItem). cond (graph.same_key k e.0) (Some e.1) o) (lookup-other k j v es apart)

pub lookup-last : (k : WorldKey) (v : WorldItem) (es : List Entry) → Lacks es k → lookup (graph.same_key k) (es ++ (k, v) ∷ []) ≡ Some v
lookup-last k v [] lacks = rw (passes k) refl
lookup-last k v (e ∷ es) lacks = rw (fails k e.0 (lacks-head k e es lacks)) (lookup-last k v es (lacks-tail k e es lacks))

pub has_key-lacks : (es : List Entry) (k : WorldKey) → Lacks es k → has_key es k ≡ false
has_key-lacks [] k lacks = refl
has_key-lacks (e ∷ es) k lacks = rw (fails k e.0 (lacks-head k e es lacks)) (has_key-lacks es k (lacks-tail k e es lacks))

pub has_key-has : (es : List Entry) (k : WorldKey) → has_key es k ≡ false → Lacks es k
has_key-has [] k none has = absurd (omega (arith, has.1))
has_key-has (e ∷ es) k none has =
    elim (Contains-append_cases (e.0 ∷ []) (keys_of es) k has) [
      | inl here ↦
          let place = place_of (e.0 ∷ []) k here in
          head place.0 place.1
      | inr there ↦ has_key-has es k (tail (graph.same_key k e.0) none) there
    ]
  where
    tail : (b : Bool) → (b || has_key es k) ≡ false → has_key es k ≡ false
    tail true h = cc
    tail false h = h

    not_same : (b : Bool) → (b || has_key es k) ≡ false → b ≡ true → ⊥
    not_same true h is = cc
    not_same false h is = cc

    head : (i : ℕ) → slice_get (e.0 ∷ []) i ≡ Some k → ⊥
    head zero at = let same : e.0 ≡ k = cc in not_same (graph.same_key k e.0) none (subst (λ (x : WorldKey). graph.same_key k x ≡ true) (sym same) (passes k))
    head (suc i) at = cc

-- ---- the place of a key

-- a place that was found has the key
pub found_key : (k : WorldKey) (es : List Entry) (i : ℕ) → position (same_key k) (keys_of es) ≡ Some i → (w : WorldItem) × (slice_get es i ≡ Some (k, w))
found_key k es i found =
    let is = position-Some (same_key k) (keys_of es) i k found in
    let at : slice_get (keys_of es) i ≡ Some (get_or (keys_of es) i k) = slice_get-get_or (keys_of es) i k is.0 in
    let same : k ≡ get_or (keys_of es) i k = (key_is k (get_or (keys_of es) i k)).0 is.1 in
    let from = from_map (λ (e : Entry). e.0) es i k (at ∙ ap Some (sym same)) in
    let pair : from.0 ≡ (k, from.0.1) = ap (λ (x : WorldKey). (x, from.0.1)) from.2 in
    (from.0.1, from.1 ∙ ap Some pair)

-- the key of what stands at a place is there
pub key_there : (es : List Entry) (i : ℕ) (k : WorldKey) (w : WorldItem) → slice_get es i ≡ Some (k, w) → Contains (keys_of es) k
key_there es i k w at = Contains-map (λ (e : Entry). e.0) es (k, w) (contained_at es i (k, w) at)

-- and what is under a key that is there stands at a place
pub under_key : (es : List Entry) (k : WorldKey) → Contains (keys_of es) k → (w : WorldItem) × Contains es (k, w)
under_key es k has =
    let from = Contains-map_cases (λ (e : Entry). e.0) es k has in
    let pair : from.0 ≡ (k, from.0.1) = ap (λ (x : WorldKey). (x, from.0.1)) from.2 in
    (from.0.1, subst (λ (e : Entry). Contains es e) pair from.1)
