-- Entries whose keys differ: of one list and another, of some of a list, and what keys are there.
use Rattle.std.proofs.Common.{◌≡◌, ◌∙◌, inl, inr, zero, suc, List, [], ◌∷◌, ◌++◌, refl, sym, ap, subst, arith, Contains}
use Rattle.std.specs.Map.{keys_of}
use Rattle.std.proofs.lemmas.List.Elements.{Contains-append_cases}
use Rattle.wit_digraph.specs.facts.MemberFacts.{Contains-cons_cases, Contains-here, Contains-nil, Contains-there}
use Rattle.wit_values.specs.Table.{HasDistinctKeys}
use Rattle.wit_graph_theory.specs.facts.ListFacts.{contained_at, place_of, same_at}

module _ {K V : Type 0} where
  -- the key of an entry is there, and a key that is there is that of an entry
  pub key_of_entry : (es : List (K × V)) (e : K × V) → Contains es e → Contains (keys_of es) e.0
  key_of_entry [] e has = absurd (Contains-nil has)
  key_of_entry (d ∷ es) e has =
      elim (Contains-cons_cases d e es has) [
        | inl same ↦ subst (λ (k : K). Contains (d.0 ∷ keys_of es) k) (ap (λ (p : K × V). p.0) same) (Contains-here d.0 (keys_of es))
        | inr there ↦ Contains-there d.0 e.0 (keys_of es) (key_of_entry es e there)
      ]

  pub entry_of_key : (es : List (K × V)) (k : K) → Contains (keys_of es) k → (e : K × V) × Contains es e × (e.0 ≡ k)
  entry_of_key [] k has = absurd (Contains-nil has)
  entry_of_key (d ∷ es) k has =
      elim (Contains-cons_cases d.0 k (keys_of es) has) [
        | inl same ↦ (d, Contains-here d es, same)
        | inr there ↦ let from = entry_of_key es k there in (from.0, Contains-there d from.0 es from.1, from.2)
      ]

  -- entries of one key are one
  pub same_entry : (es : List (K × V)) → HasDistinctKeys es → (d e : K × V) → Contains es d → Contains es e → d.0 ≡ e.0 → d ≡ e
  same_entry es distinct d e first second same =
      let a = place_of es d first in
      let b = place_of es e second in
      same_at es a.0 b.0 d e (distinct a.0 b.0 d e a.1 b.1 same) a.1 b.1

  pub tail_distinct : (e : K × V) (es : List (K × V)) → HasDistinctKeys (e ∷ es) → HasDistinctKeys es
  tail_distinct e es distinct i j a b first second same = let one : suc i ≡ suc j = distinct (suc i) (suc j) a b first second same in omega arith

  pub head_apart : (e : K × V) (es : List (K × V)) → HasDistinctKeys (e ∷ es) → (d : K × V) → Contains es d → e.0 ≡ d.0 → ⊥
  head_apart e es distinct d has same = let place = place_of es d has in let one : 0 ≡ suc place.0 = distinct 0 (suc place.0) e d refl place.1 same in omega arith

  pub more_distinct : (e : K × V) (es : List (K × V)) → HasDistinctKeys es → ((d : K × V) → Contains es d → e.0 ≡ d.0 → ⊥) → HasDistinctKeys (e ∷ es)
  more_distinct e es distinct apart zero zero a b first second same = refl
  more_distinct e es distinct apart zero (suc j) a b first second same =
      let here : e ≡ a = cc in
      absurd (apart b (contained_at es j b second) (ap (λ (p : K × V). p.0) here ∙ same))
  more_distinct e es distinct apart (suc i) zero a b first second same =
      let here : e ≡ b = cc in
      absurd (apart a (contained_at es i a first) (ap (λ (p : K × V). p.0) here ∙ sym same))
  more_distinct e es distinct apart (suc i) (suc j) a b first second same = ap suc (distinct i j a b first second same)

  -- two lists without a key of both
  pub joined_distinct : (es fs : List (K × V)) → HasDistinctKeys es → HasDistinctKeys fs → ((k : K) → Contains (keys_of es) k → Contains (keys_of fs) k → ⊥) → HasDistinctKeys (es ++ fs)
  joined_distinct [] fs first second apart = second
  joined_distinct (e ∷ es) fs first second apart =
      more_distinct e (es ++ fs) (joined_distinct es fs (tail_distinct e es first) second (λ k has other. apart k (Contains-there e.0 k (keys_of es) has) other))
      (λ d has same. elim (Contains-append_cases es fs d has) [
        | inl among ↦ head_apart e es first d among same
        | inr among ↦ apart e.0 (Contains-here e.0 (keys_of es)) (subst (Contains (keys_of fs)) (sym same) (key_of_entry fs d among))
      ])
