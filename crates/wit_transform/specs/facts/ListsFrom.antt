-- What the lists of a transformed world have of the lists that they were.
use Rattle.std.proofs.Common.{◌≡◌, inl, inr, ℕ, zero, suc, Bool, true, false, List, [], ◌∷◌, ◌++◌, Option, None, Some, slice_get, refl, sym, ap, ◌∙◌, subst, Contains, if◌then◌else◌}
use Rattle.std.specs.Map.{keys_of}
use Rattle.std.proofs.lemmas.List.Elements.{Contains-append_cases, Contains-append_left, Contains-append_right}
use Rattle.wit_data.specs.declared.world.World.{World}
use Rattle.wit_data.specs.declared.world.WorldItem.{WorldItem}
use Rattle.wit_data.specs.declared.world.WorldKey.{WorldKey}
use Rattle.wit_data.specs.declared.world.WorldItem.TheVariants as item
use Rattle.wit_data.specs.declared.world.WorldKey.TheVariants as key
use Rattle.wit_digraph.specs.facts.MemberFacts.{Contains-cons_cases, Contains-here, Contains-nil, Contains-there}
use Rattle.wit_elaboration.specs.facts.Filters.{Contains-filter, Contains-filtered}
use Rattle.wit_elaboration.specs.Entries.{Entry}
use Rattle.wit_values.specs.facts.Lists.{HasDistinctKeys-nil}
use Rattle.wit_values.specs.Table.{HasDistinctKeys}
use Rattle.wit_graph_theory.specs.facts.Covered.{IsNoType}
use Rattle.wit_graph_theory.specs.facts.CutIsGood.{distinct_kept}
use Rattle.wit_graph_theory.specs.facts.ListFacts.{contained_at, place_of}
use Rattle.wit_transform.specs.facts.Distinct.{head_apart, joined_distinct, key_of_entry, more_distinct, tail_distinct}
use Rattle.wit_graph_data.specs.declared.cause.Cause.TheVariants.{TypeExported}
use Rattle.wit_graph_data.specs.declared.error_kind.ResolveErrorKind.{ResolveErrorKind}
use Rattle.wit_graph_data.specs.declared.error_kind.ResolveErrorKind.TheVariants.{Semantic}
use Rattle.wit_transform.specs.Transformed.{type_refusal, WorldLists, entries_by_answer, exportized, importized, is_type, type_entries}
use Rattle.wit_transform.specs.steps.Transformed.{AreUnderLabels}
use Rattle.wit_transform.specs.steps.Parts.{type_exported_text, HasClash}

-- the new lists are made of the entries of the old ones: no key comes twice in one, none of the types is
-- exported nor lost, and no entry is imported and exported
pub record ComesFrom (old : World) (transform : WorldLists) : Type 0 where
  pub imports : (e : Entry) → Contains transform.imports e → Contains (old.imports ++ old.exports) e
  pub exports : (e : Entry) → Contains transform.exports e
      → Contains (old.imports ++ old.exports) e × IsNoType e.1
  pub types : (e : Entry) → Contains old.imports e → is_type e.1 ≡ true
      → Contains transform.imports e
  pub distinct_imports : HasDistinctKeys transform.imports
  pub distinct_exports : HasDistinctKeys transform.exports
  pub one_side : (e : Entry) → Contains transform.imports e → Contains transform.exports e → ⊥

-- ---- exports become imports

pub importized_comes : (old : World) (out : Option (List ℕ)) → HasDistinctKeys old.imports → HasDistinctKeys old.exports → AreUnderLabels (type_entries old.imports)
    → ((label : List ℕ) → HasClash old label → ⊥) → ComesFrom old (importized out old)
importized_comes old out first second labels clear =
    let test : Entry → Bool = λ e. is_type e.1 in
    record {
      imports = λ e has. elim (Contains-append_cases (type_entries old.imports) old.exports e has) [
        | inl among ↦ Contains-append_left old.imports old.exports e (Contains-filter test old.imports e among).0
        | inr among ↦ Contains-append_right old.imports old.exports e among
      ];
      exports = λ e has. absurd (Contains-nil has);
      types = λ e has is. Contains-append_left (type_entries old.imports) old.exports e (Contains-filtered test old.imports e has is);
      distinct_imports = joined_distinct (type_entries old.imports) old.exports (distinct_kept test old.imports first) second
          (λ k has other. let label = labels k has in clear label.0 (subst (Contains (keys_of old.exports)) label.1 other, subst (Contains (keys_of (type_entries old.imports))) label.1 has));
      distinct_exports = HasDistinctKeys-nil;
      one_side = λ e has other. Contains-nil other;
    }

-- ---- imports become exports

-- an entry for which this was answered, at its place
pub answered_from : (b : Bool) (es : List Entry) (answers : List Bool) (e : Entry) → Contains (entries_by_answer b es answers) e
    → (i : ℕ) × (slice_get es i ≡ Some e) × (slice_get answers i ≡ Some b)
answered_from b [] answers e has = absurd (Contains-nil has)
answered_from b (x ∷ es) [] e has = absurd (Contains-nil has)
answered_from true (x ∷ es) (true ∷ answers) e has =
    elim (Contains-cons_cases x e (entries_by_answer true es answers) has) [
      | inl same ↦ (0, ap Some same, refl)
      | inr there ↦ let from = answered_from true es answers e there in (suc from.0, from.1, from.2)
    ]
answered_from true (x ∷ es) (false ∷ answers) e has = let from = answered_from true es answers e has in (suc from.0, from.1, from.2)
answered_from false (x ∷ es) (true ∷ answers) e has = let from = answered_from false es answers e has in (suc from.0, from.1, from.2)
answered_from false (x ∷ es) (false ∷ answers) e has =
    elim (Contains-cons_cases x e (entries_by_answer false es answers) has) [
      | inl same ↦ (0, ap Some same, refl)
      | inr there ↦ let from = answered_from false es answers e there in (suc from.0, from.1, from.2)
    ]

pub answered_into : (b : Bool) (es : List Entry) (answers : List Bool) (i : ℕ) (e : Entry) → slice_get es i ≡ Some e → slice_get answers i ≡ Some b → Contains (entries_by_answer b es answers) e
answered_into b [] answers i e at given = cc
answered_into b (x ∷ es) [] i e at given = cc
answered_into true (x ∷ es) (true ∷ answers) zero e at given = let same : x ≡ e = cc in subst (λ (f : Entry). Contains (x ∷ entries_by_answer true es answers) f) same (Contains-here x (entries_by_answer true es answers))
answered_into true (x ∷ es) (false ∷ answers) zero e at given = cc
answered_into false (x ∷ es) (true ∷ answers) zero e at given = cc
answered_into false (x ∷ es) (false ∷ answers) zero e at given = let same : x ≡ e = cc in subst (λ (f : Entry). Contains (x ∷ entries_by_answer false es answers) f) same (Contains-here x (entries_by_answer false es answers))
answered_into true (x ∷ es) (true ∷ answers) (suc i) e at given = Contains-there x e (entries_by_answer true es answers) (answered_into true es answers i e at given)
answered_into true (x ∷ es) (false ∷ answers) (suc i) e at given = answered_into true es answers i e at given
answered_into false (x ∷ es) (true ∷ answers) (suc i) e at given = answered_into false es answers i e at given
answered_into false (x ∷ es) (false ∷ answers) (suc i) e at given = Contains-there x e (entries_by_answer false es answers) (answered_into false es answers i e at given)

pub answered_in : (b : Bool) (es : List Entry) (answers : List Bool) (e : Entry) → Contains (entries_by_answer b es answers) e → Contains es e
answered_in b es answers e has = let from = answered_from b es answers e has in contained_at es from.0 e from.1

answered_distinct : (b : Bool) (es : List Entry) (answers : List Bool) → HasDistinctKeys es → HasDistinctKeys (entries_by_answer b es answers)
answered_distinct b [] answers distinct = HasDistinctKeys-nil
answered_distinct b (x ∷ es) [] distinct = HasDistinctKeys-nil
answered_distinct true (x ∷ es) (true ∷ answers) distinct =
    more_distinct x (entries_by_answer true es answers) (answered_distinct true es answers (tail_distinct x es distinct)) (λ d has same. head_apart x es distinct d (answered_in true es answers d has) same)
answered_distinct true (x ∷ es) (false ∷ answers) distinct = answered_distinct true es answers (tail_distinct x es distinct)
answered_distinct false (x ∷ es) (true ∷ answers) distinct = answered_distinct false es answers (tail_distinct x es distinct)
answered_distinct false (x ∷ es) (false ∷ answers) distinct =
    more_distinct x (entries_by_answer false es answers) (answered_distinct false es answers (tail_distinct x es distinct)) (λ d has same. head_apart x es distinct d (answered_in false es answers d has) same)

no_type : (held : WorldItem) → (is_type held ≡ true → ⊥) → IsNoType held
no_type (item.Interface i stability docs span external_id) not = tt
no_type (item.Function f) not = tt
no_type (item.Type_ t span) not = not refl

-- a type under a label can't be exported
is_refused : (k : WorldKey) (held : WorldItem) (label : List ℕ) → k ≡ key.Name label → is_type held ≡ true → type_refusal k held ≡ None → ⊥
is_refused k held label name is none =
    let error : ResolveErrorKind = Semantic None (type_exported_text label) TypeExported in
    let told : type_refusal k held ≡ Some error = ap (λ (other : WorldKey). type_refusal other held) name ∙ ap (λ (b : Bool). if b then Some error else None) is in
    let never : None ≡ Some error = sym none ∙ told in
    cc

-- what is answered with the other answer
other_answer : (es : List Entry) (answers : List Bool) (i : ℕ) (e : Entry) → slice_get es i ≡ Some e → (slice_get answers i ≡ Some true → ⊥) → (b : Bool) → slice_get answers i ≡ Some b → slice_get answers i ≡ Some false
other_answer es answers i e at not true given = absurd (not given)
other_answer es answers i e at not false given = given

pub exportized_comes : (old : World) (answers : List Bool) (out : Option (List ℕ)) → HasDistinctKeys old.imports → AreUnderLabels (type_entries old.imports)
    → ((i : ℕ) (e : Entry) → slice_get old.imports i ≡ Some e → (b : Bool) × (slice_get answers i ≡ Some b))
    → ((e : Entry) → Contains (entries_by_answer true old.imports answers) e → type_refusal e.0 e.1 ≡ None) → ComesFrom old (exportized answers out old)
exportized_comes old answers out distinct labels given clear =
    let stays : (e : Entry) → Contains (entries_by_answer true old.imports answers) e → is_type e.1 ≡ true → ⊥ =
    λ e has is.
    let among = Contains-filtered (λ (f : Entry). is_type f.1) old.imports e (answered_in true old.imports answers e has) is in
    let label = labels e.0 (key_of_entry (type_entries old.imports) e among) in
    is_refused e.0 e.1 label.0 label.1 is (clear e has) in
    record {
      imports = λ e has. Contains-append_left old.imports old.exports e (answered_in false old.imports answers e has);
      exports = λ e has. (Contains-append_left old.imports old.exports e (answered_in true old.imports answers e has), no_type e.1 (stays e has));
      types = λ e has is.
          let place = place_of old.imports e has in
          let answer = given place.0 e place.1 in
          answered_into false old.imports answers place.0 e place.1
          (other_answer old.imports answers place.0 e place.1 (λ yes. stays e (answered_into true old.imports answers place.0 e place.1 yes) is) answer.0 answer.1);
      distinct_imports = answered_distinct false old.imports answers distinct;
      distinct_exports = answered_distinct true old.imports answers distinct;
      one_side = λ e has other.
          let a = answered_from false old.imports answers e has in
          let b = answered_from true old.imports answers e other in
          let same : a.0 ≡ b.0 = distinct a.0 b.0 e e a.1 b.1 refl in
          let both : slice_get answers b.0 ≡ Some false = subst (λ (i : ℕ). slice_get answers i ≡ Some false) same a.2 in
          let yes = b.2 in
          cc;
    }
