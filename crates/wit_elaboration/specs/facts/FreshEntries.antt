-- Entries whose keys are new: what is kept of a list.
use Rattle.std.proofs.Common.{◌≡◌, ℕ, ◌<◌, ◌+◌, Bool, true, false, ◌⊎◌, inl, inr, List, [], ◌∷◌, ◌++◌, map, filter, append_assoc, get_or, take, length, refl, sym, ap, subst, ◌∙◌, nat_eq, rules, Contains}
use Rattle.std.specs.List.{flat_map, list_any}
use Rattle.std.specs.Map.{keys_of}
use Rattle.std.proofs.lemmas.List.{append-nil, map-append, take_more}
use Rattle.std.proofs.lemmas.List.Concat.{flat_map-append}
use Rattle.std.proofs.lemmas.List.Folds.{list_any_at}
use Rattle.std.proofs.lemmas.Bool.{eqb-true, cases_Bool, false≢true, cond-true, cond-false, false_from_ne_true}
use Rattle.std.proofs.lemmas.List.Elements.{Contains-append_cases, Contains-append_left, Contains-append_right}
use Rattle.std.proofs.lemmas.Map.Views.{Contains-from_any}
use Rattle.std.proofs.lemmas.Slice.Eq.{bytes_eq-Decides}
use Rattle.wit_data.specs.declared.world.WorldKey.{WorldKey}
use Rattle.wit_data.specs.declared.world.WorldKey.TheVariants.{Name, Interface}
use Rattle.wit_digraph.specs.facts.MemberFacts.{Contains-nil, Contains-here, Contains-there, Contains-cons_cases, Contains-flat_map_cases}
use Rattle.wit_digraph.specs.facts.FreshFacts.{fresh-seen, fresh-new, contains_from_any}
use Rattle.wit_digraph.specs.PostOrder.{fresh}
use Rattle.wit_elaboration.specs.Entries.{Entry, same_key, key_interface, keyed_interfaces, fresh_entries}
use Rattle.wit_elaboration.specs.Elaborated.{InheritedData, dependency_of}
use Rattle.wit_elaboration.specs.facts.Filters.{filter-all, filter-pass, filter-fail}

pub same_key-true : (k l : WorldKey) → same_key k l ≡ true → k ≡ l
same_key-true (Name m) (Name n) same = ap (λ x. Name x) ((bytes_eq-Decides m n).0 same)
same_key-true (Interface i) (Interface j) same = ap (λ x. Interface x) (eqb-true i j same)
same_key-true (Name m) (Interface j) same = absurd (false≢true same)
same_key-true (Interface i) (Name n) same = absurd (false≢true same)

pub same_key-refl : (k : WorldKey) → same_key k k ≡ true
same_key-refl (Name m) = (bytes_eq-Decides m m).1 refl
same_key-refl (Interface i) = search rules

pub known_from_contains : (k : WorldKey) (seen : List WorldKey) → Contains seen k → list_any (same_key k) seen ≡ true
known_from_contains k seen has = list_any_at (same_key k) seen has.0 k has.1 (rw has.2 (same_key-refl k))

pub contains_from_known : (k : WorldKey) (seen : List WorldKey) → list_any (same_key k) seen ≡ true → Contains seen k
contains_from_known k seen known = Contains-from_any same_key-true k seen known

pub fresh_entries-known : (seen : List WorldKey) (e : Entry) (es : List Entry) → list_any (same_key e.0) seen ≡ true → fresh_entries seen (e ∷ es) ≡ fresh_entries seen es
fresh_entries-known seen e es known = cond-true (list_any (same_key e.0) seen) (fresh_entries seen es) (e ∷ fresh_entries (seen ++ e.0 ∷ []) es) known

pub fresh_entries-new : (seen : List WorldKey) (e : Entry) (es : List Entry) → list_any (same_key e.0) seen ≡ false → fresh_entries seen (e ∷ es) ≡ e ∷ fresh_entries (seen ++ e.0 ∷ []) es
fresh_entries-new seen e es new = cond-false (list_any (same_key e.0) seen) (fresh_entries seen es) (e ∷ fresh_entries (seen ++ e.0 ∷ []) es) new

pub fresh_entries-append : (seen : List WorldKey) (xs ys : List Entry) → fresh_entries seen (xs ++ ys) ≡ fresh_entries seen xs ++ fresh_entries (seen ++ keys_of (fresh_entries seen xs)) ys
fresh_entries-append seen [] ys = rw append-nil
fresh_entries-append seen (e ∷ xs) ys =
    elim (cases_Bool (list_any (same_key e.0) seen)) [
      | inl known ↦ rw (fresh_entries-known seen e (xs ++ ys) known, fresh_entries-known seen e xs known) (fresh_entries-append seen xs ys)
      | inr new ↦ rw (fresh_entries-new seen e (xs ++ ys) new, fresh_entries-new seen e xs new, fresh_entries-append (seen ++ e.0 ∷ []) xs ys, append_assoc seen (e.0 ∷ []) (keys_of (fresh_entries (seen ++ e.0 ∷ []) xs))) refl
    ]

pub fresh_entries_in : (seen : List WorldKey) (es : List Entry) (f : Entry) → Contains (fresh_entries seen es) f → Contains es f
fresh_entries_in seen [] f has = has
fresh_entries_in seen (e ∷ es) f has =
    elim (cases_Bool (list_any (same_key e.0) seen)) [
      | inl known ↦ Contains-there e f es (fresh_entries_in seen es f (rw (fresh_entries-known seen e es known) at has))
      | inr new ↦ elim (Contains-cons_cases e f (fresh_entries (seen ++ e.0 ∷ []) es) (rw (fresh_entries-new seen e es new) at has)) [
        | inl same ↦ subst (λ z. Contains (e ∷ es) z) same (Contains-here e es)
        | inr there ↦ Contains-there e f es (fresh_entries_in (seen ++ e.0 ∷ []) es f there)
      ]
    ]

-- each key of a list was seen or is kept
pub fresh_entries_all : (seen : List WorldKey) (es : List Entry) (f : Entry) → Contains es f → Contains (seen ++ keys_of (fresh_entries seen es)) f.0
fresh_entries_all seen [] f has = absurd (Contains-nil has)
fresh_entries_all seen (e ∷ es) f has =
    elim (cases_Bool (list_any (same_key e.0) seen)) [
      | inl known ↦ rw (fresh_entries-known seen e es known)
          (elim (Contains-cons_cases e f es has) [
            | inl same ↦ Contains-append_left seen _ f.0 (subst (λ (z : Entry). Contains seen z.0) same (contains_from_known e.0 seen known))
            | inr there ↦ fresh_entries_all seen es f there
          ])
      | inr new ↦ rw (fresh_entries-new seen e es new)
          (elim (Contains-cons_cases e f es has) [
            | inl same ↦ Contains-append_right seen _ f.0 (subst (λ z. Contains (e.0 ∷ keys_of (fresh_entries (seen ++ e.0 ∷ []) es)) z.0) same (Contains-here e.0 _))
            | inr there ↦ rw (append_assoc seen (e.0 ∷ []) (keys_of (fresh_entries (seen ++ e.0 ∷ []) es))) at (fresh_entries_all (seen ++ e.0 ∷ []) es f there)
          ])
    ]

abbrev pub AllNew : List WorldKey → List Entry → Type 0
AllNew seen [] = Unit {0}
AllNew seen (e ∷ es) = (list_any (same_key e.0) seen ≡ false) × AllNew (seen ++ e.0 ∷ []) es

pub fresh_entries-AllNew : (seen : List WorldKey) (es : List Entry) → AllNew seen (fresh_entries seen es)
fresh_entries-AllNew seen [] = tt
fresh_entries-AllNew seen (e ∷ es) =
    elim (cases_Bool (list_any (same_key e.0) seen)) [
      | inl known ↦ rw (fresh_entries-known seen e es known) (fresh_entries-AllNew seen es)
      | inr new ↦ rw (fresh_entries-new seen e es new) (new, fresh_entries-AllNew (seen ++ e.0 ∷ []) es)
    ]

pub AllNew-apart : (es : List Entry) (seen : List WorldKey) (f : Entry) → AllNew seen es → Contains es f → Contains seen f.0 → ⊥
AllNew-apart [] seen f new has old = Contains-nil has
AllNew-apart (e ∷ es) seen f new has old =
    elim (Contains-cons_cases e f es has) [
      | inl same ↦ false≢true (sym new.0 ∙ known_from_contains e.0 seen (subst (λ (z : Entry). Contains seen z.0) (sym same) old))
      | inr there ↦ AllNew-apart es (seen ++ e.0 ∷ []) f new.1 there (Contains-append_left seen (e.0 ∷ []) f.0 old)
    ]

pub absent_from : (k : WorldKey) (seen : List WorldKey) → (Contains seen k → ⊥) → list_any (same_key k) seen ≡ false
absent_from k seen not_there = false_from_ne_true (list_any (same_key k) seen) (λ known. not_there (contains_from_known k seen known))

pub AllNew-filter : (p : Entry → Bool) (es : List Entry) (seen less : List WorldKey) → ((k : WorldKey) → Contains less k → Contains seen k) → AllNew seen es → AllNew less (filter p es)
AllNew-filter p [] seen less among new = tt
AllNew-filter p (e ∷ es) seen less among new =
    elim (cases_Bool (p e)) [
      | inl kept ↦ rw (filter-pass p e es kept) (
        absent_from e.0 less (λ had. false≢true (sym new.0 ∙ known_from_contains e.0 seen (among e.0 had))),
        AllNew-filter p es (seen ++ e.0 ∷ []) (less ++ e.0 ∷ []) (λ k had. elim (Contains-append_cases less (e.0 ∷ []) k had)
            [ inl old ↦ Contains-append_left seen (e.0 ∷ []) k (among k old) | inr own ↦ Contains-append_right seen (e.0 ∷ []) k own ]) new.1,
      )
      | inr left ↦ rw (filter-fail p e es left)
          (AllNew-filter p es (seen ++ e.0 ∷ []) less (λ k had. Contains-append_left seen (e.0 ∷ []) k (among k had)) new.1)
    ]

-- the keys seen may grow by keys that no entry has
pub AllNew-over : (es : List Entry) (less seen : List WorldKey) → AllNew less es → ((k : WorldKey) → Contains seen k → Contains less k ⊎ ((f : Entry) → Contains es f → f.0 ≡ k → ⊥)) → AllNew seen es
AllNew-over [] less seen new over = tt
AllNew-over (e ∷ es) less seen new over = (
  absent_from e.0 seen (λ had. elim (over e.0 had)
      [ inl old ↦ false≢true (sym new.0 ∙ known_from_contains e.0 less old) | inr other ↦ other e (Contains-here e es) refl ]),
  AllNew-over es (less ++ e.0 ∷ []) (seen ++ e.0 ∷ []) new.1 (λ k had. elim (Contains-append_cases seen (e.0 ∷ []) k had) [
    | inl before ↦ elim (over k before) [ inl old ↦ inl (Contains-append_left less (e.0 ∷ []) k old) | inr other ↦ inr (λ f has same. other f (Contains-there e f es has) same) ]
    | inr own ↦ inl (Contains-append_right less (e.0 ∷ []) k own)
  ]),
)

pub AllNew-append : (xs ys : List Entry) (seen : List WorldKey) → AllNew seen xs → AllNew (seen ++ keys_of xs) ys → AllNew seen (xs ++ ys)
AllNew-append [] ys seen new then = rw append-nil at then
AllNew-append (e ∷ xs) ys seen new then = (new.0, AllNew-append xs ys (seen ++ e.0 ∷ []) new.1 (rw (append_assoc seen (e.0 ∷ []) (keys_of xs)) then))

-- a key tells its entry
pub AllNew-one : (es : List Entry) (seen : List WorldKey) (e f : Entry) → AllNew seen es → Contains es e → Contains es f → e.0 ≡ f.0 → e ≡ f
AllNew-one [] seen e f new has has' same = absurd (Contains-nil has)
AllNew-one (x ∷ es) seen e f new has has' same =
    elim (Contains-cons_cases x e es has) [
      | inl here ↦ elim (Contains-cons_cases x f es has') [
        | inl here' ↦ sym here ∙ here'
        | inr there' ↦ absurd (AllNew-apart es (seen ++ x.0 ∷ []) f new.1 there' (Contains-append_right seen (x.0 ∷ []) f.0 (subst (λ k. Contains (x.0 ∷ []) k) (ap (λ (z : Entry). z.0) here ∙ same) (Contains-here x.0 []))))
      ]
      | inr there ↦ elim (Contains-cons_cases x f es has') [
        | inl here' ↦ absurd (AllNew-apart es (seen ++ x.0 ∷ []) e new.1 there (Contains-append_right seen (x.0 ∷ []) e.0 (subst (λ k. Contains (x.0 ∷ []) k) (ap (λ (z : Entry). z.0) here' ∙ sym same) (Contains-here x.0 []))))
        | inr there' ↦ AllNew-one es (seen ++ x.0 ∷ []) e f new.1 there there' same
      ]
    ]

pub Contains-keys : (es : List Entry) (k : WorldKey) → Contains (keys_of es) k → (e : Entry) × (Contains es e × (e.0 ≡ k))
Contains-keys [] k has = absurd (Contains-nil has)
Contains-keys (e ∷ es) k has =
    elim (Contains-cons_cases e.0 k (keys_of es) has)
    [ inl same ↦ (e, (Contains-here e es, same)) | inr there ↦ let more = Contains-keys es k there in (more.0, (Contains-there e more.0 es more.1.0, more.1.1)) ]

-- the key of an entry is among the keys
pub keys-Contains : (es : List Entry) (e : Entry) → Contains es e → Contains (keys_of es) e.0
keys-Contains [] e has = absurd (Contains-nil has)
keys-Contains (d ∷ es) e has =
    elim (Contains-cons_cases d e es has)
    [ inl same ↦ subst (λ (z : Entry). Contains (keys_of (d ∷ es)) z.0) same (Contains-here d.0 (keys_of es)) | inr there ↦ Contains-there d.0 e.0 (keys_of es) (keys-Contains es e there) ]

pub fresh_entries-all_known : (seen : List WorldKey) (xs ys : List Entry) → ((e : Entry) → Contains xs e → list_any (same_key e.0) seen ≡ true) → fresh_entries seen (xs ++ ys) ≡ fresh_entries seen ys
fresh_entries-all_known seen [] ys known = refl
fresh_entries-all_known seen (e ∷ xs) ys known = fresh_entries-known seen e (xs ++ ys) (known e (Contains-here e xs)) ∙ fresh_entries-all_known seen xs ys (λ f has. known f (Contains-there e f xs has))

pub Contains-deps : (carried : InheritedData) (js : List ℕ) (e : Entry) → Contains (map (dependency_of carried) js) e → (j : ℕ) × (Contains js j × (dependency_of carried j ≡ e))
Contains-deps carried [] e has = absurd (Contains-nil has)
Contains-deps carried (j ∷ js) e has =
    elim (Contains-cons_cases (dependency_of carried j) e (map (dependency_of carried) js) has)
    [ inl same ↦ (j, (Contains-here j js, same)) | inr there ↦ let more = Contains-deps carried js e there in (more.0, (Contains-there j more.0 js more.1.0, more.1.1)) ]

pub deps-Contains : (carried : InheritedData) (js : List ℕ) (j : ℕ) → Contains js j → Contains (map (dependency_of carried) js) (dependency_of carried j)
deps-Contains carried [] j has = absurd (Contains-nil has)
deps-Contains carried (i ∷ js) j has =
    elim (Contains-cons_cases i j js has) [
      | inl same ↦ subst (λ z. Contains (map (dependency_of carried) (i ∷ js)) (dependency_of carried z)) same (Contains-here (dependency_of carried i) (map (dependency_of carried) js))
      | inr there ↦ Contains-there (dependency_of carried i) (dependency_of carried j) (map (dependency_of carried) js) (deps-Contains carried js j there)
    ]

abbrev pub interfaces_of_keys : List WorldKey → List ℕ
interfaces_of_keys keys = flat_map key_interface keys

pub keyed_interfaces-map : (carried : InheritedData) (js : List ℕ) → keyed_interfaces (map (dependency_of carried) js) ≡ js
keyed_interfaces-map carried [] = refl
keyed_interfaces-map carried (j ∷ js) = ap (λ xs. j ∷ xs) (keyed_interfaces-map carried js)

pub ids-push : (seen : List WorldKey) (k : WorldKey) → interfaces_of_keys (seen ++ k ∷ []) ≡ interfaces_of_keys seen ++ key_interface k
ids-push seen k = rw (flat_map-append key_interface seen (k ∷ []), append-nil (key_interface k)) refl

pub id_known : (j : ℕ) (seen : List WorldKey) → Contains (interfaces_of_keys seen) j → list_any (same_key (Interface j)) seen ≡ true
id_known j seen has =
    let part = Contains-flat_map_cases key_interface seen j has in
    known_from_contains (Interface j) seen (subst (λ k. Contains seen k) (id_is part.0 part.1.1) part.1.0)
  where
    id_is : (k : WorldKey) → Contains (key_interface k) j → k ≡ Interface j
    id_is (Name n) has = absurd (Contains-nil has)
    id_is (Interface i) has = elim (Contains-cons_cases i j [] has) [ inl same ↦ ap (λ x. Interface x) same | inr none ↦ absurd (Contains-nil none) ]

pub keyed_interfaces-append : (xs ys : List Entry) → keyed_interfaces (xs ++ ys) ≡ keyed_interfaces xs ++ keyed_interfaces ys
keyed_interfaces-append xs ys = flat_map-append (λ (e : Entry). key_interface e.0) xs ys

pub keys_of-append : (xs ys : List Entry) → keys_of (xs ++ ys) ≡ keys_of xs ++ keys_of ys
keys_of-append xs ys = map-append (λ (e : Entry). e.0) xs ys

-- what is added after what was added
pub fresh_entries-next : (old now new xs ys : List Entry) → now ≡ old ++ fresh_entries (keys_of old) xs → new ≡ now ++ fresh_entries (keys_of now) ys → new ≡ old ++ fresh_entries (keys_of old) (xs ++ ys)
fresh_entries-next old now new xs ys first then =
    then ∙ rw (first, keys_of-append old (fresh_entries (keys_of old) xs), append_assoc old (fresh_entries (keys_of old) xs) (fresh_entries (keys_of old ++ keys_of (fresh_entries (keys_of old) xs)) ys), fresh_entries-append (keys_of old) xs ys) refl

-- the same where a part of a list has been added, and the rest is left
pub fresh_entries-left : (xs part rest now new whole : List Entry) → xs ≡ part ++ rest → now ++ fresh_entries (keys_of now) xs ≡ whole → new ≡ now ++ fresh_entries (keys_of now) part → new ++ fresh_entries (keys_of new) rest ≡ whole
fresh_entries-left xs part rest now new whole parts so_far new_is =
    rw (new_is, keys_of-append now (fresh_entries (keys_of now) part), append_assoc now (fresh_entries (keys_of now) part) (fresh_entries (keys_of now ++ keys_of (fresh_entries (keys_of now) part)) rest), ← fresh_entries-append (keys_of now) part rest, ← parts) so_far

-- entries whose keys are all new stay
pub fresh_entries-all_new : (seen : List WorldKey) (es : List Entry) → AllNew seen es → fresh_entries seen es ≡ es
fresh_entries-all_new seen [] new = refl
fresh_entries-all_new seen (e ∷ es) new = fresh_entries-new seen e es new.0 ∙ ap (λ xs. e ∷ xs) (fresh_entries-all_new (seen ++ e.0 ∷ []) es new.1)

-- one more of a list of interfaces
pub dependencies-next : (s : InheritedData) (old now new : List Entry) (js : List ℕ) (at : ℕ) → at < length js → now ≡ old ++ fresh_entries (keys_of old) (map (dependency_of s) (take at js)) →
    new ≡ now ++ fresh_entries (keys_of now) (dependency_of s (get_or js at 0) ∷ []) → new ≡ old ++ fresh_entries (keys_of old) (map (dependency_of s) (take (at + 1) js))
dependencies-next s old now new js at below first then =
    rw (take_more js at 0 below, map-append (dependency_of s) (take at js) (get_or js at 0 ∷ []))
    (fresh_entries-next old now new (map (dependency_of s) (take at js)) (dependency_of s (get_or js at 0) ∷ []) first then)

-- where what was seen has the keys of what was listed and passes a test, only what is fresh matters
pub fresh_entries-filter : (p : ℕ → Bool) (s : InheritedData) (js listed : List ℕ) (seen : List WorldKey) → ((i : ℕ) → Contains listed i → p i ≡ true → Contains seen (Interface i)) →
    fresh_entries seen (map (dependency_of s) (filter p (fresh listed js))) ≡ fresh_entries seen (map (dependency_of s) (filter p js))
fresh_entries-filter p s [] listed seen covers = refl
fresh_entries-filter p s (j ∷ js) listed seen covers =
    elim (cases_Bool (list_any (nat_eq j) listed)) [
      | inl old ↦ rw (fresh-seen listed j js old) (elim (cases_Bool (p j)) [
        | inl pass ↦
            rw (filter-pass p j js pass, fresh_entries-known seen (dependency_of s j) (map (dependency_of s) (filter p js)) (known_from_contains (Interface j) seen (covers j (contains_from_any j listed old) pass)))
            (fresh_entries-filter p s js listed seen covers)
        | inr fails ↦ rw (filter-fail p j js fails) (fresh_entries-filter p s js listed seen covers)
      ])
      | inr new ↦ rw (fresh-new listed j js new) (elim (cases_Bool (p j)) [
        | inl pass ↦ rw (filter-pass p j js pass, filter-pass p j (fresh (listed ++ j ∷ []) js) pass) (elim (cases_Bool (list_any (same_key (Interface j)) seen)) [
          | inl known ↦
              rw (fresh_entries-known seen (dependency_of s j) (map (dependency_of s) (filter p (fresh (listed ++ j ∷ []) js))) known, fresh_entries-known seen (dependency_of s j) (map (dependency_of s) (filter p js)) known)
              (fresh_entries-filter p s js (listed ++ j ∷ []) seen (λ i has passes. elim (Contains-append_cases listed (j ∷ []) i has) [
                | inl before ↦ covers i before passes
                | inr last ↦ elim (Contains-cons_cases j i [] last) [ inl same ↦ subst (λ m. Contains seen (Interface m)) same (contains_from_known (Interface j) seen known) | inr none ↦ absurd (Contains-nil none) ]
              ]))
          | inr lacking ↦
              rw (fresh_entries-new seen (dependency_of s j) (map (dependency_of s) (filter p (fresh (listed ++ j ∷ []) js))) lacking, fresh_entries-new seen (dependency_of s j) (map (dependency_of s) (filter p js)) lacking)
              (ap (λ (es : List Entry). dependency_of s j ∷ es) (fresh_entries-filter p s js (listed ++ j ∷ []) (seen ++ Interface j ∷ []) (λ i has passes. elim (Contains-append_cases listed (j ∷ []) i has) [
                | inl before ↦ Contains-append_left seen (Interface j ∷ []) (Interface i) (covers i before passes)
                | inr last ↦ Contains-append_right seen (Interface j ∷ []) (Interface i) (elim (Contains-cons_cases j i [] last) [ inl same ↦ subst (λ m. Contains (Interface j ∷ []) (Interface m)) same (Contains-here (Interface j) []) | inr none ↦ absurd (Contains-nil none) ])
              ])))
        ])
        | inr fails ↦ rw (filter-fail p j js fails, filter-fail p j (fresh (listed ++ j ∷ []) js) fails)
            (fresh_entries-filter p s js (listed ++ j ∷ []) seen (λ i has passes. elim (Contains-append_cases listed (j ∷ []) i has) [
              | inl before ↦ covers i before passes
              | inr last ↦ elim (Contains-cons_cases j i [] last) [ inl same ↦ absurd (false≢true (sym fails ∙ subst (λ m. p m ≡ true) (sym same) passes)) | inr none ↦ absurd (Contains-nil none) ]
            ]))
      ])
    ]

-- the same without a test
pub fresh_entries-fresh : (s : InheritedData) (js listed : List ℕ) (seen : List WorldKey) → ((i : ℕ) → Contains listed i → Contains seen (Interface i)) →
    fresh_entries seen (map (dependency_of s) (fresh listed js)) ≡ fresh_entries seen (map (dependency_of s) js)
fresh_entries-fresh s js listed seen covers =
    let all : ℕ → Bool = λ i. true in
    let same : (xs : List ℕ) → filter all xs ≡ xs = λ xs. filter-all all xs (λ i has. refl) in
    ap (λ (xs : List ℕ). fresh_entries seen (map (dependency_of s) xs)) (sym (same (fresh listed js)))
    ∙ fresh_entries-filter all s js listed seen (λ i has passes. covers i has)
    ∙ ap (λ (xs : List ℕ). fresh_entries seen (map (dependency_of s) xs)) (same js)

-- a dependency's key is there, once it was added
pub dependency_added : (s : InheritedData) (js : List ℕ) (old : List Entry) (j : ℕ) → Contains js j → Contains (keys_of (old ++ fresh_entries (keys_of old) (map (dependency_of s) js))) (Interface j)
dependency_added s js old j has =
    rw (keys_of-append old (fresh_entries (keys_of old) (map (dependency_of s) js))) (fresh_entries_all (keys_of old) (map (dependency_of s) js) (dependency_of s j) (deps-Contains s js j has))

-- a key that is there stays
pub key_stays : (old more : List Entry) (k : WorldKey) → Contains (keys_of old) k → Contains (keys_of (old ++ more)) k
key_stays old more k has = rw (keys_of-append old more) (Contains-append_left (keys_of old) (keys_of more) k has)
