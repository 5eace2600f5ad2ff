-- Setters and their getters.
use Rattle.std.proofs.Common.{◌≡◌, ◌∙◌, ◌⊎◌, ◌<◌, ◌≤◌, ◌+◌, ℕ, zero, suc, true, false, cond, List, [], ◌∷◌, ◌++◌, length, take, drop, refl, ap, sym, subst, inl, inr, arith, Some, None, slice_get, Contains, get_or, is_some, lit<}
use Rattle.std.proofs.lemmas.Bool.{cond-true, cond-false, false_from_ne_true, false≢true, cases_Bool}
use Rattle.std.proofs.lemmas.List.{append_assoc, take_at, take-append-drop}
use Rattle.std.proofs.lemmas.List.Folds.{list_any_at}
use Rattle.std.proofs.lemmas.Map.Made.{is_some-lookup}
use Rattle.std.proofs.lemmas.Map.Views.{Contains-from_any}
use Rattle.std.specs.Cmp.Lexicographic.{nat_list_eq_equiv, same_text}
use Rattle.std.specs.List.{starts_with}
use Rattle.std.specs.Map.{keys_of, lookup}
use Rattle.std.specs.Prelude.{codes, nat_eq, bytes_eq}
use Rattle.std.specs.Str.Pattern.{FindsText, LacksTextAt}
use Rattle.wit_data.specs.Entries.{Entry}
use Rattle.wit_data.specs.facts.WorldKeyFacts.{key_is}
use Rattle.wit_data.specs.contracts.world.WorldKeyPartialEq.TheImpl.{eq-value}
use Rattle.wit_data.specs.declared.world.WorldItem.{WorldItem}
use Rattle.wit_data.specs.declared.world.WorldKey.{WorldKey}
use Rattle.wit_data.specs.declared.world.WorldItem.TheVariants as item
use Rattle.wit_data.specs.declared.world.WorldKey.TheVariants as key
use Rattle.wit_labels.specs.Setters.{getter_label, is_setter_label, replaced_first, wanted_getter}
use Rattle.wit_labels.specs.steps.Setters.{HaveGetters, IsSetter, LacksGetterAt}

-- ---- the first occurrence of a text

begins : (old s rest : List ℕ) → s ≡ old ++ rest → starts_with nat_eq s old ≡ true
begins old s rest is =
    let front : take (length old) s ≡ old = ap (take (length old)) is ∙ take_at old rest (length old) refl in
    subst (λ (x : List ℕ). bytes_eq old x ≡ true) (sym front) (nat_list_eq_equiv.refl old)

starts : (old s : List ℕ) → starts_with nat_eq s old ≡ true → s ≡ old ++ drop (length old) s
starts old s passes = sym (take-append-drop (length old) s) ∙ ap (λ (x : List ℕ). x ++ drop (length old) s) (sym (same_text old (take (length old) s) (sym passes)))

pub replaced-at : (old new s : List ℕ) (i j : ℕ) → 0 < length old → ((k : ℕ) → k < i → LacksTextAt old s k) → drop i s ≡ old ++ drop j s → j ≡ i + length old
    → replaced_first old new s ≡ take i s ++ (new ++ drop j s)
replaced-at [] new [] i j some lacks at ends = absurd (omega arith)
replaced-at (o ∷ old) new [] zero j some lacks at ends = cc
replaced-at (o ∷ old) new [] (suc i) j some lacks at ends = cc
replaced-at old new (b ∷ bs) zero j some lacks at ends =
    let passes : starts_with nat_eq (b ∷ bs) old ≡ true = begins old (b ∷ bs) (drop j (b ∷ bs)) at in
    let same : length old ≡ j = omega arith in
    cond-true (starts_with nat_eq (b ∷ bs) old) (new ++ drop (length old) (b ∷ bs)) (b ∷ replaced_first old new bs) passes
    ∙ ap (λ n. new ++ drop n (b ∷ bs)) same
replaced-at old new (b ∷ bs) (suc i) zero some lacks at ends = absurd (omega arith)
replaced-at old new (b ∷ bs) (suc i) (suc j) some lacks at ends =
    let fails : starts_with nat_eq (b ∷ bs) old ≡ false =
    false_from_ne_true (starts_with nat_eq (b ∷ bs) old) (λ passes. lacks 0 (omega arith) (drop (length old) (b ∷ bs)) (starts old (b ∷ bs) passes)) in
    cond-false (starts_with nat_eq (b ∷ bs) old) (new ++ drop (length old) (b ∷ bs)) (b ∷ replaced_first old new bs) fails
    ∙ ap (λ (rest : List ℕ). b ∷ rest) (replaced-at old new bs i j some (λ k below. lacks (suc k) (omega (arith, below))) at (omega arith))

pub replaced-nowhere : (old new s : List ℕ) → ((k : ℕ) → k ≤ length s → LacksTextAt old s k) → replaced_first old new s ≡ s
replaced-nowhere old new [] lacks = refl
replaced-nowhere old new (b ∷ bs) lacks =
    let fails : starts_with nat_eq (b ∷ bs) old ≡ false =
    false_from_ne_true (starts_with nat_eq (b ∷ bs) old) (λ passes. lacks 0 (omega arith) (drop (length old) (b ∷ bs)) (starts old (b ∷ bs) passes)) in
    cond-false (starts_with nat_eq (b ∷ bs) old) (new ++ drop (length old) (b ∷ bs)) (b ∷ replaced_first old new bs) fails
    ∙ ap (λ (rest : List ℕ). b ∷ rest) (replaced-nowhere old new bs (λ k below. lacks (suc k) (omega (arith, below))))

-- ---- keys

pub key_found : (k : WorldKey) (es : List Entry) → is_some (lookup (eq-value.it k) es) ≡ true → Contains (keys_of es) k
key_found k es found = Contains-from_any (λ a b. (key_is a b).0) k (keys_of es) (sym (is_some-lookup (eq-value.it k) es) ∙ found)

pub key_absent : (k : WorldKey) (es : List Entry) → is_some (lookup (eq-value.it k) es) ≡ false → Contains (keys_of es) k → ⊥
key_absent k es absent there =
    let passes : eq-value.it k (get_or (keys_of es) there.0 k) ≡ true = subst (λ (x : WorldKey). eq-value.it k x ≡ true) (sym there.2) ((key_is k k).1 refl) in
    false≢true (sym absent ∙ is_some-lookup (eq-value.it k) es ∙ list_any_at (eq-value.it k) (keys_of es) there.0 k there.1 passes)

-- ---- what is asked for

wanted_is : (label g : List ℕ) → cond (is_setter_label label) (Some (getter_label label)) None ≡ Some g → (is_setter_label label ≡ true) × (g ≡ getter_label label)
wanted_is label g wanted = elim (cases_Bool (is_setter_label label)) [
  | inl passes ↦ let is : Some (getter_label label) ≡ Some g = sym (cond-true (is_setter_label label) (Some (getter_label label)) None passes) ∙ wanted in (passes, cc)
  | inr fails ↦ let is : None ≡ Some g = sym (cond-false (is_setter_label label) (Some (getter_label label)) None fails) ∙ wanted in cc
]

-- a setter that asks for this getter
abbrev pub Asks : Entry → List ℕ → Type 0
Asks e g = (label : List ℕ) × IsSetter label e × (g ≡ getter_label label)

pub asks : (k : WorldKey) (held : WorldItem) (g : List ℕ) → wanted_getter k held ≡ Some g → Asks (k, held) g
asks (key.Name label) (item.Function f) g wanted = let is = wanted_is label g wanted in (label, (refl, is.0), is.1)
asks (key.Name label) (item.Interface id stability docs span external_id) g wanted = cc
asks (key.Name label) (item.Type_ id span) g wanted = cc
asks (key.Interface i) held g wanted = cc

pub wants : (k : WorldKey) (held : WorldItem) (label : List ℕ) → IsSetter label (k, held) → wanted_getter k held ≡ Some (getter_label label)
wants (key.Name name) (item.Function f) label setter =
    let same : name ≡ label = cc (setter.0) in
    subst (λ (n : List ℕ). wanted_getter (key.Name n) (item.Function f) ≡ Some (getter_label label)) (sym same) (cond-true (is_setter_label label) (Some (getter_label label)) None setter.1)
wants (key.Name name) (item.Interface id stability docs span external_id) label setter = absurd (false≢true setter.1)
wants (key.Name name) (item.Type_ id span) label setter = absurd (false≢true setter.1)
wants (key.Interface i) held label setter = cc (setter.0)

-- ---- the setters among the first entries

pub record HaveGettersBelow (entries : List Entry) (n : ℕ) : Type 0 where
  pub have : (i : ℕ) (e : Entry) (label : List ℕ) → i < n → slice_get entries i ≡ Some e
      → IsSetter label e → Contains (keys_of entries) (key.Name (getter_label label))

pub have-none : (entries : List Entry) → HaveGettersBelow entries 0
have-none entries = record { have = λ i e label below at setter. absurd (omega (arith, below)) }

below_or_same : (i n : ℕ) → i < n + 1 → (i < n) ⊎ (i ≡ n)
below_or_same i n within = grind arith

entry_same : (entries : List Entry) (i n : ℕ) (e f : Entry) → i ≡ n → slice_get entries n ≡ Some e → slice_get entries i ≡ Some f → e ≡ f
entry_same entries i n e f same here there = let is : Some e ≡ Some f = sym here ∙ ap (slice_get entries) (sym same) ∙ there in cc

pub have-next : (entries : List Entry) (n : ℕ) (k : WorldKey) (held : WorldItem) → HaveGettersBelow entries n → slice_get entries n ≡ Some (k, held)
    → ((g : List ℕ) → wanted_getter k held ≡ Some g → Contains (keys_of entries) (key.Name g)) → HaveGettersBelow entries (n + 1)
have-next entries n k held below at there = record {
  have = λ i e label within here setter. elim (below_or_same i n within) [
    | inl earlier ↦ below.have i e label earlier here setter
    | inr same ↦
        let is : (k, held) ≡ e = entry_same entries i n (k, held) e same at here in
        there (getter_label label) (wants k held label (subst (λ (x : Entry). IsSetter label x) (sym is) setter))
  ];
}

pub have-all : (entries : List Entry) (n : ℕ) → HaveGettersBelow entries n → length entries ≤ n → HaveGetters entries
have-all entries n below reached e label has setter =
    below.have has.0 e label (omega (arith, has.1)) (at_get entries has.0 e has.1 has.2) setter
  where
    at_get : (es : List Entry) (i : ℕ) (x : Entry) → i < length es → get_or es i x ≡ x → slice_get es i ≡ Some x
    at_get [] i x within is = absurd (omega arith)
    at_get (y ∷ ys) zero x within is = ap (λ (z : Entry). Some z) is
    at_get (y ∷ ys) (suc i) x within is = at_get ys i x (omega arith) is

pub lacks-at : (entries : List Entry) (n : ℕ) (k : WorldKey) (held : WorldItem) (g : List ℕ) → slice_get entries n ≡ Some (k, held) → wanted_getter k held ≡ Some g
    → (Contains (keys_of entries) (key.Name g) → ⊥) → LacksGetterAt entries n
lacks-at entries n k held g at wanted absent =
    let who = asks k held g wanted in
    record {
      label = who.0;
      entry = (k, held);
      at = at;
      setter = who.1;
      absent = λ there. absent (subst (λ (x : List ℕ). Contains (keys_of entries) (key.Name x)) (sym who.2) there);
    }

-- ---- the label of a getter

pub getter-of : (label before after made : List ℕ) (i j : ℕ) → FindsText (codes "[set]") label (Some (i, j)) → before ≡ take i label → after ≡ drop j label
    → made ≡ (before ++ codes "[get]") ++ after → made ≡ getter_label label
getter-of label before after made i j found before_is after_is is =
    is ∙ append_assoc before (codes "[get]") after
    ∙ ap (λ (x : List ℕ). x ++ (codes "[get]" ++ after)) before_is ∙ ap (λ (x : List ℕ). take i label ++ (codes "[get]" ++ x)) after_is
    ∙ sym (replaced-at (codes "[set]") (codes "[get]") label i j (lit< tt) found.0 found.1.split found.1.ends)

pub getter-same : (label : List ℕ) → FindsText (codes "[set]") label None → label ≡ getter_label label
getter-same label lacks = sym (replaced-nowhere (codes "[set]") (codes "[get]") label lacks)
