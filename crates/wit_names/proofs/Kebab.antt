-- Kebab names have no byte but letters, digits and dashes.
use Rattle.std.proofs.Common.{◌≡◌, ℕ, List, [], ◌∷◌, Bool, true, false, refl, sym, ap, ◌∙◌, inl, inr}
use Rattle.std.proofs.lemmas.Bool.{cases_Bool, and_parts, and_from, or_cases, or_left, or_right, or_from, eqb-true}
use Rattle.std.proofs.lemmas.List.Splits.{slice_split-cons_yes, slice_split-cons_no}
use Rattle.std.specs.Prelude.{◌==◌, ◌||◌, ◌&&◌, length, not, slice_index}
use Rattle.std.specs.Char.{is_ascii_alphabetic}
use Rattle.std.specs.List.{list_all, list_any, slice_split, onto_first}
use Rattle.wit_names.specs.UsePath.{is_word, is_kebab_name}
use Rattle.wit_names.specs.steps.Parts.{is_lower, is_upper}

-- a letter or a digit
abbrev is_word_byte : ℕ → Bool
is_word_byte b = is_lower b || is_upper b

abbrev pub is_kebab_byte : ℕ → Bool
is_kebab_byte b = is_word_byte b || b == 45

list_all-weaker : {X : Type 0} (p q : X → Bool) → ((x : X) → p x ≡ true → q x ≡ true) → (xs : List X) → list_all p xs ≡ true → list_all q xs ≡ true
list_all-weaker p q weaker [] all = refl
list_all-weaker p q weaker (x ∷ xs) all =
    let parts = and_parts (p x) (list_all p xs) all in
    and_from (q x) (list_all q xs) (weaker x parts.0) (list_all-weaker p q weaker xs parts.1)

word_bytes : (word : List ℕ) → is_word word ≡ true → list_all is_word_byte word ≡ true
word_bytes word is =
    let case = (and_parts (not (length word == 0)) (list_all is_lower word || list_all is_upper word) is).1 in
    elim (or_cases (list_all is_lower word) (list_all is_upper word) case) [
      | inl lower ↦ list_all-weaker is_lower is_word_byte (λ b passes. or_left (is_lower b) (is_upper b) passes) word lower
      | inr upper ↦ list_all-weaker is_upper is_word_byte (λ b passes. or_right (is_lower b) (is_upper b) passes) word upper
    ]

-- what is put onto the first part passes with it
onto_first-parts : (q : ℕ → Bool) (x : ℕ) (parts : List (List ℕ)) → list_all (list_all q) (onto_first x parts) ≡ true → (q x ≡ true) × (list_all (list_all q) parts ≡ true)
onto_first-parts q x [] all = ((and_parts (q x) true ((and_parts (q x && true) true all).0)).0, refl)
onto_first-parts q x (part ∷ parts) all =
    let both = and_parts (q x && list_all q part) (list_all (list_all q) parts) all in
    let first = and_parts (q x) (list_all q part) both.0 in
    (first.0, and_from (list_all q part) (list_all (list_all q) parts) first.1 both.1)

name_bytes : (name : List ℕ) → list_all (list_all is_word_byte) (slice_split (λ b. b == 45) name) ≡ true → list_all is_kebab_byte name ≡ true
name_bytes [] all = refl
name_bytes (x ∷ name) all = elim (cases_Bool (x == 45)) [
  | inl dash ↦
      let others : list_all (list_all is_word_byte) (slice_split (λ b. b == 45) name) ≡ true = rw (slice_split-cons_yes (λ b. b == 45) x name dash) at all in
      and_from (is_kebab_byte x) (list_all is_kebab_byte name) (or_right (is_word_byte x) (x == 45) dash) (name_bytes name others)
  | inr other ↦
      let parts = onto_first-parts is_word_byte x (slice_split (λ b. b == 45) name) (rw (slice_split-cons_no (λ b. b == 45) x name other) at all) in
      and_from (is_kebab_byte x) (list_all is_kebab_byte name) (or_left (is_word_byte x) (x == 45) parts.0) (name_bytes name parts.1)
]

-- a byte that passes no test of a list is not in it
list_any-other : (q : ℕ → Bool) (c : ℕ) (bytes : List ℕ) → q c ≡ false → list_all q bytes ≡ true → list_any (λ b. b == c) bytes ≡ false
list_any-other q c [] fails all = refl
list_any-other q c (x ∷ bytes) fails all =
    let parts = and_parts (q x) (list_all q bytes) all in
    elim (cases_Bool (x == c)) [
      | inl same ↦ cc (sym (ap q (eqb-true x c same)) ∙ parts.0, fails)
      | inr other ↦ or_from (x == c) (list_any (λ b. b == c) bytes) other (list_any-other q c bytes fails parts.1)
    ]

-- a kebab name has no `:`, no `/` and no `@`
pub kebab-lacks : (c : ℕ) (name : List ℕ) → is_kebab_byte c ≡ false → is_kebab_name name ≡ true → list_any (λ b. b == c) name ≡ false
unfolding is_kebab_name
kebab-lacks c name fails is =
    let words = (and_parts (is_ascii_alphabetic (slice_index name 0)) (list_all is_word (slice_split (λ b. b == 45) name)) is).1 in
    list_any-other is_kebab_byte c name fails (name_bytes name (list_all-weaker is_word (list_all is_word_byte) word_bytes (slice_split (λ b. b == 45) name) words))
