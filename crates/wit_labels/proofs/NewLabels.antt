-- A label as its renamings make it.
use Rattle.std.proofs.Common.{◌≡◌, ◌∙◌, ℕ, Bool, true, false, cond, List, [], ◌∷◌, ◌++◌, length, take, drop, refl, ap, sym, subst, arith, Option, Some, None, find, slice_get, true≢false}
use Rattle.std.proofs.lemmas.Bool.{cond-true, cond-false}
use Rattle.std.proofs.lemmas.List.{append_assoc, drop_all, take_all}
use Rattle.std.specs.Cmp.Lexicographic.{nat_list_eq_equiv}
use Rattle.std.specs.Prelude.{◌==◌, unwrap_or, filter_map, option_map, bytes_eq}
use Rattle.std.specs.List.{concat, before_first, cons_option, position_or_len}
use Rattle.wit_data.specs.declared.world.IncludeName.{IncludeName}
use Rattle.wit_labels.specs.steps.FirstRenamings.{is_of}
use Rattle.wit_labels.specs.Groups.{begins_group, groups_of, rest_of}
use Rattle.wit_labels.specs.Rename.{renamed_label, renamed_label_by}

-- with no dot, all is the word
pub whole_word : (rest : List ℕ) → position_or_len (λ b. b == 46) rest ≡ length rest → rest ≡ before_first (λ b. b == 46) rest
whole_word rest none = sym (ap (λ n. take n rest) none ∙ take_all (length rest) rest (omega arith))

pub none_after : (rest : List ℕ) → [] ≡ drop (length rest) rest
none_after rest = sym (drop_all (length rest) rest (omega arith))

-- the label where the renaming is of it
pub renamed_label_by-new : (name : IncludeName) (label groups word after new : List ℕ) → begins_group (rest_of label) ≡ false → groups ≡ concat (groups_of label)
    → word ≡ before_first (λ b. b == 46) (rest_of label) → after ≡ drop (length word) (rest_of label) → word ≡ name.name → new ≡ (groups ++ name.as_) ++ after → Some new ≡ renamed_label_by name label
renamed_label_by-new name label groups word after new plain groups_are word_is after_is same made =
    let rest = rest_of label in
    let first = before_first (λ b. b == 46) rest in
    let equal : bytes_eq first name.name ≡ true =
    subst (λ (w : List ℕ). bytes_eq w name.name ≡ true) (sym same ∙ word_is) (nat_list_eq_equiv.refl name.name) in
    let tail : name.as_ ++ after ≡ name.as_ ++ drop (length first) rest = ap (λ (w : List ℕ). name.as_ ++ w) (after_is ∙ ap (λ (w : List ℕ). drop (length w) rest) word_is) in
    let renamed = concat (groups_of label) ++ (name.as_ ++ drop (length first) rest) in
    let whole : renamed_label_by name label ≡ Some renamed =
    cond-false (begins_group rest) None (cond (bytes_eq first name.name) (Some renamed) None) plain ∙ cond-true (bytes_eq first name.name) (Some renamed) None equal in
    ap Some (made ∙ append_assoc groups name.as_ after ∙ ap (λ (w : List ℕ). groups ++ w) tail ∙ ap (λ (g : List ℕ). g ++ (name.as_ ++ drop (length first) rest)) groups_are) ∙ sym whole

-- ---- the first renaming that is of a label

abbrev word_of : List ℕ → List ℕ
word_of label = before_first (λ b. b == 46) (rest_of label)

-- the label as this renaming makes it, where it is of its word
abbrev made_by : List ℕ → IncludeName → List ℕ
made_by label name =
    concat (groups_of label) ++ (name.as_ ++ drop (length (word_of label)) (rest_of label))

first-made : (label : List ℕ) → begins_group (rest_of label) ≡ false → (names : List IncludeName)
    → slice_get (filter_map (λ (n : IncludeName). renamed_label_by n label) names) 0 ≡ option_map (made_by label) (find (is_of (word_of label)) names)
first-made label plain [] = refl
first-made label plain (name ∷ names) = by (begins_group (rest_of label)) (bytes_eq (word_of label) name.name) plain (first-made label plain names)
  where
    f : IncludeName → Option (List ℕ)
    f n = renamed_label_by n label

    by : (open_bracket same : Bool) → open_bracket ≡ false → slice_get (filter_map f names) 0 ≡ option_map (made_by label) (find (is_of (word_of label)) names)
        → slice_get (cons_option (cond open_bracket None (cond same (Some (made_by label name)) None)) (filter_map f names)) 0
        ≡ option_map (made_by label) (cond same (Some name) (find (is_of (word_of label)) names))
    by true same is rest = absurd (true≢false is)
    by false true is rest = refl
    by false false is rest = rest

-- behind a bracket that isn't closed nothing is renamed
none-made : (label : List ℕ) → begins_group (rest_of label) ≡ true → (names : List IncludeName) → filter_map (λ (n : IncludeName). renamed_label_by n label) names ≡ []
none-made label unclosed [] = refl
none-made label unclosed (name ∷ names) =
    ap (λ (o : Option (List ℕ)). cons_option o (filter_map (λ (n : IncludeName). renamed_label_by n label) names)) (cond-true (begins_group (rest_of label)) None (cond (bytes_eq (word_of label) name.name) (Some (made_by label name)) None) unclosed)
    ∙ none-made label unclosed names

pub renamed_label-unclosed : (names : List IncludeName) (label : List ℕ) → begins_group (rest_of label) ≡ true → label ≡ renamed_label names label
renamed_label-unclosed names label unclosed = sym (ap (λ (l : List (List ℕ)). unwrap_or (slice_get l 0) label) (none-made label unclosed names))

module _ (names : List IncludeName) (label word : List ℕ) (plain : begins_group (rest_of label) ≡ false) (word_is : word ≡ before_first (λ b. b == 46) (rest_of label)) where
  by_word : (found : Option IncludeName) → found ≡ find (is_of word) names → renamed_label names label ≡ unwrap_or (option_map (made_by label) found) label
  by_word found is =
      ap (λ (o : Option (List ℕ)). unwrap_or o label) (first-made label plain names)
      ∙ ap (λ (o : Option IncludeName). unwrap_or (option_map (made_by label) o) label) (sym (is ∙ ap (λ (w : List ℕ). find (is_of w) names) word_is))

  -- the label as the first renaming of its word makes it
  pub renamed_label-first : (groups after new : List ℕ) (name : IncludeName) → groups ≡ concat (groups_of label) → after ≡ drop (length word) (rest_of label)
      → Some name ≡ find (is_of word) names → new ≡ (groups ++ name.as_) ++ after → new ≡ renamed_label names label
  renamed_label-first groups after new name groups_are after_is is made =
      let tail : after ≡ drop (length (word_of label)) (rest_of label) = after_is ∙ ap (λ (w : List ℕ). drop (length w) (rest_of label)) word_is in
      made ∙ append_assoc groups name.as_ after ∙ ap (λ (g : List ℕ). g ++ (name.as_ ++ after)) groups_are ∙ ap (λ (t : List ℕ). concat (groups_of label) ++ (name.as_ ++ t)) tail
      ∙ sym (by_word (Some name) is)

  -- no renaming is of its word
  pub renamed_label-none : None ≡ find (is_of word) names → label ≡ renamed_label names label
  renamed_label-none is = sym (by_word None is)
