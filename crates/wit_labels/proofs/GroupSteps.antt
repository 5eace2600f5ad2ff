-- The groups of a label, one at a time.
use Rattle.std.proofs.Common.{◌≡◌, ◌∙◌, ◌≤◌, ◌<◌, ◌+◌, ◌-◌, ℕ, zero, suc, Bool, true, false, cond, List, [], ◌∷◌, ◌++◌, length, take, drop, refl, ap, sym, subst, inl, inr, arith, one-add, suc-add}
use Rattle.std.proofs.lemmas.Bool.{eqb-true, cases_Bool, and_right, and_from, and_parts, cond-true, cond-false}
use Rattle.std.proofs.lemmas.Grind.{common_steps}
use Rattle.std.proofs.lemmas.List.{append_assoc, drop-drop, drop_at, length-append, length-drop, take_at}
use Rattle.std.specs.Prelude.{◌==◌, ◌&&◌, IsCharBoundary, IsUtf8}
use Rattle.std.proofs.lemmas.Str.{IsCharBoundary-at_seam}
use Rattle.std.specs.List.{list_any, concat, before_first, after_first, position_or_len}
use Rattle.wit_labels.specs.Groups.{begins_group, groups_of, groups_within, rest_of}
use Rattle.wit_labels.specs.steps.Parts.{has_closing}

abbrev first_group : List ℕ → List ℕ
first_group text = before_first (λ b. b == 93) text ++ 93 ∷ []

abbrev after_group : List ℕ → List ℕ
after_group text = after_first (λ b. b == 93) text

-- the bound on how many there are says nothing once it is the length
within-more : (m n : ℕ) (text : List ℕ) → length text ≤ m → length text ≤ n → groups_within m text ≡ groups_within n text
within-more zero zero text a b = refl
within-more zero (suc n) [] a b = refl
within-more zero (suc n) (x ∷ text) a b = absurd (omega arith)
within-more (suc m) zero [] a b = refl
within-more (suc m) zero (x ∷ text) a b = absurd (omega arith)
within-more (suc m) (suc n) text a b =
    let shorter : length (after_group text) ≡ length text - (position_or_len (λ c. c == 93) text + 1) = length-drop (position_or_len (λ c. c == 93) text + 1) text in
    ap (λ gs. cond (begins_group text && has_closing text) (first_group text ∷ gs) []) (within-more m n (after_group text) (omega arith) (omega arith))

pub groups_of-none : (text : List ℕ) → (begins_group text && has_closing text) ≡ false → groups_of text ≡ []
groups_of-none [] fails = refl
groups_of-none (x ∷ text) fails = cond-false (begins_group (x ∷ text) && has_closing (x ∷ text)) (first_group (x ∷ text) ∷ groups_within (length text) (after_group (x ∷ text))) [] fails

groups_of-some : (text : List ℕ) → (begins_group text && has_closing text) ≡ true → groups_of text ≡ first_group text ∷ groups_of (after_group text)
groups_of-some [] passes = cc
groups_of-some (x ∷ text) passes =
    let shorter : length (after_group (x ∷ text)) ≡ length (x ∷ text) - (position_or_len (λ c. c == 93) (x ∷ text) + 1) = length-drop (position_or_len (λ c. c == 93) (x ∷ text) + 1) (x ∷ text) in
    cond-true (begins_group (x ∷ text) && has_closing (x ∷ text)) (first_group (x ∷ text) ∷ groups_within (length text) (after_group (x ∷ text))) [] passes
    ∙ ap (λ gs. first_group (x ∷ text) ∷ gs) (within-more (length text) (length (after_group (x ∷ text))) (after_group (x ∷ text)) (omega arith) (omega arith))

-- a byte stands at the first place where it stands
any_position : (p : ℕ → Bool) (xs : List ℕ) → position_or_len p xs < length xs → list_any p xs ≡ true
any_position p [] within = absurd (omega arith)
any_position p (x ∷ xs) within = grind (arith, common_steps, any_position p xs)

none_position : (p : ℕ → Bool) (xs : List ℕ) → position_or_len p xs ≡ length xs → list_any p xs ≡ false
none_position p [] none = refl
none_position p (x ∷ xs) none = grind (arith, common_steps, none_position p xs)

pub no_closing : (text : List ℕ) → position_or_len (λ b. b == 93) text ≡ length text → groups_of text ≡ []
no_closing text none = groups_of-none text (and_right (begins_group text) (has_closing text) (none_position (λ b. b == 93) text none))

-- a group and what follows it
pub record IsFirstGroup (text group rest : List ℕ) : Type 0 where
  pub groups : groups_of text ≡ group ∷ groups_of rest
  pub whole : text ≡ group ++ rest
  pub shorter : length rest < length text

pub first_group-is : (text inside rest group : List ℕ) → begins_group text ≡ true → position_or_len (λ b. b == 93) text < length text
    → inside ≡ before_first (λ b. b == 93) text → rest ≡ after_first (λ b. b == 93) text → text ≡ inside ++ (93 ∷ rest) → group ≡ take (length inside + 1) text
    → IsFirstGroup text group rest
first_group-is text inside rest group begins closes before after whole cut =
    let parts : text ≡ (inside ++ 93 ∷ []) ++ rest = whole ∙ sym (append_assoc inside (93 ∷ []) rest) in
    let long : length (inside ++ 93 ∷ []) ≡ length inside + 1 = length-append inside (93 ∷ []) in
    let is : group ≡ inside ++ 93 ∷ [] = cut ∙ ap (take (length inside + 1)) parts ∙ take_at (inside ++ 93 ∷ []) rest (length inside + 1) long in
    let test = and_from (begins_group text) (has_closing text) begins (any_position (λ b. b == 93) text closes) in
    let sum : length text ≡ length inside + length (93 ∷ rest) = ap length whole ∙ length-append inside (93 ∷ rest) in
    record {
      groups = groups_of-some text test ∙ ap (λ (b : List ℕ). (b ++ 93 ∷ []) ∷ groups_of (after_group text)) (sym before) ∙ ap (λ (r : List ℕ). (inside ++ 93 ∷ []) ∷ groups_of r) (sym after)
          ∙ ap (λ (g : List ℕ). g ∷ groups_of rest) (sym is);
      whole = parts ∙ ap (λ (g : List ℕ). g ++ rest) (sym is);
      shorter = omega arith;
    }

-- ---- what follows the groups

drop-past : (group more rest : List ℕ) → drop (length (group ++ more)) (group ++ rest) ≡ drop (length more) rest
drop-past group more rest =
    ap (λ n. drop n (group ++ rest)) (length-append group more) ∙ sym (drop-drop (length more) (length group) (group ++ rest))
    ∙ ap (drop (length more)) (drop_at group rest (length group) refl)

pub rest_of-none : (text : List ℕ) → groups_of text ≡ [] → rest_of text ≡ text
rest_of-none text none = ap (λ gs. drop (length (concat gs)) text) none

pub rest_of-some : (text group rest : List ℕ) → groups_of text ≡ group ∷ groups_of rest → text ≡ group ++ rest → rest_of text ≡ rest_of rest
rest_of-some text group rest groups whole =
    ap (λ gs. drop (length (concat gs)) text) groups ∙ ap (drop (length (group ++ concat (groups_of rest)))) whole
    ∙ drop-past group (concat (groups_of rest)) rest

-- a text is its groups and what follows them
joined : (a b c text : List ℕ) → text ≡ a ++ b → b ≡ c ++ drop (length c) b → text ≡ (a ++ c) ++ drop (length (a ++ c)) text
joined a b c text whole rest =
    let past : drop (length (a ++ c)) text ≡ drop (length c) b = ap (drop (length (a ++ c))) whole ∙ drop-past a c b in
    whole ∙ ap (λ (x : List ℕ). a ++ x) rest ∙ sym (append_assoc a c (drop (length c) b)) ∙ ap (λ (x : List ℕ). (a ++ c) ++ x) (sym past)

closes_first : (text : List ℕ) → has_closing text ≡ true → text ≡ first_group text ++ after_group text
closes_first text closes = cut text closes ∙ sym (append_assoc (before_first (λ b. b == 93) text) (93 ∷ []) (after_group text))
  where
    yes_before : (x : ℕ) (xs : List ℕ) → (x == 93) ≡ true → before_first (λ b. b == 93) (x ∷ xs) ≡ []
    yes_before x xs passes = rw passes refl

    yes_after : (x : ℕ) (xs : List ℕ) → (x == 93) ≡ true → after_first (λ b. b == 93) (x ∷ xs) ≡ xs
    yes_after x xs passes = rw passes refl

    no_before : (x : ℕ) (xs : List ℕ) → (x == 93) ≡ false → before_first (λ b. b == 93) (x ∷ xs) ≡ x ∷ before_first (λ b. b == 93) xs
    no_before x xs fails = rw (fails, one-add) refl

    no_after : (x : ℕ) (xs : List ℕ) → (x == 93) ≡ false → after_first (λ b. b == 93) (x ∷ xs) ≡ after_first (λ b. b == 93) xs
    no_after x xs fails = rw (fails, one-add, suc-add) refl

    cut : (xs : List ℕ) → has_closing xs ≡ true → xs ≡ before_first (λ b. b == 93) xs ++ (93 ∷ after_first (λ b. b == 93) xs)
    cut [] some = cc some
    cut (x ∷ xs) some = elim (cases_Bool (x == 93)) [
      | inl passes ↦ rw (yes_before x xs passes, yes_after x xs passes) (ap (λ b. b ∷ xs) (eqb-true x 93 passes))
      | inr fails ↦ rw (no_before x xs fails, no_after x xs fails) (ap (λ others. x ∷ others) (cut xs (rw fails at some)))
    ]

within-whole : (n : ℕ) (text : List ℕ) → text ≡ concat (groups_within n text) ++ drop (length (concat (groups_within n text))) text
within-whole zero text = refl
within-whole (suc n) text = elim (cases_Bool (begins_group text && has_closing text)) [
  | inl passes ↦
      let closes = (and_parts (begins_group text) (has_closing text) passes).1 in
      rw (cond-true (begins_group text && has_closing text) (first_group text ∷ groups_within n (after_group text)) [] passes)
      (joined (first_group text) (after_group text) (concat (groups_within n (after_group text))) text (closes_first text closes) (within-whole n (after_group text)))
  | inr fails ↦ rw (cond-false (begins_group text && has_closing text) (first_group text ∷ groups_within n (after_group text)) [] fails) refl
]

pub groups-whole : (text : List ℕ) → text ≡ concat (groups_of text) ++ rest_of text
groups-whole text = within-whole (length text) text

groups-length : (text : List ℕ) → length text - length (rest_of text) ≡ length (concat (groups_of text))
groups-length text =
    let sum : length text ≡ length (concat (groups_of text)) + length (rest_of text) = ap length (groups-whole text) ∙ length-append (concat (groups_of text)) (rest_of text) in
    omega arith

-- where the groups end
pub groups-boundary : (text rest : List ℕ) → rest ≡ rest_of text → IsUtf8 rest → IsCharBoundary text (length text - length rest)
groups-boundary text rest is utf8 =
    let ends : length (concat (groups_of text)) ≡ length text - length rest = sym (groups-length text) ∙ ap (λ (r : List ℕ). length text - length r) (sym is) in
    subst (IsCharBoundary text) ends (IsCharBoundary-at_seam text (concat (groups_of text)) rest (groups-whole text ∙ ap (λ (r : List ℕ). concat (groups_of text) ++ r) (sym is)) utf8)

pub groups-front : (text rest : List ℕ) → rest ≡ rest_of text → take (length text - length rest) text ≡ concat (groups_of text)
groups-front text rest is =
    let ends : length (concat (groups_of text)) ≡ length text - length rest = sym (groups-length text) ∙ ap (λ (r : List ℕ). length text - length r) (sym is) in
    ap (take (length text - length rest)) (groups-whole text) ∙ take_at (concat (groups_of text)) (rest_of text) (length text - length rest) ends
