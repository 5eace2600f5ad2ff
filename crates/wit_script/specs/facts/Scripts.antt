-- Lines that are read one after another.
use Rattle.std.proofs.Common.{◌≡◌, ℕ, ◌+◌, ◌-◌, ◌<◌, ◌≤◌, Bor, map, take, drop, get_or, sym, subst, suc, zero, add-one, Bool, true, false, not, cond, List, [], ◌∷◌, ◌++◌, length, reverse, Option, None, Some, refl, ap, ◌∙◌, arith, length-append, length-drop, take_all}
use Rattle.std.proofs.lemmas.Grind.{common_steps, take_at_read}
use Rattle.std.proofs.lemmas.List.{drop-map, length-map, map-append, reverse-append}
use Rattle.std.specs.List.{prefix_len}
use Rattle.std.specs.Option.{option_and_then, option_map}
use Rattle.std.proofs.Math.ListN.{get_or-map}
use Rattle.wit_script_lines.specs.Line.{is_blank_or_comment_of, is_comment, last_statement_line}
use Rattle.wit_script_lines.specs.Statement.{statement_by, statement_of_tokens}
use Rattle.wit_script_lines.specs.declared.statement.Statement.{Statement}
use Rattle.wit_script.specs.Ready.{AreReady}
use Rattle.wit_script.specs.Script.{IsBad, IsBadLine, after_first, after_line, after_lines, new_reading, reading_before, reading_of}
use Rattle.wit_script.specs.declared.reader.Reading.{Reading}
use Rattle.wit_script_lines.specs.steps.Parts.{is_blank_or_comment}

-- a step that changes nothing
and_then_some : {A : Type 0} (o : Option A) → option_and_then Some o ≡ o
and_then_some None = refl
and_then_some (Some x) = refl

-- a step that is two steps
pub and_then_both : {A : Type 0} (both first second : A → Option A) → ((x : A) → both x ≡ option_and_then second (first x)) → (o : Option A)
    → option_and_then both o ≡ option_and_then second (option_and_then first o)
and_then_both both first second same None = refl
and_then_both both first second same (Some x) = same x

-- a line at a place, with those behind it known
abbrev pub step_at : List (List ℕ) → ℕ → Reading → Option Reading
step_at lines k r = after_line r (get_or lines k []) (drop (suc k) lines)

-- one more line
first-more : (r : Reading) (k : ℕ) (lines : List (List ℕ)) → k < length lines
    → after_first r (suc k) lines ≡ option_and_then (step_at lines k) (after_first r k lines)
first-more r k [] within = absurd (omega (arith, within))
first-more r zero (text ∷ lines) within = and_then_some (after_line r text lines)
first-more r (suc k) (text ∷ lines) within =
    and_then_both (λ (next : Reading). after_first next (suc k) lines) (λ (next : Reading). after_first next k lines)
    (step_at lines k) (λ next. first-more next k lines (omega (arith, within))) (after_line r text lines)

pub before-more : (k : ℕ) (lines : List (List ℕ)) → k < length lines → reading_before (k + 1) lines ≡ option_and_then (step_at lines k) (reading_before k lines)
before-more k lines within = ap (λ (n : ℕ). reading_before n lines) (add-one k) ∙ first-more new_reading k lines within

-- all lines
first-whole : (r : Reading) (lines : List (List ℕ)) → after_first r (length lines) lines ≡ after_lines r lines
first-whole r [] = refl
first-whole r (text ∷ lines) = ap (λ (f : Reading → Option Reading). option_and_then f (after_line r text lines)) (λ i next. first-whole next lines i)

pub before-whole : (lines : List (List ℕ)) → reading_before (length lines) lines ≡ reading_of lines
before-whole lines = first-whole new_reading lines

-- a line says nothing where nothing is read from it
pub said_nothing : (tokens : List (List ℕ)) → statement_of_tokens tokens ≡ Some None → false ≡ not (is_blank_or_comment_of tokens)
said_nothing [] read = refl
said_nothing (word ∷ arguments) read = by (is_comment word) (statement_by word arguments) read where
  by : (b : Bool) (said : Option Statement) → cond b (Some None) (option_map Some said) ≡ Some None → false ≡ not b
  by true said read = refl
  by false None read = cc
  by false (Some s) read = cc

-- and something where something is
pub said_something : (tokens : List (List ℕ)) (said : Statement) → statement_of_tokens tokens ≡ Some (Some said) → true ≡ not (is_blank_or_comment_of tokens)
said_something [] said read = cc
said_something (word ∷ arguments) said read = by (is_comment word) (statement_by word arguments) read where
  by : (b : Bool) (o : Option Statement) → cond b (Some None) (option_map Some o) ≡ Some (Some said) → true ≡ not b
  by true o read = cc
  by false o read = refl

-- a count of what is left
left_of : (b : Bool) (n s : ℕ) → (n + 1) - cond b (1 + s) 0 ≡ cond b (n - s) (n + 1)
left_of true n s = omega arith
left_of false n s = omega arith

-- the last line that says something, after one more line
pub last_statement_line-more : (lines : List (List ℕ)) (line : List ℕ) → last_statement_line (lines ++ line ∷ []) ≡ cond (is_blank_or_comment line) (last_statement_line lines) (length lines + 1)
last_statement_line-more lines line =
    let transformed : reverse (lines ++ line ∷ []) ≡ line ∷ reverse lines = reverse-append lines (line ∷ []) in
    let longer : length (lines ++ line ∷ []) ≡ length lines + 1 = length-append lines (line ∷ []) in
    rw (transformed, longer) (left_of (is_blank_or_comment line) (length lines) (prefix_len is_blank_or_comment (reverse lines)))

-- the last line that says something, after a line that says nothing
pub last_statement_line-silent : (lines : List (List ℕ)) (line : List ℕ) → false ≡ not (is_blank_or_comment line) → last_statement_line (lines ++ line ∷ []) ≡ last_statement_line lines
last_statement_line-silent lines line silent = last_statement_line-more lines line ∙ kept (is_blank_or_comment line) silent where
  kept : (b : Bool) → false ≡ not b → cond b (last_statement_line lines) (length lines + 1) ≡ last_statement_line lines
  kept true h = refl
  kept false h = cc

-- the last line that says something, after a line that says something
pub last_statement_line-said : (lines : List (List ℕ)) (line : List ℕ) → true ≡ not (is_blank_or_comment line) → last_statement_line (lines ++ line ∷ []) ≡ length lines + 1
last_statement_line-said lines line said = last_statement_line-more lines line ∙ now (is_blank_or_comment line) said where
  now : (b : Bool) → true ≡ not b → cond b (last_statement_line lines) (length lines + 1) ≡ length lines + 1
  now true h = cc
  now false h = refl

module _ (xs : List (Bor (List ℕ))) (i : ℕ) (d : Bor (List ℕ)) where
  -- the texts so far, and one more
  texts-next : i < length xs → map (λ (x : Bor (List ℕ)). x.now) (take (i + 1) xs) ≡ map (λ (x : Bor (List ℕ)). x.now) (take i xs) ++ (get_or xs i d).now ∷ []
  texts-next within = rw (take_at_read xs i d within).1 (map-append (λ (x : Bor (List ℕ)). x.now) (take i xs) (get_or xs i d ∷ []))

  -- the lines so far and one more are read
  abbrev texts : List (List ℕ)
  texts = map (λ (x : Bor (List ℕ)). x.now) xs

  all-behind : (n : ℕ) → take (length xs - n) (drop n xs) ≡ drop n xs
  all-behind n = let long : length (drop n xs) ≡ length xs - n = length-drop n xs in take_all (length xs - n) (drop n xs) (omega (arith, long))

  step-is : (r : Reading) → d.now ≡ [] → step_at texts i r ≡ after_line r (get_or xs i d).now (map (λ (x : Bor (List ℕ)). x.now) (take (length xs - (i + 1)) (drop (i + 1) xs)))
  step-is r nothing =
      let text : get_or texts i [] ≡ (get_or xs i d).now = ap (λ (l : List ℕ). get_or texts i l) (sym nothing) ∙ get_or-map (λ (x : Bor (List ℕ)). x.now) xs i d in
      let behind : drop (suc i) texts ≡ map (λ (x : Bor (List ℕ)). x.now) (take (length xs - (i + 1)) (drop (i + 1) xs)) =
      drop-map (λ (x : Bor (List ℕ)). x.now) (suc i) xs ∙ ap (λ (n : ℕ). map (λ (x : Bor (List ℕ)). x.now) (drop n xs)) (sym (add-one i))
      ∙ ap (map (λ (x : Bor (List ℕ)). x.now)) (sym (all-behind (i + 1))) in
      λ k. after_line r (text k) (behind k)

  within-texts : i < length xs → i < length texts
  within-texts within = let long : length texts ≡ length xs = length-map xs (λ (x : Bor (List ℕ)). x.now) in omega (arith, within, long)

  next-is : (r : Reading) → d.now ≡ [] → i < length xs → reading_before i texts ≡ Some r
      → reading_before (i + 1) texts ≡ after_line r (get_or xs i d).now (map (λ (x : Bor (List ℕ)). x.now) (take (length xs - (i + 1)) (drop (i + 1) xs)))
  next-is r nothing within read = before-more i texts (within-texts within) ∙ ap (option_and_then (step_at texts i)) read ∙ step-is r nothing

  pub read-next : (before after : Reading) → d.now ≡ [] → i < length xs → reading_before i texts ≡ Some before
      → after_line before (get_or xs i d).now (map (λ (x : Bor (List ℕ)). x.now) (take (length xs - (i + 1)) (drop (i + 1) xs))) ≡ Some after → reading_before (i + 1) texts ≡ Some after
  read-next before after nothing within read next = next-is before nothing within read ∙ next

  -- all lines are read
  pub read-all : (reading : Reading) → i ≤ length xs → length xs ≤ i → reading_before i texts ≡ Some reading → reading_of texts ≡ Some reading
  read-all reading most least read =
      let long : length texts ≡ length xs = length-map xs (λ (x : Bor (List ℕ)). x.now) in
      let end : length texts ≡ i = omega (arith, most, least, long) in
      sym (before-whole texts) ∙ ap (λ (n : ℕ). reading_before n texts) end ∙ read

  -- the last line that says something stays
  pub last-silent : (last : ℕ) → i < length xs → last ≡ last_statement_line (map (λ (x : Bor (List ℕ)). x.now) (take i xs)) → false ≡ not (is_blank_or_comment (get_or xs i d).now)
      → last ≡ last_statement_line (map (λ (x : Bor (List ℕ)). x.now) (take (i + 1) xs))
  last-silent last within known silent = rw (texts-next within) (known ∙ sym (last_statement_line-silent (map (λ (x : Bor (List ℕ)). x.now) (take i xs)) (get_or xs i d).now silent))

  -- the last line that says something is this one
  pub last-said : i < length xs → true ≡ not (is_blank_or_comment (get_or xs i d).now) → i + 1 ≡ last_statement_line (map (λ (x : Bor (List ℕ)). x.now) (take (i + 1) xs))
  last-said within said =
      let count : length (map (λ (x : Bor (List ℕ)). x.now) (take i xs)) ≡ i = grind (arith, common_steps) in
      rw (texts-next within) (ap (λ (n : ℕ). n + 1) (sym count) ∙ sym (last_statement_line-said (map (λ (x : Bor (List ℕ)). x.now) (take i xs)) (get_or xs i d).now said))

  -- the first line that isn't understood
  pub bad-line : (reading : Reading) → d.now ≡ [] → i < length xs → reading_before i texts ≡ Some reading → AreReady reading.commands
      → IsBad (after_line reading (get_or xs i d).now (map (λ (x : Bor (List ℕ)). x.now) (take (length xs - (i + 1)) (drop (i + 1) xs)))) → IsBadLine texts (i + 1)
  bad-line reading nothing within read ready bad = record {
    before = i;
    reading = reading;
    read = read;
    ready = ready;
    there = within-texts within;
    bad = subst IsBad (sym (next-is reading nothing within read)) bad;
    counted = refl;
  }
