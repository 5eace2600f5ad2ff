-- The words of labels, and the renamings that are of them.
use Rattle.std.proofs.Common.{◌≡◌, ◌∙◌, ℕ, zero, suc, ◌+◌, ◌≤◌, ◌||◌, nat_eq, Bool, true, false, cond, List, [], ◌∷◌, ◌++◌, Option, Some, None, length, take, drop, refl, ap, sym, subst, slice_get, Contains, is_some, arith}
use Rattle.std.proofs.Math.Bool.{or_assoc}
use Rattle.std.proofs.lemmas.List.Elements.{Contains-append_right}
use Rattle.std.proofs.lemmas.List.Folds.{list_any-append}
use Rattle.std.specs.Cmp.Lexicographic.{nat_list_eq_equiv, same_text}
use Rattle.std.specs.List.{before_first, concat, list_any}
use Rattle.std.specs.Map.{keys_of}
use Rattle.std.specs.Option.{option_map_or}
use Rattle.std.specs.Str.{bytes_eq}
use Rattle.wit_values.specs.facts.Lists.{take-next_at}
use Rattle.wit_data.specs.declared.world.IncludeName.{IncludeName}
use Rattle.wit_data.specs.declared.world.World.{World}
use Rattle.wit_data.specs.declared.world.WorldKey.{WorldKey}
use Rattle.wit_data.specs.declared.world.WorldKey.TheVariants as key
use Rattle.wit_graph_theory.specs.facts.ListFacts.{contained_at, place_of}
use Rattle.wit_labels.specs.Groups.{begins_group, groups_of, rest_of}
use Rattle.wit_labels.specs.Rename.{renamed_label_by}
use Rattle.wit_link_spec.specs.WorldReasons.{IsRenamed}
use Rattle.wit_link_include.specs.steps.Included.{AreRenamed, IsFirstUnmatched, has_word, word_of}

-- ---- a renaming is of a label exactly where it is of its word

some-is : (b : Bool) (text : List ℕ) → is_some (cond b (Some text) None) ≡ b
some-is true text = refl
some-is false text = refl

pub renames-word : (name : IncludeName) (label : List ℕ) → is_some (renamed_label_by name label) ≡ has_word name.name (key.Name label)
renames-word name label = by (begins_group (rest_of label))
  where
    word : List ℕ
    word = before_first (λ b. nat_eq b 46) (rest_of label)

    renamed : List ℕ
    renamed = concat (groups_of label) ++ (name.as_ ++ drop (length word) (rest_of label))

    by : (b : Bool) → is_some (cond b None (cond (bytes_eq word name.name) (Some renamed) None)) ≡ option_map_or (bytes_eq name.name) (cond b None (Some word)) false
    by true = refl
    by false =
        some-is (bytes_eq word name.name) renamed ∙ nat_list_eq_equiv.symm word name.name

-- ---- tests of lists

pub or-false : (a : Bool) → (a || false) ≡ a
or-false true = refl
or-false false = refl

-- ---- the words so far

-- one word more in a set of words
word-added : (words : List (List ℕ)) (w v : List ℕ) (b : Bool) → list_any (bytes_eq w) words ≡ b
    → list_any (bytes_eq v) (cond b words (words ++ w ∷ [])) ≡ (list_any (bytes_eq v) words || bytes_eq v w)
word-added words w v true there = by (bytes_eq v w) refl
  where
    by : (c : Bool) → bytes_eq v w ≡ c → list_any (bytes_eq v) words ≡ (list_any (bytes_eq v) words || c)
    by false is = sym (or-false (list_any (bytes_eq v) words))
    by true is =
        let same : v ≡ w = same_text v w (sym is) in
        let has : list_any (bytes_eq v) words ≡ true = subst (λ (x : List ℕ). list_any (bytes_eq x) words ≡ true) (sym same) there in
        rw has refl
word-added words w v false there = list_any-append (bytes_eq v) words (w ∷ []) ∙ ap (λ (b : Bool). list_any (bytes_eq v) words || b) (or-false (bytes_eq v w))

-- the words with that of a label
pub words-label : (words words' : List (List ℕ)) (k : WorldKey) (label w : List ℕ) → k ≡ key.Name label → word_of label ≡ Some w → words' ≡ cond (list_any (bytes_eq w) words) words (words ++ w ∷ [])
    → (word : List ℕ) → list_any (bytes_eq word) words' ≡ (list_any (bytes_eq word) words || has_word word k)
words-label words words' k label w called is added word =
    ap (list_any (bytes_eq word)) added ∙ word-added words w word (list_any (bytes_eq w) words) refl
    ∙ ap (λ (b : Bool). list_any (bytes_eq word) words || b) (sym (ap (has_word word) called ∙ ap (λ (o : Option (List ℕ)). option_map_or (bytes_eq word) o false) is))

-- the words so far, and those that are left, after one key more
pub words-next : (words words' : List (List ℕ)) (k : WorldKey) (rest : List WorldKey) (whole : List ℕ → Bool)
    → ((word : List ℕ) → list_any (bytes_eq word) words' ≡ (list_any (bytes_eq word) words || has_word word k))
    → ((word : List ℕ) → (list_any (bytes_eq word) words || list_any (has_word word) (k ∷ rest)) ≡ whole word)
    → (word : List ℕ) → (list_any (bytes_eq word) words' || list_any (has_word word) rest) ≡ whole word
words-next words words' k rest whole more earlier word =
    ap (λ (b : Bool). b || list_any (has_word word) rest) (more word) ∙ or_assoc (list_any (bytes_eq word) words) (has_word word k) (list_any (has_word word) rest) ∙ earlier word

-- ---- renamings of a world

any-key : (word : List ℕ) (ks : List WorldKey) → list_any (has_word word) ks ≡ true → (label : List ℕ) × Contains ks (key.Name label) × (has_word word (key.Name label) ≡ true)
any-key word [] h = cc
any-key word (k ∷ ks) h = by (has_word word k) refl h (any-key word ks)
  where
    label_of : (k' : WorldKey) → k ≡ k' → has_word word k' ≡ true → (label : List ℕ) × Contains (k ∷ ks) (key.Name label) × (has_word word (key.Name label) ≡ true)
    label_of (key.Name label) is holds = (label, contained_at (k ∷ ks) 0 (key.Name label) (ap Some is), holds)
    label_of (key.Interface i) is holds = cc

    by : (b : Bool) → has_word word k ≡ b → (b || list_any (has_word word) ks) ≡ true → (list_any (has_word word) ks ≡ true → (label : List ℕ) × Contains ks (key.Name label) × (has_word word (key.Name label) ≡ true))
        → (label : List ℕ) × Contains (k ∷ ks) (key.Name label) × (has_word word (key.Name label) ≡ true)
    by true is some rest = label_of k refl is
    by false is some rest = let there = rest some in (there.0, Contains-append_right (k ∷ []) ks (key.Name there.0) there.1, there.2)

any-has : (word : List ℕ) (ks : List WorldKey) (k : WorldKey) (i : ℕ) → slice_get ks i ≡ Some k → has_word word k ≡ true → list_any (has_word word) ks ≡ true
any-has word [] k i at holds = cc
any-has word (j ∷ ks) k zero at holds = let same : j ≡ k = cc in let first : has_word word j ≡ true = subst (λ (x : WorldKey). has_word word x ≡ true) (sym same) holds in rw first refl
any-has word (j ∷ ks) k (suc i) at holds = by (has_word word j) (any-has word ks k i at holds)
  where
    by : (b : Bool) → list_any (has_word word) ks ≡ true → (b || list_any (has_word word) ks) ≡ true
    by true h = refl
    by false h = h

pub is-renamed : (world : World) (words : List (List ℕ)) (name : IncludeName) → ((word : List ℕ) → list_any (bytes_eq word) words ≡ (list_any (has_word word) (keys_of world.imports) || list_any (has_word word) (keys_of world.exports)))
    → list_any (bytes_eq name.name) words ≡ true → IsRenamed world name
is-renamed world words name are there =
    let some = any-key name.name (keys_of world.imports ++ keys_of world.exports) (list_any-append (has_word name.name) (keys_of world.imports) (keys_of world.exports) ∙ sym (are name.name) ∙ there) in
    (some.0, some.1, renames-word name some.0 ∙ some.2)

pub not-renamed : (world : World) (words : List (List ℕ)) (name : IncludeName) → ((word : List ℕ) → list_any (bytes_eq word) words ≡ (list_any (has_word word) (keys_of world.imports) || list_any (has_word word) (keys_of world.exports)))
    → list_any (bytes_eq name.name) words ≡ false → IsRenamed world name → ⊥
not-renamed world words name are absent renamed =
    let place = place_of (keys_of world.imports ++ keys_of world.exports) (key.Name renamed.0) renamed.1 in
    let there : list_any (has_word name.name) (keys_of world.imports ++ keys_of world.exports) ≡ true =
    any-has name.name (keys_of world.imports ++ keys_of world.exports) (key.Name renamed.0) place.0 place.1 (sym (renames-word name renamed.0) ∙ renamed.2) in
    cc (sym there ∙ list_any-append (has_word name.name) (keys_of world.imports) (keys_of world.exports) ∙ sym (are name.name) ∙ absent)

-- ---- the renamings so far

pub renamed-next : (world : World) (names : List IncludeName) (i : ℕ) (name : IncludeName) → AreRenamed world (take i names) → slice_get names i ≡ Some name → IsRenamed world name → AreRenamed world (take (i + 1) names)
renamed-next world names i name earlier at here = subst (AreRenamed world) (sym (take-next_at names i name at)) (pushed (take i names) earlier)
  where
    pushed : (xs : List IncludeName) → AreRenamed world xs → AreRenamed world (xs ++ name ∷ [])
    pushed [] all zero x there = let same : name ≡ x = cc in subst (IsRenamed world) same here
    pushed [] all (suc j) x there = cc
    pushed (z ∷ zs) all zero x there = all 0 x there
    pushed (z ∷ zs) all (suc j) x there = pushed zs (λ k. all (suc k)) j x there

pub first-unmatched : (world : World) (names : List IncludeName) (i : ℕ) (name : IncludeName) → AreRenamed world (take i names) → slice_get names i ≡ Some name → (IsRenamed world name → ⊥) → IsFirstUnmatched world names name
first-unmatched world names i name earlier at unmatched = record { j = i; is = at; earlier = earlier; unmatched = unmatched }

pub renamed-all : (world : World) (names : List IncludeName) (i : ℕ) → AreRenamed world (take i names) → length names ≤ i → AreRenamed world names
renamed-all world names i all reached = subst (AreRenamed world) (take-all names i reached) all
  where
    take-all : (xs : List IncludeName) (j : ℕ) → length xs ≤ j → take j xs ≡ xs
    take-all [] zero within = refl
    take-all [] (suc j) within = refl
    take-all (z ∷ zs) zero within = absurd (omega arith)
    take-all (z ∷ zs) (suc j) within = ap (λ (l : List IncludeName). z ∷ l) (take-all zs j (omega arith))
