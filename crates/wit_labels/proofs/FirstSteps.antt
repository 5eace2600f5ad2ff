-- The table of the first renamings of words, one renaming after another.
use Rattle.std.proofs.Common.{◌≡◌, ◌∙◌, ◌+◌, ℕ, Bool, true, false, cond, List, [], ◌∷◌, ◌++◌, take, refl, ap, sym, subst, Option, Some, None, find, slice_get, is_some}
use Rattle.std.proofs.lemmas.Bool.{false≢true}
use Rattle.std.proofs.lemmas.List.Folds.{find-append}
use Rattle.std.specs.Cmp.Lexicographic.{same_text}
use Rattle.std.specs.Map.{lookup}
use Rattle.std.specs.Option.{option_or}
use Rattle.std.specs.Str.{bytes_eq}
use Rattle.wit_data.specs.declared.world.IncludeName.{IncludeName}
use Rattle.wit_values.specs.facts.Lists.{take-next_at}
use Rattle.wit_labels.specs.steps.FirstRenamings.{IsIndexOf, is_of}

-- what is found in a table with one entry more
lookup-more : (test : List ℕ → Bool) (es : List (List ℕ × ℕ)) (k : List ℕ) (v : ℕ) → lookup test (es ++ (k, v) ∷ []) ≡ option_or (lookup test es) (cond (test k) (Some v) None)
lookup-more test [] k v = refl
lookup-more test (e ∷ es) k v = by (test e.0) (lookup-more test es k v)
  where
    by : (b : Bool) → lookup test (es ++ (k, v) ∷ []) ≡ option_or (lookup test es) (cond (test k) (Some v) None)
        → cond b (Some e.1) (lookup test (es ++ (k, v) ∷ [])) ≡ option_or (cond b (Some e.1) (lookup test es)) (cond (test k) (Some v) None)
    by true rest = refl
    by false rest = rest

-- so many renamings, and the table of those
abbrev pub TellsSoFar : List IncludeName → ℕ → List (List ℕ × ℕ) → Type 0
TellsSoFar names i table =
    (word : List ℕ)
    → IsIndexOf names (lookup (bytes_eq word) table) (find (is_of word) (take i names))

module _ (names : List IncludeName) (i : ℕ) (name : IncludeName) (at : slice_get names i ≡ Some name) where
  found-next : (word : List ℕ) → find (is_of word) (take (i + 1) names) ≡ option_or (find (is_of word) (take i names)) (cond (is_of word name) (Some name) None)
  found-next word = ap (find (is_of word)) (take-next_at names i name at) ∙ find-append (is_of word) (take i names) (name ∷ [])

  -- a renaming of a new word
  pub tells-new : (table : List (List ℕ × ℕ)) → TellsSoFar names i table → TellsSoFar names (i + 1) (table ++ (name.name, i) ∷ [])
  tells-new table so_far word =
      rw (lookup-more (bytes_eq word) table name.name i, found-next word) (by (lookup (bytes_eq word) table) (find (is_of word) (take i names)) (bytes_eq word name.name) (so_far word))
    where
      by : (o : Option ℕ) (found : Option IncludeName) (b : Bool) → IsIndexOf names o found → IsIndexOf names (option_or o (cond b (Some i) None)) (option_or found (cond b (Some name) None))
      by (Some place) found b is = (is.0, is.1, ap (λ (f : Option IncludeName). option_or f (cond b (Some name) None)) is.2)
      by None found true is = (name, at, ap (λ (f : Option IncludeName). option_or f (Some name)) is)
      by None found false is = ap (λ (f : Option IncludeName). option_or f None) is

  -- a renaming of a word that is there
  pub tells-old : (table : List (List ℕ × ℕ)) → is_some (lookup (bytes_eq name.name) table) ≡ true → TellsSoFar names i table → TellsSoFar names (i + 1) table
  tells-old table there so_far word =
      rw (found-next word) (by (lookup (bytes_eq word) table) (find (is_of word) (take i names)) (bytes_eq word name.name) refl refl (so_far word))
    where
      by : (o : Option ℕ) (found : Option IncludeName) (b : Bool) → lookup (bytes_eq word) table ≡ o → bytes_eq word name.name ≡ b → IsIndexOf names o found
          → IsIndexOf names o (option_or found (cond b (Some name) None))
      by (Some place) found b has is_b is = (is.0, is.1, ap (λ (f : Option IncludeName). option_or f (cond b (Some name) None)) is.2)
      by None found true has is_b is =
          let same : word ≡ name.name = same_text word name.name (sym is_b) in
          let found_there : is_some (lookup (bytes_eq word) table) ≡ true = subst (λ (w : List ℕ). is_some (lookup (bytes_eq w) table) ≡ true) (sym same) there in
          absurd (false≢true (ap is_some (sym has) ∙ found_there))
      by None found false has is_b is = ap (λ (f : Option IncludeName). option_or f None) is
