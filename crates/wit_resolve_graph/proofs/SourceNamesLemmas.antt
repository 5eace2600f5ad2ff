-- Places that are there, and names that are told once.
use Rattle.std.proofs.Common.{◌≡◌, ◌∙◌, ℕ, ◌<◌, ◌⊎◌, ◌||◌, inl, inr, Bool, true, false, cond, not, List, [], ◌∷◌, ◌++◌, filter, Some, append_assoc, refl, ap, sym, subst}
use Rattle.std.proofs.Math.Bool.{or-true}
use Rattle.std.proofs.lemmas.Bool.{false≢true}
use Rattle.std.proofs.lemmas.List.{append-nil}
use Rattle.std.proofs.lemmas.Slice.Eq.{bytes_eq-Decides}
use Rattle.std.specs.Bool.{Decides}
use Rattle.std.specs.List.{list_any}
use Rattle.std.specs.Map.{lookup}
use Rattle.std.specs.Str.{bytes_eq}
use Rattle.wit_resolve_graph.specs.SourceNames.{ArePlaced, each_once}
use Rattle.wit_resolve_graph.specs.steps.Seen.{with_all, with_name}

-- what is looked up is the place of a source map that is there
pub placed_at : (places : List (ℕ × ℕ)) (count : ℕ) (test : ℕ → Bool) (place : ℕ) → ArePlaced places count → lookup test places ≡ Some place → place < count
placed_at [] count test place placed found = cc
placed_at (e ∷ es) count test place placed found = at (test e.0) found (placed_at es count test place placed.1)
  where
    at : (b : Bool) → cond b (Some e.1) (lookup test es) ≡ Some place → (lookup test es ≡ Some place → place < count) → place < count
    at true here later = let same : e.1 ≡ place = cc in subst (λ n. n < count) same placed.0
    at false there later = later there

-- ---- each once

-- the name isn't among these
abbrev is_new : List (List ℕ) → List ℕ → Bool
is_new seen name = not (list_any (bytes_eq name) seen)

-- a name that isn't one of these
abbrev others : List ℕ → List (List ℕ) → List (List ℕ)
others name names = filter (λ other. not (bytes_eq name other)) names

told_apart : (a b : List ℕ) → ((bytes_eq a b ≡ true) × (a ≡ b)) ⊎ ((bytes_eq a b ≡ false) × ¬ (a ≡ b))
told_apart a b = at (bytes_eq a b) refl (bytes_eq-Decides a b)
  where
    at : (c : Bool) → bytes_eq a b ≡ c → Decides c (a ≡ b) → ((bytes_eq a b ≡ true) × (a ≡ b)) ⊎ ((bytes_eq a b ≡ false) × ¬ (a ≡ b))
    at true is same = inl (is, same.0 refl)
    at false is other = inr (is, λ same. false≢true (other.1 same))

apart : (a b : List ℕ) → ¬ (a ≡ b) → bytes_eq b a ≡ false
apart a b other = elim (told_apart b a) [ inl same ↦ absurd (other (sym same.1)) | inr differs ↦ differs.0 ]

any_last : (p : List ℕ → Bool) (seen : List (List ℕ)) (name : List ℕ) → p name ≡ true → list_any p (seen ++ name ∷ []) ≡ true
any_last p [] name is = ap (λ b. b || false) is
any_last p (x ∷ seen) name is = ap (λ b. p x || b) (any_last p seen name is) ∙ or-true (p x)

any_before : (p : List ℕ → Bool) (seen : List (List ℕ)) (name : List ℕ) → p name ≡ false → list_any p (seen ++ name ∷ []) ≡ list_any p seen
any_before p [] name is = ap (λ b. b || false) is
any_before p (x ∷ seen) name is = ap (λ b. p x || b) (any_before p seen name is)

-- what isn't among more names isn't the one that came, nor among those before
new_after : (seen : List (List ℕ)) (name : List ℕ) (xs : List (List ℕ)) → filter (is_new (seen ++ name ∷ [])) xs ≡ filter (is_new seen) (others name xs)
new_after seen name [] = refl
new_after seen name (x ∷ xs) =
    let later = new_after seen name xs in
    let left = filter (is_new (seen ++ name ∷ [])) xs in
    let rest = others name xs in
    elim (told_apart name x) [
      | inl same ↦ ap (λ b. cond b (x ∷ left) left) (ap not (any_last (bytes_eq x) seen name (ap (λ y. bytes_eq x y) same.1 ∙ ap (λ y. bytes_eq y x) (sym same.1) ∙ same.0)))
          ∙ later ∙ sym (ap (λ b. filter (is_new seen) (cond (not b) (x ∷ rest) rest)) same.0)
      | inr other ↦ ap (λ b. cond b (x ∷ left) left) (ap not (any_before (bytes_eq x) seen name (apart name x other.1)))
          ∙ ap (λ l. cond (is_new seen x) (x ∷ l) l) later ∙ sym (ap (λ b. filter (is_new seen) (cond (not b) (x ∷ rest) rest)) other.0)
    ]

-- a name that was seen is no loss
seen_before : (seen : List (List ℕ)) (name : List ℕ) → list_any (bytes_eq name) seen ≡ true → (xs : List (List ℕ)) → filter (is_new seen) (others name xs) ≡ filter (is_new seen) xs
seen_before seen name has [] = refl
seen_before seen name has (x ∷ xs) =
    let later = seen_before seen name has xs in
    let left = filter (is_new seen) xs in
    let rest = others name xs in
    elim (told_apart name x) [
      | inl same ↦ ap (λ b. filter (is_new seen) (cond (not b) (x ∷ rest) rest)) same.0 ∙ later
          ∙ sym (ap (λ b. cond (not b) (x ∷ left) left) (ap (λ y. list_any (bytes_eq y) seen) (sym same.1) ∙ has))
      | inr other ↦ ap (λ b. filter (is_new seen) (cond (not b) (x ∷ rest) rest)) other.0 ∙ ap (λ l. cond (is_new seen x) (x ∷ l) l) later
    ]

-- going through names comes to each of them once, but for those that were there
pub with_all_is : (seen names : List (List ℕ)) → with_all seen names ≡ seen ++ filter (is_new seen) (each_once names)
with_all_is seen [] = sym (append-nil seen)
with_all_is seen (name ∷ names) = with_all_is (with_name seen name) names ∙ at (list_any (bytes_eq name) seen) refl
  where
    at : (b : Bool) → list_any (bytes_eq name) seen ≡ b → with_name seen name ++ filter (is_new (with_name seen name)) (each_once names) ≡ seen ++ filter (is_new seen) (each_once (name ∷ names))
    at true has =
        ap (λ b. cond b seen (seen ++ name ∷ []) ++ filter (is_new (cond b seen (seen ++ name ∷ []))) (each_once names)) has
        ∙ ap (λ l. seen ++ l) (sym (seen_before seen name has (each_once names)) ∙ sym (ap (λ b. cond (not b) (name ∷ filter (is_new seen) (others name (each_once names))) (filter (is_new seen) (others name (each_once names)))) has))
    at false new =
        ap (λ b. cond b seen (seen ++ name ∷ []) ++ filter (is_new (cond b seen (seen ++ name ∷ []))) (each_once names)) new
        ∙ append_assoc seen (name ∷ []) (filter (is_new (seen ++ name ∷ [])) (each_once names))
        ∙ ap (λ l. seen ++ (name ∷ l)) (new_after seen name (each_once names))
        ∙ ap (λ l. seen ++ l) (sym (ap (λ b. cond (not b) (name ∷ filter (is_new seen) (others name (each_once names))) (filter (is_new seen) (others name (each_once names)))) new))

all_new : (xs : List (List ℕ)) → filter (is_new []) xs ≡ xs
all_new [] = refl
all_new (x ∷ xs) = ap (λ l. x ∷ l) (all_new xs)

pub with_all_once : (names : List (List ℕ)) → with_all [] names ≡ each_once names
with_all_once names = with_all_is [] names ∙ all_new (each_once names)
