-- Keys that are looked up in a set are those of a list.
use Rattle.std.proofs.Common.{◌≡◌, ◌∙◌, ◌||◌, inl, inr, ℕ, Bool, true, false, List, [], ◌∷◌, ◌++◌, Option, Some, map, if◌then◌else◌, refl, sym, ap}
use Rattle.std.specs.List.{list_any}
use Rattle.std.specs.Str.{bytes_eq}
use Rattle.std.proofs.lemmas.Bool.{cases_Bool, cond-false, cond-true}
use Rattle.std.proofs.lemmas.List.Folds.{list_any-append}
use Rattle.std.proofs.lemmas.Slice.Eq.{bytes_eq-Decides}
use Rattle.wit_elaboration.specs.Entries.{Entry}
use Rattle.wit_graph_data.specs.declared.graph.Graph.{Graph}
use Rattle.wit_graph_data.specs.IdText.{key_text}
use Rattle.wit_resolve_graph.specs.steps.Parts.{HaveSameTexts, ListAlike, is_listed_key, listed_answers}

-- with a text that is there a list has the texts that it had
with_known : (texts : List (List ℕ)) (text other : List ℕ) → list_any (bytes_eq text) texts ≡ true → list_any (bytes_eq other) texts ≡ list_any (bytes_eq other) (texts ++ text ∷ [])
with_known texts text other has =
    elim (cases_Bool (bytes_eq other text)) [
      | inl same ↦
          let one : other ≡ text = (bytes_eq-Decides other text).0 same in
          let there : list_any (bytes_eq other) texts ≡ true = ap (λ (t : List ℕ). list_any (bytes_eq t) texts) one ∙ has in
          there ∙ sym (list_any-append (bytes_eq other) texts (text ∷ []) ∙ ap (λ b. b || (bytes_eq other text || false)) there)
      | inr differ ↦ sym (list_any-append (bytes_eq other) texts (text ∷ []) ∙ ap (λ b. list_any (bytes_eq other) texts || (b || false)) differ ∙ or_none (list_any (bytes_eq other) texts))
    ]
  where
    or_none : (b : Bool) → (b || (false || false)) ≡ b
    or_none true = refl
    or_none false = refl

-- one text more
pub one_more : (texts : List (List ℕ)) (text : List ℕ) (old new : List (List ℕ)) → HaveSameTexts old texts
    → new ≡ (if list_any (bytes_eq text) old then old else old ++ text ∷ []) → HaveSameTexts new (texts ++ text ∷ [])
one_more texts text old new same is other =
    let more : list_any (bytes_eq other) (old ++ text ∷ []) ≡ list_any (bytes_eq other) (texts ++ text ∷ []) =
    list_any-append (bytes_eq other) old (text ∷ []) ∙ ap (λ b. b || (bytes_eq other text || false)) (same other) ∙ sym (list_any-append (bytes_eq other) texts (text ∷ [])) in
    elim (cases_Bool (list_any (bytes_eq text) old)) [
      | inl has ↦ ap (list_any (bytes_eq other)) (is ∙ cond-true (list_any (bytes_eq text) old) old (old ++ text ∷ []) has) ∙ with_known old text other has ∙ more
      | inr lacks ↦ ap (list_any (bytes_eq other)) (is ∙ cond-false (list_any (bytes_eq text) old) old (old ++ text ∷ []) lacks) ∙ more
    ]

pub listed_alike : (some others : List (List ℕ)) → HaveSameTexts some others → ListAlike (Some some) (Some others)
listed_alike some others same = λ g k. same (key_text g.packages g.interfaces k)

-- so the answers are the same
pub answers_alike : (g : Graph) (some others : Option (List (List ℕ))) → ListAlike some others → (entries : List Entry) → listed_answers g some entries ≡ listed_answers g others entries
answers_alike g some others alike [] = refl
answers_alike g some others alike (entry ∷ entries) =
    ap (λ b. b ∷ listed_answers g some entries) (alike g entry.0) ∙ ap (λ (answers : List Bool). is_listed_key g others entry.0 ∷ answers) (answers_alike g some others alike entries)
