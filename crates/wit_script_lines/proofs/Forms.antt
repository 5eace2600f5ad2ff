-- Forms that stand in each other.
use Rattle.std.proofs.Common.{◌≡◌, ℕ, suc, zero, ◌≤◌, ◌<◌, List, [], ◌∷◌, ◌++◌, Option, Some, None, length, sym, ap, ◌∙◌, append_assoc, arith}
use Rattle.std.proofs.lemmas.List.{append-nil}
use Rattle.std.specs.Option.{option_map_or}
use Rattle.wit_script_lines.specs.TypeText.{form_of, type_text_within, written_of}
use Rattle.wit_script_lines.specs.declared.type_text.TypeText.{TypeText}
use Rattle.wit_script_lines.specs.declared.type_text.Wrap.{Wrap}

-- forms around what a text says
abbrev in_forms : List Wrap → TypeText → TypeText
in_forms wraps text = record { wraps = wraps ++ text.wraps; core = text.core }

-- a text by its outermost form
abbrev type_text_by : (List ℕ → TypeText) → List ℕ → Option (Wrap × List ℕ) → TypeText
type_text_by read text form = option_map_or (λ (f : Wrap × List ℕ). in_forms (f.0 ∷ []) (read f.1)) form (record { wraps = []; core = written_of text })

-- forms around what the rest of a text says
abbrev pub Stands : TypeText → List Wrap → List ℕ → Type 0
Stands whole wraps rest = (n : ℕ) × (length rest ≤ n) × (whole ≡ in_forms wraps (type_text_within n rest))

join : (ws : List Wrap) (w : Wrap) (t : TypeText) → in_forms ws (in_forms (w ∷ []) t) ≡ in_forms (ws ++ w ∷ []) t
join ws w t = let inner : TypeText = t in ap (λ (l : List Wrap). let made : TypeText = record { wraps = l; core = t.core } in made) (sym (append_assoc ws (w ∷ []) t.wraps))

-- one more form
pub one-more : (whole : TypeText) (wraps : List Wrap) (rest inner : List ℕ) (w : Wrap) → Stands whole wraps rest → Some (w, inner) ≡ form_of rest → length inner < length rest
    → Stands whole (wraps ++ w ∷ []) inner
one-more whole wraps rest inner w stands form shorter = at stands.0 stands.1 stands.2 where
  at : (n : ℕ) → length rest ≤ n → whole ≡ in_forms wraps (type_text_within n rest) → Stands whole (wraps ++ w ∷ []) inner
  at zero within same = absurd (omega arith)
  at (suc n) within same =
      (n, omega arith, same ∙ ap (λ o. in_forms wraps (type_text_by (type_text_within n) rest o)) (sym form) ∙ join wraps w (type_text_within n inner))

-- no more forms
pub no-more : (whole : TypeText) (wraps : List Wrap) (rest : List ℕ) → Stands whole wraps rest → form_of rest ≡ None → whole ≡ record { wraps = wraps; core = written_of rest }
no-more whole wraps rest stands none = at stands.0 stands.2 where
  core : in_forms wraps (record { wraps = []; core = written_of rest }) ≡ record { wraps = wraps; core = written_of rest }
  core = ap (λ (l : List Wrap). let made : TypeText = record { wraps = l; core = written_of rest } in made) (append-nil wraps)

  at : (n : ℕ) → whole ≡ in_forms wraps (type_text_within n rest) → whole ≡ record { wraps = wraps; core = written_of rest }
  at zero same = same ∙ core
  at (suc n) same = same ∙ ap (λ o. in_forms wraps (type_text_by (type_text_within n) rest o)) none ∙ core
