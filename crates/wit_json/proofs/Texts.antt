-- Texts that are left of some.
use Rattle.std.proofs.Common.{◌≡◌, ◌+◌, ◌∙◌, ℕ, zero, suc, List, [], ◌∷◌, ◌++◌, drop, map, Some, slice_get, sym, ap, arith, append_assoc}
use Rattle.json.specs.Token.{Token}
use Rattle.json.specs.Token as token
use Rattle.json.specs.Tree.{items_tokens}
use Rattle.json.specs.Value.{items_of}
use Rattle.wit_json.specs.Values.{json_of_text}

-- what is left from an index on begins with what stands there
left_at : {X : Type 0} (xs : List X) (k : ℕ) (x : X) → slice_get xs k ≡ Some x → drop k xs ≡ x ∷ drop (suc k) xs
left_at [] k x at = cc
left_at {X} (z ∷ xs) zero x at = let same : z ≡ x = cc in ap (λ (y : X). y ∷ xs) same
left_at (z ∷ xs) (suc k) x at = left_at xs k x at

-- one more text is written
pub one_more_text : (texts : List (List ℕ)) (index : ℕ) (text : List ℕ) (written whole : List Token) → slice_get texts index ≡ Some text
    → written ++ items_tokens (items_of (map json_of_text (drop index texts))) ≡ whole
    → (written ++ token.string text ∷ []) ++ items_tokens (items_of (map json_of_text (drop (index + 1) texts))) ≡ whole
one_more_text texts index text written whole at so_far =
    let next : index + 1 ≡ suc index = omega arith in
    ap (λ (n : ℕ). (written ++ token.string text ∷ []) ++ items_tokens (items_of (map json_of_text (drop n texts)))) next
    ∙ append_assoc written (token.string text ∷ []) (items_tokens (items_of (map json_of_text (drop (suc index) texts))))
    ∙ ap (λ (left : List (List ℕ)). written ++ items_tokens (items_of (map json_of_text left))) (sym (left_at texts index text at)) ∙ so_far
