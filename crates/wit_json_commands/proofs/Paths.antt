-- The steps of a path, written from the first one on.
use Rattle.std.proofs.Common.{◌≡◌, ◌<◌, ◌∙◌, ℕ, suc, List, [], ◌∷◌, ◌++◌, length, get_or, drop, reverse, map, OnOk, Result, Ok, Err, refl, sym, ap, append_assoc, append-nil, drop-cons}
use Rattle.std.proofs.lemmas.List.{reverse-append}
use Rattle.json.specs.Token.{Token}
use Rattle.json.specs.Token as token
use Rattle.json.specs.Tree.{items_tokens, json_tokens}
use Rattle.json.specs.Value.{items_of}
use Rattle.wit_json_reading.specs.declared.fault.Step.{Step}
use Rattle.wit_json_commands.specs.Output.{json_of_path, json_of_step}

-- the tokens of steps
abbrev pub steps_tokens : List Step → List Token
steps_tokens [] = []
steps_tokens (s ∷ ss) = json_tokens (json_of_step s) ++ steps_tokens ss

steps_tokens-append : (ss ts : List Step) → steps_tokens (ss ++ ts) ≡ steps_tokens ss ++ steps_tokens ts
steps_tokens-append [] ts = refl
steps_tokens-append (s ∷ ss) ts =
    ap (λ x. json_tokens (json_of_step s) ++ x) (steps_tokens-append ss ts) ∙ sym (append_assoc (json_tokens (json_of_step s)) (steps_tokens ss) (steps_tokens ts))

-- the steps of a list, and its end
pub all_steps : (ss : List Step) → items_tokens (items_of (map json_of_step ss)) ≡ steps_tokens ss ++ token.end_array ∷ []
all_steps [] = refl
all_steps (s ∷ ss) =
    ap (λ x. json_tokens (json_of_step s) ++ x) (all_steps ss) ∙ sym (append_assoc (json_tokens (json_of_step s)) (steps_tokens ss) (token.end_array ∷ []))

-- one step more, from the last one on
pub one_before : (ss : List Step) (k n : ℕ) (s : Step) → n ≡ suc k → k < length ss → s ≡ get_or ss k s
    → steps_tokens (reverse (drop k ss)) ≡ steps_tokens (reverse (drop n ss)) ++ json_tokens (json_of_step s)
one_before ss k n s next small is =
    ap (λ x. steps_tokens (reverse x)) (drop-cons ss k s small ∙ ap (λ x. x ∷ drop (suc k) ss) (sym is))
    ∙ ap steps_tokens (reverse-append (s ∷ []) (drop (suc k) ss))
    ∙ steps_tokens-append (reverse (drop (suc k) ss)) (s ∷ [])
    ∙ ap (λ x. steps_tokens (reverse (drop (suc k) ss)) ++ x) (append-nil (json_tokens (json_of_step s)))
    ∙ ap (λ m. steps_tokens (reverse (drop m ss)) ++ json_tokens (json_of_step s)) (sym next)

-- all steps are written, and the list is ended
pub path_ended : {E : Type 0} (r : Result (Unit {0}) E) (a : List Token) {b : List Token} (d : List Token) (ss : List Step) → b ≡ a ++ token.begin_array ∷ steps_tokens (reverse ss)
    → OnOk r (d ≡ b ++ token.end_array ∷ []) → OnOk r (d ≡ a ++ json_tokens (json_of_path ss))
path_ended (Ok x) a d ss written ends =
    ends ∙ ap (λ (ts : List Token). ts ++ token.end_array ∷ []) written ∙ append_assoc a (token.begin_array ∷ steps_tokens (reverse ss)) (token.end_array ∷ [])
    ∙ ap (λ (ts : List Token). a ++ token.begin_array ∷ ts) (sym (all_steps (reverse ss)))
path_ended (Err e) a d ss written ends = tt
