-- The path to a package, and members that are written last.
use Rattle.std.proofs.Common.{◌≡◌, ◌∙◌, ℕ, List, [], ◌∷◌, ◌++◌, Option, None, Some, OnOk, Result, Ok, Err, refl, ap, append_assoc, codes}
use Rattle.json.specs.Token.{Token}
use Rattle.json.specs.Token as token
use Rattle.json.specs.Tree.{json_tokens}
use Rattle.wit_json.specs.Values.{Member}
use Rattle.wit_json.specs.facts.MemberFacts.{then_more}
use Rattle.wit_json.specs.steps.Members.{Adds}
use Rattle.wit_json_commands.specs.UnshapedJson.{package_path, steps_to}
use Rattle.wit_json_commands.specs.steps.Paths.{steps_tokens}

path_tokens : (group nested : Option ℕ) → token.begin_array ∷ (steps_tokens (steps_to (codes "deps") group) ++ (steps_tokens (steps_to (codes "nested") nested) ++ token.end_array ∷ [])) ≡ json_tokens (package_path group nested)
path_tokens None None = refl
path_tokens None (Some i) = refl
path_tokens (Some g) None = refl
path_tokens (Some g) (Some i) = refl

-- an array is begun, the steps are written, and it is ended
pub path_closed : {E : Type 0} (r : Result (Unit {0}) E) (a : List Token) {b c d : List Token} (e : List Token) (group nested : Option ℕ) → b ≡ a ++ token.begin_array ∷ []
    → c ≡ b ++ steps_tokens (steps_to (codes "deps") group) → d ≡ c ++ steps_tokens (steps_to (codes "nested") nested) → OnOk r (e ≡ d ++ token.end_array ∷ [])
    → OnOk r (e ≡ a ++ json_tokens (package_path group nested))
path_closed (Ok x) a e group nested opens first second ends =
    let g = steps_tokens (steps_to (codes "deps") group) in
    let n = steps_tokens (steps_to (codes "nested") nested) in
    let end : List Token = token.end_array ∷ [] in
    ends ∙ ap (λ (ts : List Token). ts ++ end) (second ∙ ap (λ (ts : List Token). ts ++ n) (first ∙ ap (λ (ts : List Token). ts ++ g) opens))
    ∙ append_assoc ((a ++ token.begin_array ∷ []) ++ g) n end ∙ append_assoc (a ++ token.begin_array ∷ []) g (n ++ end) ∙ append_assoc a (token.begin_array ∷ []) (g ++ (n ++ end))
    ∙ ap (λ (ts : List Token). a ++ ts) (path_tokens group nested)
path_closed (Err x) a e group nested opens first second ends = tt

-- some members and then the last ones
pub added_last : {E : Type 0} (r : Result (Unit {0}) E) {a b : List Token} {ms : List Member} (c : List Token) (ns : List Member) → Adds a b ms → OnOk r (Adds b c ns) → OnOk r (Adds a c (ms ++ ns))
added_last (Ok x) c ns first last = then_more first last
added_last (Err x) c ns first last = tt
