use Rattle.std.proofs.Common.{◌≡◌, ◌∙◌, ℕ, List, [], ◌∷◌, OnOk, codes, refl, subst, sym}
use Rattle.std.proofs.lemmas.Bool.{false≢true}
use Rattle.wit_json.specs.Values.{Member, json_of_text, list_of, member}
use Rattle.wit_json.specs.steps.Members.{Adds}
use Rattle.wit_json_commands.specs.Answers.{unmatched_member}
use Rattle.wit_json_commands.proofs.replies.answers.write_unmatched.Goals as goal

-- where there are some keys, they are written
some_keys : (keys : List (List ℕ)) → (keys ≡ [] → ⊥) → member (codes "unmatched") (list_of json_of_text keys) ≡ unmatched_member keys
some_keys [] some = absurd (some refl)
some_keys (key ∷ keys) some = refl

pub returns-else-is_empty : goal.returns-else-is_empty
returns-else-is_empty c =
    subst (λ (ms : List Member). OnOk c.member.result (Adds c.args.out.now c.member.new.self ms))
    (some_keys c.args.unmatched.now (λ none. false≢true (sym c.if-is_empty.false ∙ c.is_empty.ensures.1 none))) c.member.ensures
