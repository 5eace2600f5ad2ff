use Rattle.std.proofs.Common.{◌≡◌, ◌<◌, ◌∙◌, ◌+◌, ◌++◌, ◌∷◌, [], ℕ, List, length, get_or, take, ap, subst, sym, rules}
use Rattle.std.proofs.lemmas.List.{take_more}
use Rattle.wit_resolve_graph.specs.steps.Parts.{HaveSameTexts}
use Rattle.wit_json_commands.proofs.SameTexts.{one_more}
use Rattle.wit_json_commands.proofs.runs.targets.set_of.Goals as goal

pub loop-text-preserved : goal.loop-text-preserved
loop-text-preserved c =
    let texts = c.args.texts.now in
    let i = c.loop-text.text-index in
    let text = c.text-item.result in
    let small : i < length texts = search rules in
    let is : text ≡ get_or texts i text = search rules in
    let longer : take (i + 1) texts ≡ take i texts ++ text ∷ [] = take_more texts i text small ∙ ap (λ (it : List ℕ). take i texts ++ it ∷ []) (sym is) in
    subst (HaveSameTexts c.insert.new.self) (sym longer)
    (subst (λ (it : List ℕ). HaveSameTexts c.insert.new.self (take i texts ++ it ∷ [])) c.as_str.ensures
    (one_more (take i texts) c.as_str.result.now c.loop-text.set c.insert.new.self c.loop-text.invariant c.in_ok-insert.ensures.ok))
