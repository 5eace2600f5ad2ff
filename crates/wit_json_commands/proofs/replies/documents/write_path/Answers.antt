use Rattle.std.proofs.Common.{◌≡◌, ◌<◌, ◌++◌, ◌∷◌, ◌-◌, ◌∙◌, ℕ, suc, List, length, get_or, drop, reverse, ap, sym, append_assoc, arith, rules}
use Rattle.json.specs.Token.{Token, begin_array}
use Rattle.json.specs.Tree.{json_tokens}
use Rattle.wit_json_commands.specs.Output.{json_of_step}
use Rattle.wit_json_commands.proofs.Paths.{one_before, path_ended, steps_tokens}
use Rattle.wit_json_commands.proofs.replies.documents.write_path.Goals as goal

pub loop-index-preserved : goal.loop-index-preserved
loop-index-preserved c =
    let steps = c.args.steps.now in
    let a : List Token = c.args.out.now in
    let k : ℕ = c.loop-index.index - 1 in
    let s = c.index-steps-index.result in
    let next : c.loop-index.index ≡ suc k = let some = c.loop-index-test.true in omega arith in
    let is : s ≡ get_or steps k s = search rules in
    let small : k < length steps = search rules in
    c.in_ok-write_step.ensures ∙ ap (λ (ts : List Token). ts ++ json_tokens (json_of_step s)) c.loop-index.invariant
    ∙ append_assoc a (begin_array ∷ steps_tokens (reverse (drop c.loop-index.index steps))) (json_tokens (json_of_step s))
    ∙ ap (λ (ts : List Token). a ++ begin_array ∷ ts) (sym (one_before steps k c.loop-index.index s next small is))

pub returns : goal.returns
returns c =
    let steps = c.args.steps.now in
    let a : List Token = c.args.out.now in
    let over : c.loop-index.index ≡ 0 = let end = c.loop-index-test.false in omega arith in
    let written : c.loop-index.out ≡ a ++ begin_array ∷ steps_tokens (reverse steps) =
    c.loop-index.invariant ∙ ap (λ (n : ℕ). a ++ begin_array ∷ steps_tokens (reverse (drop n steps))) over in
    path_ended c.end_array.result a c.end_array.new.self steps written c.end_array.ensures
