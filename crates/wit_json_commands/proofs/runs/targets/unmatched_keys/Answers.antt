use Rattle.std.proofs.Common.{◌≡◌, ◌∙◌, ℕ, List, [], Option, Bor, ap, option_copied, sym, unwrap_or}
use Rattle.wit_json_commands.specs.Targets.{import_key_texts, keys_not_among}
use Rattle.wit_json_commands.proofs.SameTexts.{left_alike}
use Rattle.wit_json_commands.proofs.runs.targets.unmatched_keys.Goals as goal

pub returns : goal.returns
returns c =
    let g = c.args.graph.now in
    let texts : c.as_slice.result.now ≡ import_key_texts g c.args.world = c.as_slice.ensures ∙ c.in_ok-texts.ensures in
    let listed : c.in-Some.keys.now ≡ unwrap_or (option_copied c.args.keys) [] = sym (ap (λ (o : Option (Bor (List (List ℕ)))). unwrap_or (option_copied o) []) c.in-Some.is) in
    c.in_ok-unmatched.ensures ∙ left_alike c.in_ok-set.set c.as_slice.result.now c.in_ok-set.ensures c.as_slice-2.result.now
    ∙ ap (λ (others : List (List ℕ)). keys_not_among others c.as_slice-2.result.now) texts ∙ ap (keys_not_among (import_key_texts g c.args.world)) (c.as_slice-2.ensures ∙ listed)
