use Rattle.std.proofs.Common.{◌≡◌, ℕ, List, string_bytes, subst}
use Rattle.std.specs.Prelude.{IfOk}
use Rattle.wit_script_explain.proofs.refusals.explain_misread.Goals as goal
use Rattle.wit_script_explain.specs.steps.Parts.{misread_text}

pub returns : goal.returns
returns c =
    subst (λ (i : ℕ). IfOk c.misread_text.result (λ text. (reason : List ℕ) × (string_bytes text ≡ misread_text c.args.script.now i reason)))
    c.in_ok-index.ensures c.misread_text.ensures
