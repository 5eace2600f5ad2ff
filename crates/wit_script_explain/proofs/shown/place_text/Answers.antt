use Rattle.std.proofs.Common.{◌+◌, ℕ, ap, string_bytes, sym}
use Rattle.wit_script_explain.proofs.Placed.{placed}
use Rattle.wit_script_explain.proofs.shown.place_text.Goals as goal

pub returns : goal.returns
returns c =
    placed c.format.result c.args.script.now c.args.index c.args.path.now c.args.first c.in-Some.line.now (c.saturating_sub.result + 1) (c.content_range-column.result.0 + 1)
    (string_bytes c.in_ok-shown.shown) (sym c.in-Some.ensures.line) (ap (λ (n : ℕ). n + 1) c.saturating_sub.ensures) (ap (λ (n : ℕ). n + 1) c.content_range-column.ensures.start)
    c.in_ok-shown.ensures c.format.ensures.ok
