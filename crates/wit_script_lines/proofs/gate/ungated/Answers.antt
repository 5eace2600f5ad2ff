use Rattle.std.proofs.Common.{◌≡◌, ◌++◌, ◌∷◌, [], sym, ◌∙◌}
use Rattle.wit_script_lines.proofs.Gated.{gated-line, plain-line}
use Rattle.wit_script_lines.proofs.gate.ungated.Goals as goal

pub returns-then-is_gate : goal.returns-then-is_gate
returns-then-is_gate c =
    let whole : c.args.arguments.now ≡ c.in-Some.before.now ++ c.in-Some.last.now ∷ [] = rw (c.in-Some.last-is, c.in-Some.before-is) c.in-Some.ensures.cases.0 in
    gated-line c.args.arguments.now c.in-Some.before.now c.in-Some.last.now whole (sym c.is_gate.ensures ∙ c.if-is_gate.true)

pub returns-else-is_gate : goal.returns-else-is_gate
returns-else-is_gate c =
    let whole : c.args.arguments.now ≡ c.in-Some.before.now ++ c.in-Some.last.now ∷ [] = rw (c.in-Some.last-is, c.in-Some.before-is) c.in-Some.ensures.cases.0 in
    plain-line c.args.arguments.now c.in-Some.before.now c.in-Some.last.now whole (sym c.is_gate.ensures ∙ c.if-is_gate.false)
