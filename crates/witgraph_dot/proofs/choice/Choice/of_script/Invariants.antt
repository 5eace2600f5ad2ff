use Rattle.std.proofs.Common.{◌≡◌, drop, fold, map}
use Rattle.wit_script_lines.specs.Line.{lines_of}
use Rattle.witgraph_dot.specs.Choice.{choice_of, and_line}
use Rattle.witgraph_dot.proofs.choice.Choice.of_script.Given as goal

-- with the lines that are left it is the choice of all
abbrev pub invariant-loop-line : goal.invariant-loop-line
invariant-loop-line l = fold and_line l.choice (map (λ x. x.now) (drop l.line-index l.line-items)) ≡ choice_of (lines_of l.script)
