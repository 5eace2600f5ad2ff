use Rattle.std.proofs.Common.{◌≡◌, ℕ, List, Bor, fold, map, drop}
use Rattle.wit_script_explain.specs.Lines.{script_lines_of, with_next_line}
use Rattle.wit_script_explain.proofs.lines.numbered.Given as goal

-- the lines so far, and those that are left, are all
abbrev pub invariant-loop-line : goal.invariant-loop-line
invariant-loop-line l =
    fold with_next_line l.read (map (λ (x : Bor (List ℕ)). x.now) (drop l.line-index l.lines)) ≡ script_lines_of (map (λ (x : Bor (List ℕ)). x.now) l.lines)
