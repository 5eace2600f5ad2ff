use Rattle.std.proofs.Common.{◌≡◌, ◌==◌, ℕ, List, Bor, map, not, length, filter}
use Rattle.wit_script_lines.proofs.line.tokens.Given as goal

-- the tokens so far
abbrev pub invariant-loop-part : goal.invariant-loop-part
invariant-loop-part l =
    map (λ (x : Bor (List ℕ)). x.now) l.found.items ≡ filter (λ t. not (length t == 0)) (map (λ (x : Bor (List ℕ)). x.now) l.yielded)
