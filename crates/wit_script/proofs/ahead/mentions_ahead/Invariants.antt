use Rattle.std.proofs.Common.{◌≡◌, ◌++◌, ℕ, List, Bor, map, drop}
use Rattle.wit_script.specs.Script.{mentions_ahead}
use Rattle.wit_script.proofs.ahead.mentions_ahead.Given as goal

-- the mentions so far, and those of the lines that are left, are all
abbrev pub invariant-loop-line : goal.invariant-loop-line
invariant-loop-line l =
    l.mentions ++ mentions_ahead l.at (map (λ (x : Bor (List ℕ)). x.now) (drop l.line-index l.lines))
    ≡ mentions_ahead l.fn.file_len (map (λ (x : Bor (List ℕ)). x.now) l.lines)
