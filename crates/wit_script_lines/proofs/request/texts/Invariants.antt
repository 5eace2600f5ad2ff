use Rattle.std.proofs.Common.{◌≡◌, ℕ, List, Bor, map, take}
use Rattle.wit_script_lines.proofs.request.texts.Given as goal

-- the texts so far
abbrev pub invariant-loop-token : goal.invariant-loop-token
invariant-loop-token l = l.found ≡ map (λ (x : Bor (List ℕ)). x.now) (take l.token-index l.tokens)
