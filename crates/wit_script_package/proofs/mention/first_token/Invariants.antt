use Rattle.std.proofs.Common.{◌≡◌, ◌==◌, ℕ, List, [], Bor, map, not, length, filter}
use Rattle.wit_script_package.proofs.mention.first_token.Given as goal

-- the parts so far are empty
abbrev pub invariant-loop-part : goal.invariant-loop-part
invariant-loop-part l = filter (λ t. not (length t == 0)) (map (λ (x : Bor (List ℕ)). x.now) l.yielded) ≡ []
