use Rattle.std.proofs.Common.{◌≡◌, ℕ, List, Bor, Some, map, take}
use Rattle.wit_script_lines.specs.PackageLine.{each_of, typed_name_of}
use Rattle.wit_script_lines.proofs.signature.read_typed_names.Given as goal

-- those so far
abbrev pub invariant-loop-token : goal.invariant-loop-token
invariant-loop-token l = each_of typed_name_of (map (λ (x : Bor (List ℕ)). x.now) (take l.token-index l.tokens)) ≡ Some l.found
