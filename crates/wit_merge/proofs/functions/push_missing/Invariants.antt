use Rattle.std.proofs.Common.{◌≡◌, ◌++◌, ℕ, List, filter, is_some, map, not}
use Rattle.std.specs.Map.{lookup}
use Rattle.std.specs.Str.{bytes_eq}
use Rattle.wit_data.specs.declared.function.Function.{Function}
use Rattle.wit_link_resources.specs.steps.Active.{seen}
use Rattle.wit_merge.proofs.functions.push_missing.Given as goal

-- what has been added, and what those will add that are left
abbrev pub invariant-loop-name : goal.invariant-loop-name
invariant-loop-name l =
    seen l.functions.items ++ map (λ (e : List ℕ × Function). e.1) (filter (λ (e : List ℕ × Function). not (is_some (lookup (bytes_eq e.0) l.there))) l.name-iterator)
    ≡ seen l.fn.functions.items ++ map (λ (e : List ℕ × Function). e.1) (filter (λ (e : List ℕ × Function). not (is_some (lookup (bytes_eq e.0) l.there))) l.named)
