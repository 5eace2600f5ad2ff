use Rattle.std.proofs.Common.{◌≡◌, ℕ, List, filter, is_some, not}
use Rattle.std.specs.Map.{lookup}
use Rattle.std.specs.Str.{bytes_eq}
use Rattle.wit_data.specs.declared.function.Function.{Function}
use Rattle.wit_merge_match.proofs.leaving.all_named.Given as goal

-- of those whose names aren't there all are among those to come
abbrev pub invariant-loop-name : goal.invariant-loop-name
invariant-loop-name l =
    filter (λ (e : List ℕ × Function). not (is_some (lookup (bytes_eq e.0) l.into))) l.from ≡ filter (λ (e : List ℕ × Function). not (is_some (lookup (bytes_eq e.0) l.into))) l.name-iterator
