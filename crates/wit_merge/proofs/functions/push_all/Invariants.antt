use Rattle.std.proofs.Common.{◌≡◌, ◌++◌, ℕ, List, map}
use Rattle.wit_data.specs.declared.function.Function.{Function}
use Rattle.wit_link_resources.specs.steps.Active.{seen}
use Rattle.wit_merge.proofs.functions.push_all.Given as goal

-- what has been added, and what those will add that are left
abbrev pub invariant-loop-function : goal.invariant-loop-function
invariant-loop-function l =
    seen l.functions.items ++ map (λ (e : List ℕ × Function). e.1) l.function-iterator ≡ seen l.fn.functions.items ++ map (λ (e : List ℕ × Function). e.1) l.named
