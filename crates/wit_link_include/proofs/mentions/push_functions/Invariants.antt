use Rattle.std.proofs.Common.{◌≡◌, ◌++◌, List, ℕ}
use Rattle.std.specs.List.{flat_map}
use Rattle.wit_data.specs.Kind.{function_references}
use Rattle.wit_data.specs.declared.function.Function.{Function}
use Rattle.wit_link_include.proofs.mentions.push_functions.Given as goal

-- what has been added, and what those will add that are left
abbrev pub invariant-loop-function : goal.invariant-loop-function
invariant-loop-function l =
    l.ids ++ flat_map (λ (e : List ℕ × Function). function_references e.1) l.function-iterator ≡ l.fn.ids ++ flat_map (λ (e : List ℕ × Function). function_references e.1) l.interface.functions
