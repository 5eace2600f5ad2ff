use Rattle.std.proofs.Common.{◌≡◌, ◌++◌, ℕ, drop}
use Rattle.std.specs.List.{enumerate_from, flat_map}
use Rattle.wit_data.specs.declared.interface.Interface.{Interface}
use Rattle.wit_link_resources.specs.steps.Active.{seen}
use Rattle.wit_merge_match.specs.steps.Matched.{merge_of_graphs}
use Rattle.wit_merge.proofs.functions.push_interfaces.Given as goal
use Rattle.wit_merge_spec.specs.steps.Parts.{interface_functions}

-- what has been added, and what those will add that are left
abbrev pub invariant-loop-index : goal.invariant-loop-index
invariant-loop-index l =
    seen l.functions.items ++ flat_map (λ (e : ℕ × Interface). interface_functions (merge_of_graphs l.graph l.other) e.0 e.1) (enumerate_from l.index (drop l.index l.other.interfaces))
    ≡ seen l.fn.functions.items ++ flat_map (λ (e : ℕ × Interface). interface_functions (merge_of_graphs l.graph l.other) e.0 e.1) (enumerate_from 0 l.other.interfaces)
