use Rattle.std.proofs.Common.{◌≡◌, ◌++◌, ℕ, List, drop, map}
use Rattle.std.specs.List.{flat_map}
use Rattle.wit_data.specs.declared.function.Function.{Function}
use Rattle.wit_data.specs.declared.interface.Interface.{Interface}
use Rattle.wit_link_resources.specs.steps.Active.{seen}
use Rattle.wit_merge.proofs.functions.push_of_interfaces.Given as goal

-- what has been added, and what those will add that are left
abbrev pub invariant-loop-interface : goal.invariant-loop-interface
invariant-loop-interface l = seen l.functions.items ++ flat_map (λ (interface : Interface). map (λ (e : List ℕ × Function). e.1) interface.functions) (drop l.interface-index l.interfaces) ≡ seen l.fn.functions.items ++ flat_map (λ (interface : Interface). map (λ (e : List ℕ × Function). e.1) interface.functions) l.interfaces
