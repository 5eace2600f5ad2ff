use Rattle.std.proofs.Common.{◌≡◌, ◌++◌, take}
use Rattle.std.specs.List.{flat_map}
use Rattle.wit_data.specs.Kind.{named_type}
use Rattle.wit_data.specs.declared.function.Param.{Param}
use Rattle.wit_data.proofs.reference.push_params.Given as goal

-- those of the first ones have been added
abbrev pub invariant-loop-param : goal.invariant-loop-param
invariant-loop-param l =
    l.ids ≡ l.fn.ids ++ flat_map (λ (p : Param). named_type p.ty) (take l.param-index l.params)
