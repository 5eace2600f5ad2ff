use Rattle.std.proofs.Common.{◌≡◌, ◌++◌, take}
use Rattle.std.specs.List.{flat_map}
use Rattle.wit_data.specs.Kind.{named_option}
use Rattle.wit_data.specs.declared.types.Case.{Case}
use Rattle.wit_data.proofs.kind.push_cases.Given as goal

-- those of the first ones have been added
abbrev pub invariant-loop-case : goal.invariant-loop-case
invariant-loop-case l =
    l.ids ≡ l.fn.ids ++ flat_map (λ (c : Case). named_option c.ty) (take l.case-index l.cases)
