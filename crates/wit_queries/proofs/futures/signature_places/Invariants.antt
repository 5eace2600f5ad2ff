use Rattle.std.proofs.Common.{◌≡◌, take}
use Rattle.std.specs.List.{flat_map}
use Rattle.wit_data.specs.Kind.{named_type}
use Rattle.wit_data.specs.declared.function.Param.{Param}
use Rattle.wit_queries.specs.steps.Unfolding.{places_within}
use Rattle.wit_queries.proofs.futures.signature_places.Given as goal

-- those of the first parameters
abbrev pub invariant-loop-param : goal.invariant-loop-param
invariant-loop-param l =
    l.places
    ≡ places_within l.count
    (flat_map (λ (p : Param). named_type p.ty) (take l.param-index l.function.params))
