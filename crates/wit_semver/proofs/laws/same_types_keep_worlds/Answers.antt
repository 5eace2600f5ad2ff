use Rattle.wit_semver.proofs.SameTypes.{same_types_keep_worlds}
use Rattle.wit_semver.proofs.laws.same_types_keep_worlds.Goals as goal

pub returns : goal.returns
returns c =
    λ u w valid there stay complete agree.
    same_types_keep_worlds c.laws_of_elaboration.ensures c.imports_keep_order.ensures u w valid there stay complete agree
