use Rattle.wit_link_spec.specs.Reasons.{of_type}
use Rattle.wit_link_lookup.proofs.checker.Checker.look_at_type.Goals as goal

pub look_at_kind-requires-clause-refers : goal.look_at_kind-requires-clause-refers
look_at_kind-requires-clause-refers c =
    λ t place has. of_type c.requires.taken.t c.args.def.now t place c.requires.taken.at c.requires.taken.active has
