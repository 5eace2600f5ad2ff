use Rattle.std.proofs.Common.{option_map, string_bytes}
use Rattle.wit_transform.specs.Transformed.{importized}
use Rattle.wit_resolve_graph.proofs.KeptRows.{kept_transformed}
use Rattle.wit_resolve_graph.proofs.resolve.Resolve.importize.Goals as goal

pub returns-clause-cause : goal.returns-clause-cause
returns-clause-cause c = rw (← c.self.view_is) c.importize_with.ensures.cause

pub returns-clause-refuses : goal.returns-clause-refuses
returns-clause-refuses c = rw (← c.self.view_is) c.importize_with.ensures.refuses

pub invariant_of-self : goal.invariant_of-self
invariant_of-self c =
    kept_transformed c.self.inside.graph c.importize_with.new.graph c.self.inside.kept c.importize_with.new.elaborator c.importize_with.ensures.same c.self.invariant c.importize_with.ensures.valid c.importize_with.result c.args.world
    (importized (option_map string_bytes c.args.out)) c.importize_with.ensures.ok c.importize_with.ensures.unchanged
