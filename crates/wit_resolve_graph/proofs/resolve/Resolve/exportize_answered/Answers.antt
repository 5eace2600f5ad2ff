use Rattle.std.proofs.Common.{option_map, string_bytes}
use Rattle.wit_transform.specs.Transformed.{exportized}
use Rattle.wit_resolve_graph.proofs.KeptRows.{kept_transformed}
use Rattle.wit_resolve_graph.proofs.resolve.Resolve.exportize_answered.Goals as goal

pub returns-clause-cause : goal.returns-clause-cause
returns-clause-cause c = rw (← c.self.view_is) c.exportize_answered_with.ensures.cause

pub returns-clause-refuses : goal.returns-clause-refuses
returns-clause-refuses c = rw (← c.self.view_is) c.exportize_answered_with.ensures.refuses

pub invariant_of-self : goal.invariant_of-self
invariant_of-self c =
    kept_transformed c.self.inside.graph c.exportize_answered_with.new.graph c.self.inside.kept c.exportize_answered_with.new.elaborator c.exportize_answered_with.ensures.same c.self.invariant c.exportize_answered_with.ensures.valid
    c.exportize_answered_with.result c.args.world (exportized c.args.answers.now (option_map string_bytes c.args.out)) c.exportize_answered_with.ensures.ok c.exportize_answered_with.ensures.unchanged
