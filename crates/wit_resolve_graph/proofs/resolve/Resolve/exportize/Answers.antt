use Rattle.std.proofs.Common.{option_map, string_bytes, subst, sym}
use Rattle.wit_transform.specs.Transformed.{exportized}
use Rattle.wit_graph_data.specs.declared.graph.Graph.{Graph}
use Rattle.wit_resolve_graph.proofs.KeptRows.{LeavesTypes, kept_after, transformed_leaves}
use Rattle.wit_resolve_graph.proofs.resolve.Resolve.exportize.Goals as goal

pub returns-clause-ok : goal.returns-clause-ok
returns-clause-ok g c = rw (← c.self.view_is) c.exportize_with.ensures.ok

pub returns-clause-cause : goal.returns-clause-cause
returns-clause-cause g c = rw (← c.self.view_is) c.exportize_with.ensures.cause

pub returns-clause-refuses : goal.returns-clause-refuses
returns-clause-refuses g c = rw (← c.self.view_is) c.exportize_with.ensures.refuses

pub invariant_of-self : goal.invariant_of-self
invariant_of-self g c =
    kept_after c.self.inside.graph c.exportize_with.new.graph c.self.inside.kept c.exportize_with.new.elaborator c.exportize_with.ensures.same c.self.invariant c.exportize_with.ensures.valid c.exportize_with.result c.exportize_with.ensures.ok
    (λ is. subst (λ (h : Graph). LeavesTypes c.self.inside.graph h) (sym is.is_transformed) (transformed_leaves c.self.inside.graph c.args.world (exportized is.answers (option_map string_bytes c.args.out)))) c.exportize_with.ensures.unchanged
