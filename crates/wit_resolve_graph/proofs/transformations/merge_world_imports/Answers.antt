use Rattle.std.proofs.Common.{refl, sym}
use Rattle.wit_resolve_graph.proofs.transformations.merge_world_imports.Goals as goal

pub returns-in-Ok : goal.returns-in-Ok
returns-in-Ok c = record { w = c.in-Some.id; there = sym (rw c.as_str.ensures at c.in-Some.ensures.id); accepted = c.in-Ok.ensures.refuses; is_changed = c.in-Ok.ensures.ok }

pub returns : goal.returns
returns c = (sym (rw c.as_str.ensures at c.in-None.ensures.id), refl)
