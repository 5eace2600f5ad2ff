use Rattle.wit_resolve_graph.proofs.resolve.Resolve.push.Goals as goal

pub returns-clause-cause : goal.returns-clause-cause
returns-clause-cause c = rw (← c.self.view_is) c.append_kept.ensures.cause

pub returns-clause-refuses : goal.returns-clause-refuses
returns-clause-refuses c = rw (← c.self.view_is) c.append_kept.ensures.refuses
