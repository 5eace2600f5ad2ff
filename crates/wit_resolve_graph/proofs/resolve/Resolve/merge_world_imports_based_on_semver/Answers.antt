use Rattle.wit_resolve_graph.proofs.resolve.Resolve.merge_world_imports_based_on_semver.Goals as goal

pub returns-clause-cause : goal.returns-clause-cause
returns-clause-cause c = rw (← c.self.view_is) c.merge_kept_by_track.ensures.cause

pub returns-clause-refuses : goal.returns-clause-refuses
returns-clause-refuses c = rw (← c.self.view_is) c.merge_kept_by_track.ensures.refuses
