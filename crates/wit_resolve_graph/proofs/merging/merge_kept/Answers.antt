use Rattle.wit_resolve_graph.proofs.merging.merge_kept.Goals as goal

pub append_merge_kept-requires-clause-leaves : goal.append_merge_kept-requires-clause-leaves
append_merge_kept-requires-clause-leaves c = c.leaves_graph.ensures c.if-leaves_graph.true c.args.offset
