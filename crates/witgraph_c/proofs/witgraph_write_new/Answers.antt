use Rattle.witgraph_c.proofs.Stays.{stays}
use Rattle.witgraph_c.proofs.witgraph_write_new.Goals as goal

pub returns-in-Some-clause-kept : goal.returns-in-Some-clause-kept
returns-in-Some-clause-kept c _ = stays _ _ _ _ _ c.in-Some.ensures.taken c.deref_mut.ensures.value c.put.ensures (c.write_new-status.ensures.kept, c.write_new-status.ensures.needed)

pub returns-in-Some-clause-written : goal.returns-in-Some-clause-written
returns-in-Some-clause-written c is = stays _ _ _ _ _ c.in-Some.ensures.taken c.deref_mut.ensures.value c.put.ensures (c.write_new-status.ensures.written is, c.write_new-status.ensures.all is)

pub returns-in-Some-clause-memory : goal.returns-in-Some-clause-memory
returns-in-Some-clause-memory c is = stays _ _ _ _ _ c.in-Some.ensures.taken c.deref_mut.ensures.value c.put.ensures (c.write_new-status.ensures.told is, c.write_new-status.ensures.none is)
