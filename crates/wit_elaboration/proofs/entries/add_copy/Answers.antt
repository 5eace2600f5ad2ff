use Rattle.wit_elaboration.specs.facts.Keys.{lookup-absent}
use Rattle.wit_elaboration.proofs.entries.add_copy.Goals as goal

pub push-requires : goal.push-requires
push-requires c = rw c.in_ok-try_clone.ensures (lookup-absent c.args.key.now c.args.entries.now c.if-has_key.ensures)
