use Rattle.wit_data.specs.declared.world.WorldKey.TheVariants.{Interface}
use Rattle.wit_elaboration.specs.facts.Keys.{lookup-absent}
use Rattle.wit_elaboration.proofs.entries.add_dependency.Goals as goal

pub push-requires : goal.push-requires
push-requires c = lookup-absent (Interface c.from_index-id.result) c.args.entries.now c.if-has_key.ensures
