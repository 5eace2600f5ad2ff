use Rattle.wit_data.proofs.kind.plain_step.Goals as goal

pub returns-in-Tuple : goal.returns-in-Tuple
returns-in-Tuple c = absurd (c.requires c.in-Tuple.is)
