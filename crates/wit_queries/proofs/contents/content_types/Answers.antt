use Rattle.std.proofs.Common.{refl, rules}
use Rattle.wit_data.specs.facts.ReferenceFacts.{all_referred, none_referred}
use Rattle.wit_data.specs.declared.kind.PartRole.TheVariants.{Argument}
use Rattle.wit_graph_data.specs.facts.ContentFacts.{held_role}
use Rattle.wit_graph_data.specs.Queries.{is_held}
use Rattle.wit_queries.proofs.contents.content_types.Goals as goal

pub returns-in-Argument : goal.returns-in-Argument
returns-in-Argument c = rw (none_referred is_held c.args.kind.now Argument c.in-Argument.ensures refl) (search rules)

pub returns-in_ok-referred-in_default : goal.returns-in_ok-referred-in_default
returns-in_ok-referred-in_default c = rw (all_referred is_held c.args.kind.now c.part_role.result c.part_role.ensures (held_role c.part_role.result c.in_default.not-Argument)) (search rules)
