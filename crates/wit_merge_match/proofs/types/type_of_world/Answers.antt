use Rattle.std.proofs.Common.{None, Some, ◌∙◌}
use Rattle.wit_merge_match.proofs.TypesFound.{type_at}
use Rattle.wit_merge_match.proofs.types.type_of_world.Goals as goal

pub returns-in-Some-get-2 : goal.returns-in-Some-get-2
returns-in-Some-get-2 c =
    c.item_type.ensures
    ∙ type_at c.args.graph.now c.requires c.args.name.now c.args.id c.in-Some.id c.index.result c.in-Some-get.world.now c.in_ok-try_clone.field-0 (Some c.in-Some-get-2.item.now) c.in-Some.is c.index.ensures c.in-Some-get.ensures c.in_ok-try_clone.ensures c.in-Some-get-2.ensures

pub returns : goal.returns
returns c =
    type_at c.args.graph.now c.requires c.args.name.now c.args.id c.in-Some.id c.index.result c.in-Some-get.world.now c.in_ok-try_clone.field-0 None c.in-Some.is c.index.ensures c.in-Some-get.ensures c.in_ok-try_clone.ensures c.in-None.ensures
