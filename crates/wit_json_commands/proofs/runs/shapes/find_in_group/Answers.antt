use Rattle.std.proofs.Common.{subst}
use Rattle.wit_json_commands.specs.steps.Searching.{TellsNested}
use Rattle.wit_json_commands.proofs.FirstUnshaped.{group_shaped, group_told, has_shape, main_told}
use Rattle.wit_json_commands.proofs.runs.shapes.find_in_group.Goals as goal

pub returns-in-Some : goal.returns-in-Some
returns-in-Some c = main_told c.args.group.now c.in-Some.fault c.in_ok-fault.ensures.none c.in_ok-fault.ensures.some c.in-Some.is

pub returns-in-Some-2 : goal.returns-in-Some-2
returns-in-Some-2 c =
    group_told c.args.group.now _ c.in-Some-2.index c.in-Some-2.fault (has_shape c.args.group.now.main c.in_ok-fault.ensures.none c.in_default.is)
    (subst (λ packages. TellsNested packages c.in_ok-index.field-0) c.as_slice.ensures c.in_ok-index.ensures) c.in-Some-2.is

pub returns-in-None : goal.returns-in-None
returns-in-None c =
    group_shaped c.args.group.now _ (has_shape c.args.group.now.main c.in_ok-fault.ensures.none c.in_default.is)
    (subst (λ packages. TellsNested packages c.in_ok-index.field-0) c.as_slice.ensures c.in_ok-index.ensures) c.in-None.is
