use Rattle.std.proofs.Common.{◌∙◌, ◌-◌, length}
use Rattle.std.proofs.lemmas.Slice.{between_from_start}
use Rattle.wit_labels.proofs.GroupSteps.{groups-boundary, groups-front}
use Rattle.wit_labels.proofs.groups.split_groups.Goals as goal

pub range-requires-clause-end_boundary : goal.range-requires-clause-end_boundary
range-requires-clause-end_boundary c = groups-boundary c.args.label.now c.rest_of-rest.result.now c.rest_of-rest.ensures c.rest_of-rest.utf8

pub returns-clause-groups : goal.returns-clause-groups
returns-clause-groups c =
    c.range.ensures.value ∙ between_from_start c.args.label.now (length c.args.label.now - length c.rest_of-rest.result.now)
    ∙ groups-front c.args.label.now c.rest_of-rest.result.now c.rest_of-rest.ensures
