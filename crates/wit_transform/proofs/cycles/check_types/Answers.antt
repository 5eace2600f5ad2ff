use Rattle.std.proofs.Common.{rules}
use Rattle.wit_data.specs.Kind.{type_references}
use Rattle.wit_transform.specs.steps.Reasons.{IsRound, IsTypeCycleError}
use Rattle.wit_transform.proofs.OnCycles.{round_named, round_there, type_told}
use Rattle.wit_transform.proofs.cycles.check_types.Goals as goal

pub type_cycle-requires-clause-in_range : goal.type_cycle-requires-clause-in_range
type_cycle-requires-clause-in_range c =
    let round : IsRound (type_references c.args.graph.now.types) c.in_ok-ids-in-Some.ids = search rules in
    let there = round_there c.args.graph.now.types c.in_ok-ids-in-Some.ids c.requires.in_range round in
    search (rules, there)

pub type_cycle-requires-clause-named : goal.type_cycle-requires-clause-named
type_cycle-requires-clause-named c =
    let round : IsRound (type_references c.args.graph.now.types) c.in_ok-ids-in-Some.ids = search rules in
    let named = round_named c.args.graph.now.types c.in_ok-ids-in-Some.ids c.requires.named round in
    search (rules, named)

pub returns-in-Some-clause-cause : goal.returns-in-Some-clause-cause
returns-in-Some-clause-cause c =
    let round : IsRound (type_references c.args.graph.now.types) c.in_ok-ids-in-Some.ids = search rules in
    let told : IsTypeCycleError c.args.graph.now.types c.in_ok-ids-in-Some.ids c.in_ok-type_cycle-in-Some.field-0 = search rules in
    type_told c.args.graph.now c.in_ok-ids-in-Some.ids c.in_ok-type_cycle-in-Some.field-0 round told
