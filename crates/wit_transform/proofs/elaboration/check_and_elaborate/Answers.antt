use Rattle.wit_transform.proofs.ElaborationSteps.{HasNoCycle, reason_refuses, refusal_told}
use Rattle.wit_transform.proofs.elaboration.check_and_elaborate.Goals as goal

pub returns-clause-cause : goal.returns-clause-cause
returns-clause-cause c =
    let none : HasNoCycle c.args.graph.now = record { types = c.in_ok-check_types.ensures.ok; interfaces = c.in_ok-check_interfaces.ensures.ok; packages = c.in_ok-check_packages.ensures.ok } in
    refusal_told c.args.graph.now none c.elaborate_all.result c.elaborate_all.ensures.cause

pub returns-clause-refuses : goal.returns-clause-refuses
returns-clause-refuses c =
    let none : HasNoCycle c.args.graph.now = record { types = c.in_ok-check_types.ensures.ok; interfaces = c.in_ok-check_interfaces.ensures.ok; packages = c.in_ok-check_packages.ensures.ok } in
    reason_refuses c.args.graph.now none c.elaborate_all.result c.elaborate_all.ensures.no_conflict
