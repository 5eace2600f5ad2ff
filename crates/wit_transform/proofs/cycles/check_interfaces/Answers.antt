use Rattle.std.proofs.Common.{rules}
use Rattle.wit_digraph.specs.Cycles.{IsOnCycle}
use Rattle.wit_elaboration.specs.Elaboration.{graph_uses}
use Rattle.wit_transform.specs.steps.Reasons.{IsInterfaceCycleError}
use Rattle.wit_transform.proofs.OnCycles.{interface_told, user_used}
use Rattle.wit_transform.proofs.cycles.check_interfaces.Goals as goal

pub interface_cycle-requires : goal.interface_cycle-requires
interface_cycle-requires c =
    let on : IsOnCycle (graph_uses c.args.graph.now) c.in-Some.found.user c.in-Some.found.used = search rules in
    let used = user_used (graph_uses c.args.graph.now) c.in-Some.found.user c.in-Some.found.used on in
    c.requires.named used.0 c.in-Some.found.user used.1

pub returns-in-Some-clause-cause : goal.returns-in-Some-clause-cause
returns-in-Some-clause-cause c =
    let on : IsOnCycle (graph_uses c.args.graph.now) c.in-Some.found.user c.in-Some.found.used = search rules in
    let told : IsInterfaceCycleError c.args.graph.now c.in-Some.found.user c.in_ok-interface_cycle-in-Some.field-0 = search rules in
    interface_told c.args.graph.now c.in-Some.found.user c.in-Some.found.used c.in_ok-interface_cycle-in-Some.field-0 on told
