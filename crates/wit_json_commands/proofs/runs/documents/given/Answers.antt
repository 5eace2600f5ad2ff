use Rattle.std.proofs.Common.{Result, subst}
use Rattle.std.specs.Prelude.{IfErr}
use Rattle.wit_graph_faults.specs.Faults.{IsGraphFault}
use Rattle.wit_graph_faults.specs.declared.fault.GraphFault.{GraphFault}
use Rattle.wit_resolve_graph.specs.State.{State}
use Rattle.wit_json_commands.proofs.Outcomes.{begins_invalid}
use Rattle.wit_json_commands.proofs.runs.documents.given.Goals as goal

pub returns-in-Ok-Err : goal.returns-in-Ok-Err
returns-in-Ok-Err c =
    begins_invalid c.args.parts c.in-Ok-Err.fault c.no_valid_graph.result
    (subst (λ (made : Result State GraphFault). IfErr made (IsGraphFault c.args.parts.graph)) c.in-Ok-Err.field-0-is c.in-Ok-Err.ensures.fault) c.no_valid_graph.ensures
