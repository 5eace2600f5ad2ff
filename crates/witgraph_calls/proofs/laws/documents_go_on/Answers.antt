use Rattle.std.proofs.Common.{subst, Option}
use Rattle.wit_json_graphs.specs.declared.resolves.ResolveParts.{ResolveParts}
use Rattle.wit_json_commands.specs.Runs.{RespondsEach}
use Rattle.witgraph_calls.specs.Graphs.{start_for}
use Rattle.witgraph_calls.proofs.laws.documents_go_on.Goals as goal

pub returns : goal.returns
returns c old mid new input other text more first second none =
    c.runs_go_on.ensures (start_for old first.document.resolve) mid new first.document.commands second.document.commands first.replied.replies second.replied.replies first.replied.responds
    (subst (λ (parts : Option ResolveParts). RespondsEach (start_for mid parts) second.document.commands second.replied.replies new) none second.replied.responds)
