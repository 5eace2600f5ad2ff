use Rattle.wit_resolve_graph.proofs.SemverExact.{call_exact, command_exact}
use Rattle.wit_resolve_graph.proofs.laws.semver_is_exact.Goals as goal

pub returns-clause-command : goal.returns-clause-command
returns-clause-command c = command_exact c.keys_are_exact.ensures c.semver_merges_keep.ensures c.args.resolve.now c.graph.ensures.valid

pub returns-clause-call : goal.returns-clause-call
returns-clause-call c = call_exact c.keys_are_exact.ensures c.semver_merges_keep.ensures c.args.resolve.now c.graph.ensures.valid
