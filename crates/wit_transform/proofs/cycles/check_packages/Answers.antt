use Rattle.std.proofs.Common.{◌≡◌, None, rules}
use Rattle.wit_digraph.specs.Cycles.{IsOnCycle}
use Rattle.wit_graph_data.specs.declared.error_kind.ResolveErrorKind.TheVariants.{PackageCycle}
use Rattle.wit_transform.proofs.OnCycles.{package_there, package_told}
use Rattle.wit_transform.proofs.cycles.check_packages.Goals as goal
use Rattle.wit_elaboration.specs.steps.Parts.{graph_package_uses}

pub at-requires : goal.at-requires
at-requires c =
    let on : IsOnCycle (graph_package_uses c.args.graph.now) c.in-Some.found.user c.in-Some.found.used = search rules in
    package_there c.args.graph.now c.in-Some.found.user c.in-Some.found.used on

pub returns-in-Some-clause-cause : goal.returns-in-Some-clause-cause
returns-in-Some-clause-cause c =
    let on : IsOnCycle (graph_package_uses c.args.graph.now) c.in-Some.found.user c.in-Some.found.used = search rules in
    let told : c.into.result ≡ PackageCycle None c.at.result.now.name = search rules in
    package_told c.args.graph.now c.in-Some.found.user c.in-Some.found.used c.at.result.now c.into.result on c.at.ensures told
