use Rattle.std.proofs.Common.{◌≡◌, inr, rules}
use Rattle.wit_link.proofs.Refusals.{cycle-cause, cycle-named}
use Rattle.wit_link.proofs.refusal.on_package_cycle.Goals as goal

pub dependency_span-span-requires-clause-spans : goal.dependency_span-span-requires-clause-spans
dependency_span-span-requires-clause-spans c = c.requires.spans c.args.found.user c.at-2.result.now c.at-2.ensures

pub dependency_span-span-requires-clause-depends : goal.dependency_span-span-requires-clause-depends
dependency_span-span-requires-clause-depends c = cycle-named c.args.unresolved.now c.args.found.user c.args.found.used c.at-2.result.now c.at.result.now c.requires.cycle c.at-2.ensures c.at.ensures

pub returns-in-Ok : goal.returns-in-Ok
returns-in-Ok c =
    let same : c.from.result ≡ c.in-Ok.kind = search rules in
    rw same
    (inr (cycle-cause c.args.unresolved.now c.args.found.user c.args.found.used c.at-2.result.now c.at.result.now c.dependency_span-span.result c.in-Ok.kind c.requires.cycle c.at-2.ensures c.at.ensures
    c.dependency_span-span.ensures c.in-Ok.ensures))
