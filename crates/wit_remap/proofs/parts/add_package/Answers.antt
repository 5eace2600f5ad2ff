use Rattle.wit_remap.specs.facts.GrownFacts.{Begins-as, Begins-by, Begins-same, Grown-same, packages_grow}
use Rattle.wit_remap.proofs.parts.add_package.Goals as goal

pub returns-in_err-try_clone-clause-grown : goal.returns-in_err-try_clone-clause-grown
returns-in_err-try_clone-clause-grown c = Grown-same c.args.graph.now

pub returns-in_err-push-clause-grown : goal.returns-in_err-push-clause-grown
returns-in_err-push-clause-grown c =
    let g = c.args.graph.now in
    packages_grow g g.packages c.push.new.self (Begins-same g.packages) (Begins-as g.package_names c.push.new.self c.in_err-push.ensures.unchanged)

pub returns-in_err-push-2-clause-grown : goal.returns-in_err-push-2-clause-grown
returns-in_err-push-2-clause-grown c =
    let g = c.args.graph.now in
    packages_grow g c.push-2.new.self c.push.new.self (Begins-as g.packages c.push-2.new.self c.in_err-push-2.ensures.unchanged) (Begins-by g.package_names c.push.new.self _ c.in_ok-push.ensures.ok)

pub returns-clause-grown : goal.returns-clause-grown
returns-clause-grown c =
    let g = c.args.graph.now in
    packages_grow g c.push-2.new.self c.push.new.self (Begins-by g.packages c.push-2.new.self _ c.in_ok-push-2.ensures.ok) (Begins-by g.package_names c.push.new.self _ c.in_ok-push.ensures.ok)
