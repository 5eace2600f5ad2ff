use Rattle.std.proofs.Common.{◌≡◌, ◌⊎◌, ℕ, length, ap, arith, sym, subst}
use Rattle.wit_graph_data.specs.facts.ResultFacts.{residual_error}
use Rattle.wit_graph_data.specs.declared.error_kind.ResolveErrorKind.{ResolveErrorKind}
use Rattle.wit_graph_data.specs.declared.error_kind.ResolveErrorKind.TheVariants.{OutOfMemory}
use Rattle.wit_remap.specs.facts.GrownFacts.{Grown-then}
use Rattle.wit_link_include.specs.steps.Included.{StopsAtInclude}
use Rattle.wit_link_include.proofs.Several.{all_fine, all_graph, all_world, beginning-next, beginning-none, include_can, include_own, include_there, stops_here}
use Rattle.wit_link_include.proofs.Steps.{lent_at}
use Rattle.wit_link_include.proofs.adding.include_each.Goals as goal

pub loop-included-init : goal.loop-included-init
loop-included-init c = beginning-none c.args.home c.args.graph.now c.args.world c.args.includes.now c.requires.own_keys

pub include-requires-clause-there : goal.include-requires-clause-there
include-requires-clause-there c =
    include_there c.args.home c.args.graph.now c.args.world c.args.includes.now c.loop-included.included-index c.loop-included.graph c.loop-included.world c.loop-included.invariant c.requires c.included-item.result (lent_at c.args.includes.now c.as_slice-included-items.result.now c.loop-included.included-index c.as_slice-included-items.ensures c.loop-included-test.true c.included-item.result c.included-item.is)

pub include-requires-clause-can : goal.include-requires-clause-can
include-requires-clause-can c =
    include_can c.args.home c.args.graph.now c.args.world c.args.includes.now c.loop-included.included-index c.loop-included.graph c.loop-included.world c.loop-included.invariant c.requires c.included-item.result (lent_at c.args.includes.now c.as_slice-included-items.result.now c.loop-included.included-index c.as_slice-included-items.ensures c.loop-included-test.true c.included-item.result c.included-item.is)

pub include-requires-clause-own_keys : goal.include-requires-clause-own_keys
include-requires-clause-own_keys c =
    include_own c.args.home c.args.graph.now c.args.world c.args.includes.now c.loop-included.included-index c.loop-included.graph c.loop-included.world c.loop-included.invariant c.requires c.included-item.result (lent_at c.args.includes.now c.as_slice-included-items.result.now c.loop-included.included-index c.as_slice-included-items.ensures c.loop-included-test.true c.included-item.result c.included-item.is)

pub loop-included-preserved : goal.loop-included-preserved
loop-included-preserved c =
    beginning-next c.args.home c.args.graph.now c.args.world c.args.includes.now c.loop-included.included-index c.loop-included.graph c.loop-included.world c.loop-included.invariant c.requires c.included-item.result (lent_at c.args.includes.now c.as_slice-included-items.result.now c.loop-included.included-index c.as_slice-included-items.ensures c.loop-included-test.true c.included-item.result c.included-item.is)
    c.include.new.graph c.in_ok-world.world c.in_ok-world.ensures.graph c.in_ok-world.ensures.world c.in_ok-world.ensures.fine c.include.ensures.grown

pub returns-in_err-world-clause-cause : goal.returns-in_err-world-clause-cause
returns-in_err-world-clause-cause c =
    residual_error c.from_residual.result c.from_residual.ensures.1
    (λ e is.
    let same : e ≡ c.in_err-world.field-0.0 = is in
    subst (λ (x : ResolveErrorKind). (x ≡ OutOfMemory) ⊎ ((j : ℕ) × StopsAtInclude c.args.home c.args.graph.now c.args.world c.args.includes.now j x)) (sym same)
    (stops_here c.args.home c.args.graph.now c.args.world c.args.includes.now c.loop-included.included-index c.loop-included.graph c.loop-included.world c.loop-included.invariant c.requires c.included-item.result (lent_at c.args.includes.now c.as_slice-included-items.result.now c.loop-included.included-index c.as_slice-included-items.ensures c.loop-included-test.true c.included-item.result c.included-item.is) c.in_err-world.field-0.0 c.in_err-world.ensures.cause))

pub returns-in_err-world-clause-grown : goal.returns-in_err-world-clause-grown
returns-in_err-world-clause-grown c = Grown-then c.args.graph.now c.loop-included.graph c.include.new.graph c.loop-included.invariant.grown c.include.ensures.grown

pub returns-clause-graph : goal.returns-clause-graph
returns-clause-graph c = all_graph c.args.home c.args.graph.now c.args.world c.args.includes.now c.loop-included.included-index c.loop-included.graph c.loop-included.world c.loop-included.invariant (let past = c.loop-included-test.false in let long = ap length c.as_slice-included-items.ensures in omega arith)

pub returns-clause-world : goal.returns-clause-world
returns-clause-world c = all_world c.args.home c.args.graph.now c.args.world c.args.includes.now c.loop-included.included-index c.loop-included.graph c.loop-included.world c.loop-included.invariant (let past = c.loop-included-test.false in let long = ap length c.as_slice-included-items.ensures in omega arith)

pub returns-clause-fine : goal.returns-clause-fine
returns-clause-fine c = all_fine c.args.home c.args.graph.now c.args.world c.args.includes.now c.loop-included.included-index c.loop-included.graph c.loop-included.world c.loop-included.invariant (let past = c.loop-included-test.false in let long = ap length c.as_slice-included-items.ensures in omega arith)
