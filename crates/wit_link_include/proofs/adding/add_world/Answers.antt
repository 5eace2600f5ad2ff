use Rattle.std.proofs.Common.{rules, ◌≡◌, ◌∙◌, ◌⊎◌, List, ap, length, sym, subst, take}
use Rattle.wit_data.specs.Uses.{uses_of}
use Rattle.wit_data.specs.declared.interface.Interface.{Interface}
use Rattle.wit_data.specs.declared.types.TypeDef.{TypeDef}
use Rattle.wit_graph_data.specs.facts.ResultFacts.{residual_error}
use Rattle.wit_graph_data.specs.declared.error_kind.ResolveErrorKind.{ResolveErrorKind}
use Rattle.wit_graph_data.specs.declared.error_kind.ResolveErrorKind.TheVariants.{OutOfMemory}
use Rattle.wit_remap.specs.Grown.{Grown}
use Rattle.wit_remap.specs.facts.GrownFacts.{Begins-same, Grown-then}
use Rattle.wit_link_spec.specs.WorldReasons.{IsWorldCause}
use Rattle.wit_link_include.specs.facts.RowsFacts.{rows_on_its_way}
use Rattle.wit_link_include.proofs.Several.{begun_acyclic, begun_listed, finished_grown, finishing_stops, include_stops, world_added, world_fine}
use Rattle.wit_link_include.proofs.adding.add_world.Goals as goal

pub returns-in_err-world-clause-cause : goal.returns-in_err-world-clause-cause
returns-in_err-world-clause-cause c =
    residual_error c.from_residual.result c.from_residual.ensures.1
    (λ e is.
    let same : e ≡ c.in_err-world.field-0.0 = is in
    subst (λ (x : ResolveErrorKind). (x ≡ OutOfMemory) ⊎ IsWorldCause c.args.home c.args.graph.now c.args.world c.args.includes.now x) (sym same)
    (include_stops c.args.home c.args.graph.now c.args.world c.args.includes.now c.in_err-world.field-0.0 c.in_err-world.ensures.cause))

pub grow-requires : goal.grow-requires
grow-requires c =
    let types : c.as_slice-types.result.now ≡ c.include_each.new.graph.types = search rules in
    let interfaces : c.as_slice.result.now ≡ c.include_each.new.graph.interfaces = search rules in
    rows_on_its_way c.args.elaborator.now c.args.graph.now c.include_each.new.graph c.requires.can.graph c.include_each.ensures.grown c.requires.uses
    ∙ ap (λ (l : List TypeDef). uses_of l (take (length c.args.elaborator.now) c.include_each.new.graph.interfaces)) (sym types)
    ∙ ap (λ (l : List Interface). uses_of c.as_slice-types.result.now (take (length c.args.elaborator.now) l)) (sym interfaces)

pub finish_world-requires-clause-acyclic : goal.finish_world-requires-clause-acyclic
finish_world-requires-clause-acyclic c =
    begun_acyclic c.args.home c.args.graph.now c.args.world c.args.includes.now c.include_each.new.graph c.requires.can c.in_ok-world.ensures.graph c.in_ok-world.ensures.fine

pub finish_world-requires-clause-listed : goal.finish_world-requires-clause-listed
finish_world-requires-clause-listed c =
    begun_listed c.args.home c.args.graph.now c.args.world c.args.includes.now c.include_each.new.graph c.in_ok-world.world c.requires.can c.in_ok-world.ensures.graph c.in_ok-world.ensures.world c.in_ok-world.ensures.fine

pub returns-in_err-finish_world-clause-cause : goal.returns-in_err-finish_world-clause-cause
returns-in_err-finish_world-clause-cause c =
    residual_error c.from_residual-in_err-finish_world.result c.from_residual-in_err-finish_world.ensures.1
    (λ e is.
    let same : e ≡ c.in_err-finish_world.field-0.0 = is in
    subst (λ (x : ResolveErrorKind). (x ≡ OutOfMemory) ⊎ IsWorldCause c.args.home c.args.graph.now c.args.world c.args.includes.now x) (sym same)
    (finishing_stops c.args.home c.args.graph.now c.args.world c.args.includes.now c.include_each.new.graph c.in_ok-world.world c.in_err-finish_world.field-0.0 c.in_ok-world.ensures.graph c.in_ok-world.ensures.world c.in_ok-world.ensures.fine
    c.in_err-finish_world.ensures.cause))

pub returns-in_err-finish_world-clause-grown : goal.returns-in_err-finish_world-clause-grown
returns-in_err-finish_world-clause-grown c = subst (Grown c.args.graph.now) (sym c.in_err-finish_world.ensures.unchanged) c.include_each.ensures.grown

pub returns-clause-ok : goal.returns-clause-ok
returns-clause-ok c =
    world_added c.args.home c.args.graph.now c.args.world c.args.includes.now c.include_each.new.graph c.finish_world.new.graph c.in_ok-world.world c.in_ok-world.ensures.graph c.in_ok-world.ensures.world c.in_ok-finish_world.ensures.ok

pub returns-clause-fine : goal.returns-clause-fine
returns-clause-fine c =
    world_fine c.args.home c.args.graph.now c.args.world c.args.includes.now c.include_each.new.graph c.in_ok-world.world c.in_ok-world.ensures.graph c.in_ok-world.ensures.world c.in_ok-world.ensures.fine c.in_ok-finish_world.ensures.fine

pub returns-clause-grown : goal.returns-clause-grown
returns-clause-grown c =
    Grown-then c.args.graph.now c.include_each.new.graph c.finish_world.new.graph c.include_each.ensures.grown
    (subst (Grown c.include_each.new.graph) (sym c.in_ok-finish_world.ensures.ok) (finished_grown c.include_each.new.graph c.in_ok-world.world))

pub returns-in_err-world-clause-rows : goal.returns-in_err-world-clause-rows
returns-in_err-world-clause-rows c = Begins-same c.args.elaborator.now
