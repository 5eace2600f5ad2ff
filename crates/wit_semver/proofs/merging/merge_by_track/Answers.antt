use Rattle.std.proofs.Common.{◌∙◌, sym, ap, subst}
use Rattle.wit_elaboration.specs.Valid.{IsValid}
use Rattle.wit_semver.specs.declared.merging.SemverChange.{SemverChange}
use Rattle.wit_semver.specs.steps.Merging.{graph_after}
use Rattle.wit_semver.proofs.merging.merge_by_track.Goals as goal

pub returns-in-Imports-clause-ok : goal.returns-in-Imports-clause-ok
returns-in-Imports-clause-ok c = c.place_imports.ensures ∙ sym (ap (graph_after c.args.graph.now c.args.world) c.in-Imports.is) ∙ c.in_ok-merge.ensures.ok

pub returns-in-Imports-clause-valid : goal.returns-in-Imports-clause-valid
returns-in-Imports-clause-valid c =
    subst IsValid (sym c.place_imports.ensures) (subst (λ (m : SemverChange). IsValid (graph_after c.args.graph.now c.args.world m)) c.in-Imports.is c.in_ok-merge.ensures.valid)

pub returns-in-Graph-clause-ok : goal.returns-in-Graph-clause-ok
returns-in-Graph-clause-ok c = sym (ap (graph_after c.args.graph.now c.args.world) c.in-Graph.is) ∙ c.in_ok-merge.ensures.ok

pub returns-in-Graph-clause-valid : goal.returns-in-Graph-clause-valid
returns-in-Graph-clause-valid c = subst (λ (m : SemverChange). IsValid (graph_after c.args.graph.now c.args.world m)) c.in-Graph.is c.in_ok-merge.ensures.valid
