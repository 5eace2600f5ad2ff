use Rattle.std.proofs.Common.{◌∙◌, sym, ap, subst}
use Rattle.wit_elaboration.specs.Valid.{IsValid}
use Rattle.wit_graph_data.specs.declared.graph.Graph.{Graph}
use Rattle.wit_semver.specs.declared.merging.SemverChange.{SemverChange}
use Rattle.wit_semver.specs.steps.Merging.{graph_after}
use Rattle.wit_resolve_graph.specs.State.{AreKept}
use Rattle.wit_resolve_graph.proofs.KeptRows.{kept_imports}
use Rattle.wit_resolve_graph.proofs.merged_imports.merge_kept_by_track.Goals as goal

pub of-requires : goal.of-requires
of-requires c = subst (λ (m : SemverChange). IsValid (graph_after c.args.graph.now c.args.world m)) c.in-Graph.is c.in_ok-merge.ensures.valid

pub returns-in-Imports-clause-graph : goal.returns-in-Imports-clause-graph
returns-in-Imports-clause-graph c = c.place_imports.ensures ∙ sym (ap (graph_after c.args.graph.now c.args.world) c.in-Imports.is) ∙ c.in_ok-merge.ensures.ok

pub returns-in-Imports-clause-kept : goal.returns-in-Imports-clause-kept
returns-in-Imports-clause-kept c =
    subst (λ (g : Graph). AreKept g c.args.kept.now) (sym c.place_imports.ensures)
    (kept_imports c.args.graph.now c.args.world c.in-Imports.imports c.args.kept.now c.requires.kept
    (subst (λ (m : SemverChange). IsValid (graph_after c.args.graph.now c.args.world m)) c.in-Imports.is c.in_ok-merge.ensures.valid))

pub returns-in_ok-kept-in-Graph-clause-graph : goal.returns-in_ok-kept-in-Graph-clause-graph
returns-in_ok-kept-in-Graph-clause-graph c = sym (ap (graph_after c.args.graph.now c.args.world) c.in-Graph.is) ∙ c.in_ok-merge.ensures.ok
