use Rattle.std.proofs.Common.{◌≡◌, ◌∙◌, sym, subst, ℕ, List, length, inr}
use Rattle.wit_digraph.specs.Relation.{IsAcyclic}
use Rattle.wit_elaboration.specs.steps.Elaborating.{IsFirstConflict}
use Rattle.wit_elaboration.specs.Elaboration.{graph_uses}
use Rattle.wit_elaboration.specs.Imported.{HasTransitiveConflict}
use Rattle.wit_elaboration.proofs.Refusing.{below_from_get, conflict_cause, interfaces_in_range, keys_in_range, listed_over, none_found}
use Rattle.wit_elaboration.proofs.ElaboratedIs.{own_keys}
use Rattle.wit_elaboration.proofs.Roles.{in_order}
use Rattle.wit_elaboration.proofs.elaboration.Elaborator.lists_for.Goals as goal

pub find_refused-requires-clause-interfaces : goal.find_refused-requires-clause-interfaces
find_refused-requires-clause-interfaces c =
    let uses : c.as_slice-uses.result.now ≡ graph_uses c.args.graph.now = c.as_slice-uses.ensures ∙ c.self.view_is ∙ c.requires.uses in
    let acyclic : IsAcyclic c.as_slice-uses.result.now = subst IsAcyclic (sym uses) c.requires.acyclic in
    interfaces_in_range c.args.graph.now c.as_slice-uses.result.now c.args.world.now acyclic (listed_over c.args.graph.now c.as_slice-uses.result.now c.args.world.now uses c.requires.listed)

pub find_refused-requires-clause-keys : goal.find_refused-requires-clause-keys
find_refused-requires-clause-keys c =
    let uses : c.as_slice-uses.result.now ≡ graph_uses c.args.graph.now = c.as_slice-uses.ensures ∙ c.self.view_is ∙ c.requires.uses in
    let acyclic : IsAcyclic c.as_slice-uses.result.now = subst IsAcyclic (sym uses) c.requires.acyclic in
    keys_in_range c.args.graph.now c.as_slice-uses.result.now c.args.world.now acyclic (listed_over c.args.graph.now c.as_slice-uses.result.now c.args.world.now uses c.requires.listed)

pub conflict_error-requires : goal.conflict_error-requires
conflict_error-requires c =
    let found = subst (IsFirstConflict c.as_slice-uses.result.now c.args.world.now.exports) c.in-Some.is c.in_ok-found.ensures.found in
    below_from_get c.args.world.now.exports c.in-Some.index found.0 found.1

pub returns-in_ok-conflict_error-in-Some-clause-cause : goal.returns-in_ok-conflict_error-in-Some-clause-cause
returns-in_ok-conflict_error-in-Some-clause-cause c =
    let uses : c.as_slice-uses.result.now ≡ graph_uses c.args.graph.now = c.as_slice-uses.ensures ∙ c.self.view_is ∙ c.requires.uses in
    let acyclic : IsAcyclic c.as_slice-uses.result.now = subst IsAcyclic (sym uses) c.requires.acyclic in
    let listed = listed_over c.args.graph.now c.as_slice-uses.result.now c.args.world.now uses c.requires.listed in
    let found = subst (IsFirstConflict c.as_slice-uses.result.now c.args.world.now.exports) c.in-Some.is c.in_ok-found.ensures.found in
    inr (conflict_cause c.args.graph.now c.as_slice-uses.result.now c.args.world.now acyclic listed uses c.in-Some.index c.in_ok-conflict_error-in-Some.field-0 found c.in_ok-conflict_error-in-Some.ensures.error)

pub returns-in_ok-lists_of-in-None-clause-no_conflict : goal.returns-in_ok-lists_of-in-None-clause-no_conflict
returns-in_ok-lists_of-in-None-clause-no_conflict c =
    let uses : c.as_slice-uses.result.now ≡ graph_uses c.args.graph.now = c.as_slice-uses.ensures ∙ c.self.view_is ∙ c.requires.uses in
    subst (λ (us : List (List ℕ)). HasTransitiveConflict us c.args.world.now.exports → ⊥) uses
    (none_found c.as_slice-uses.result.now c.args.world.now.exports (subst (IsFirstConflict c.as_slice-uses.result.now c.args.world.now.exports) c.in-None.is c.in_ok-found.ensures.found))

pub find_refused-requires-clause-own : goal.find_refused-requires-clause-own
find_refused-requires-clause-own c =
    let uses : c.as_slice-uses.result.now ≡ graph_uses c.args.graph.now = c.as_slice-uses.ensures ∙ c.self.view_is ∙ c.requires.uses in
    let acyclic : IsAcyclic c.as_slice-uses.result.now = subst IsAcyclic (sym uses) c.requires.acyclic in
    own_keys c.args.graph.now.types c.as_slice-uses.result.now acyclic c.args.world.now.imports c.args.world.now.exports
    (in_order c.args.graph.now.types (length c.as_slice-uses.result.now) c.args.world.now.imports c.args.world.now.exports (listed_over c.args.graph.now c.as_slice-uses.result.now c.args.world.now uses c.requires.listed))
