use Rattle.std.proofs.Common.{◌≡◌, ◌∙◌, ℕ, List, [], IfOk, Result, Ok, Err, length, sym, subst, ap}
use Rattle.std.specs.List.{flat_map}
use Rattle.wit_data.specs.declared.types.TypeDef.{TypeDef}
use Rattle.wit_digraph.specs.Relation.{IsAcyclic}
use Rattle.wit_elaboration.specs.Elaboration.{elaborated_world, graph_uses}
use Rattle.wit_elaboration.specs.Elaborated.{elaborated_imports, import_with_needs}
use Rattle.wit_elaboration.specs.Entries.{Entry, by_class, fresh_entries}
use Rattle.wit_elaboration.specs.Sound.{AreSound}
use Rattle.wit_elaboration.proofs.AllWorlds.{kept_lists}
use Rattle.wit_elaboration.proofs.CompleteWorlds.{exports_stay, imports_stay, no_conflict}
use Rattle.wit_elaboration.proofs.Refusing.{listed_over}
use Rattle.wit_elaboration.proofs.elaboration.Elaborator.is_complete.Goals as goal

-- what two clauses say of a value
both : {T E : Type 0} (P Q R : T → Type 0) (r : Result T E) → ((x : T) → P x → Q x → R x) → IfOk r P → IfOk r Q → IfOk r R
both P Q R (Ok x) f p q = f x p q
both P Q R (Err e) f p q = tt

pub are_complete-requires-clause-acyclic : goal.are_complete-requires-clause-acyclic
are_complete-requires-clause-acyclic c = subst IsAcyclic (sym (c.as_slice-uses.ensures ∙ c.self.view_is ∙ c.requires.uses)) c.requires.acyclic

pub are_complete-requires-clause-listed : goal.are_complete-requires-clause-listed
are_complete-requires-clause-listed c =
    let uses : c.as_slice-uses.result.now ≡ graph_uses c.args.graph.now = c.as_slice-uses.ensures ∙ c.self.view_is ∙ c.requires.uses in
    subst (λ (types : List TypeDef). AreSound types (length c.as_slice-uses.result.now) c.args.world.now.imports) (sym c.as_slice-types.ensures)
    (listed_over c.args.graph.now c.as_slice-uses.result.now c.args.world.now uses c.requires.listed).of_imports

pub returns-clause-no_conflict : goal.returns-clause-no_conflict
returns-clause-no_conflict c =
    let none = c.exports_no_interface.ensures.0 c.if-not-exports_no_interface.false in
    both _ _ _ c.are_complete.result (λ complete p q yes. no_conflict (graph_uses c.args.graph.now) c.args.world.now.exports none) c.are_complete.ensures.sorted c.are_complete.ensures.complete

pub returns-clause-own : goal.returns-clause-own
returns-clause-own c =
    let g = c.args.graph.now in
    let world = c.args.world.now in
    let imports : List Entry = world.imports in
    let uses : c.as_slice-uses.result.now ≡ graph_uses g = c.as_slice-uses.ensures ∙ c.self.view_is ∙ c.requires.uses in
    let types : c.as_slice-types.result.now ≡ g.types = c.as_slice-types.ensures in
    let none = c.exports_no_interface.ensures.0 c.if-not-exports_no_interface.false in
    both _ _ _ c.are_complete.result
    (λ complete sorted whole yes.
    let in_order = subst (λ (ts : List TypeDef). by_class ts imports ≡ imports) types (sorted yes) in
    let walked = subst (λ (us : List (List ℕ)). fresh_entries [] (flat_map (import_with_needs g.types us) (by_class g.types imports)) ≡ imports) uses
    (subst (λ (ts : List TypeDef). fresh_entries [] (flat_map (import_with_needs ts c.as_slice-uses.result.now) (by_class ts imports)) ≡ imports) types (whole yes)) in
    sym (kept_lists g world (imports_stay (graph_uses g) world.exports none g.types imports in_order walked) (exports_stay (graph_uses g) world.exports none)))
    c.are_complete.ensures.sorted c.are_complete.ensures.complete
