use Rattle.std.proofs.Common.{◌≡◌, ◌∙◌, ℕ, List, Some, slice_get, sym, subst}
use Rattle.wit_data.specs.Kind.{function_references}
use Rattle.wit_graph_theory.specs.facts.ListFacts.{contained_at}
use Rattle.wit_link_spec.specs.Reasons.{of_function}
use Rattle.wit_link_lookup.proofs.checker.Checker.look_at_function.Goals as goal

pub look_at_ids-requires-clause-referred : goal.look_at_ids-requires-clause-referred
look_at_ids-requires-clause-referred c =
    let f = c.args.function.now in
    λ i t at.
    of_function f t (c.requires.may (sym c.is_active.ensures ∙ c.if-not-is_active.false))
    (contained_at (function_references f) i t (subst (λ (l : List ℕ). slice_get l i ≡ Some t) c.in_ok-function_references.ensures at))
