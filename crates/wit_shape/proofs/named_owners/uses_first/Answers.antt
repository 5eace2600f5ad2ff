use Rattle.std.proofs.Common.{◌≡◌, ◌∙◌, ℕ, ◌<◌, [], List, length, subst, ap}
use Rattle.std.specs.Prelude.{Contains, IfOk}
use Rattle.wit_digraph.specs.steps.PostOrder.{Listed, UsesFirst}
use Rattle.wit_data.specs.Kind.{type_references}
use Rattle.wit_data.specs.facts.ReferenceFacts.{length-references}
use Rattle.wit_shape.proofs.named_owners.uses_first.Goals as goal

pub returns-clause-nodes : goal.returns-clause-nodes
returns-clause-nodes c =
    let rows : c.as_slice.result.now ≡ type_references c.args.types.now = c.as_slice.ensures ∙ c.in_ok-references.ensures in
    subst (λ (n : ℕ). IfOk c.of_all.result (λ (l : Listed). l.nodes ≡ n)) (ap length rows ∙ length-references c.args.types.now) c.of_all.ensures.nodes

pub returns-clause-all : goal.returns-clause-all
returns-clause-all c =
    let rows : c.as_slice.result.now ≡ type_references c.args.types.now = c.as_slice.ensures ∙ c.in_ok-references.ensures in
    subst (λ (n : ℕ). IfOk c.of_all.result (λ (l : Listed). (i : ℕ) → i < n → Contains l.order i)) (ap length rows ∙ length-references c.args.types.now) c.of_all.ensures.all

pub returns-clause-uses_first : goal.returns-clause-uses_first
returns-clause-uses_first c =
    let rows : c.as_slice.result.now ≡ type_references c.args.types.now = c.as_slice.ensures ∙ c.in_ok-references.ensures in
    subst (λ (uses : List (List ℕ)). IfOk c.of_all.result (λ (l : Listed). UsesFirst uses [] l.order)) rows c.of_all.ensures.uses_first
