use Rattle.std.proofs.Common.{◌∙◌, inl, inr, List, Option, ℕ, refl, sym, ap, subst}
use Rattle.wit_resolve_graph.specs.State.{State}
use Rattle.wit_transform.specs.Transformed.{IsImportizeCause, importized, transformed}
use Rattle.wit_resolve_graph.proofs.transformations.importize.Goals as goal

pub returns-in-Ok : goal.returns-in-Ok
returns-in-Ok c = record {
  w = c.in-Some.id;
  there = sym (rw c.as_str.ensures at c.in-Some.ensures.id);
  accepted = λ error cause. c.in-Ok.ensures.refuses error (subst (λ (o : Option (List ℕ)). IsImportizeCause c.args.resolve.now.graph c.in-Some.id o error) (sym c.out_name.ensures) cause);
  is_changed = c.in-Ok.ensures.ok ∙ ap (λ (o : Option (List ℕ)). let s : State = record c.args.resolve.now { graph = transformed c.args.resolve.now.graph c.in-Some.id (importized o) } in s) c.out_name.ensures;
}

pub returns-in-Some : goal.returns-in-Some
returns-in-Some c = record {
  w = c.in-Some.id;
  there = sym (rw c.as_str.ensures at c.in-Some.ensures.id);
  cause = elim c.in-Err.ensures.cause [
    | inl memory ↦ inl memory
    | inr told ↦ inr (subst (λ (o : Option (List ℕ)). IsImportizeCause c.args.resolve.now.graph c.in-Some.id o c.in-Err.refusal) c.out_name.ensures told)
  ];
  same = c.in-Err.ensures.unchanged;
}

pub returns : goal.returns
returns c = (sym (rw c.as_str.ensures at c.in-None.ensures.id), refl)
