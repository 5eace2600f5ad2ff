use Rattle.std.proofs.Common.{Bool, Ok, Err, Result, subst, sym}
use Rattle.std.specs.Prelude.{◌↔◌, IfOk, IsTrue}
use Rattle.wit_elaboration.specs.Valid.{IsValid}
use Rattle.wit_graph_data.specs.declared.graph.Graph.{Graph}
use Rattle.wit_resolve_graph.proofs.resolve.Resolve.assert_valid.Goals as goal

true_of : {E : Type 0} (g : Graph) (told : Result Bool E) → IsValid g → IfOk told (λ valid. IsTrue valid ↔ IsValid g) → IfOk told (λ valid. IsTrue valid)
true_of g (Ok valid) is test = test.1 is
true_of g (Err e) is test = tt

pub returns-clause-valid : goal.returns-clause-valid
returns-clause-valid c =
    true_of c.graph.result.now c.is_valid.result (subst (λ (g : Graph). IsValid g) (sym c.graph.ensures.value) c.graph.ensures.valid) c.is_valid.ensures.holds
