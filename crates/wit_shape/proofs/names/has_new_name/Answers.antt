use Rattle.std.proofs.Common.{ℕ, List, Option, sym, subst}
use Rattle.std.specs.Prelude.{◌↔◌, Contains, IfOk, IfSome, IsTrue}
use Rattle.wit_shape.proofs.names.has_new_name.Goals as goal

pub returns-in-Some-clause-new : goal.returns-in-Some-clause-new
returns-in-Some-clause-new c =
    subst (λ (o : Option (List ℕ)). IfOk c.is_new.result (λ new. IsTrue new ↔ IfSome o (λ name. Contains c.args.met.now name → ⊥))) (sym c.in-Some.is) (rw c.as_str.ensures at c.is_new.ensures.new)
