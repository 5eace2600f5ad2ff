use Rattle.std.proofs.Common.{Bool, List, subst}
use Rattle.std.specs.Prelude.{◌↔◌, IsTrue, IfOk}
use Rattle.std.proofs.lemmas.Result.{IfOk-weaker}
use Rattle.wit_data.specs.Each.{Each}
use Rattle.wit_data.specs.Shape.{IsGroupShaped, IsShaped}
use Rattle.wit_data.specs.declared.unresolved.UnresolvedPackage.{UnresolvedPackage}
use Rattle.wit_shape.proofs.group.is_group_shaped.Goals as goal

pub returns : goal.returns
returns c =
    let g = c.args.group.now in
    let main : IsShaped g.main = c.in_ok-is_shaped.ensures.0 c.if-not-branch.false in
    let nested = subst (λ (packages : List UnresolvedPackage). IfOk c.are_shaped.result (λ shaped. IsTrue shaped ↔ Each IsShaped packages)) c.as_slice.ensures c.are_shaped.ensures in
    IfOk-weaker c.are_shaped.result (λ (b : Bool). IsTrue b ↔ Each IsShaped g.nested) (λ (b : Bool). IsTrue b ↔ IsGroupShaped g)
    (λ b test. (λ is. record { main = main; nested = test.0 is }, λ group. test.1 group.nested)) nested
