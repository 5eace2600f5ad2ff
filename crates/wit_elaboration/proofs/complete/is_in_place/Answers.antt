use Rattle.std.proofs.Common.{All, Contains, subst, sym}
use Rattle.wit_elaboration.specs.laws.ElaborationLaws.{stands_on}
use Rattle.wit_elaboration.specs.Entries.{Role}
use Rattle.wit_elaboration.proofs.complete.is_in_place.Goals as goal

pub returns-then-is_settled : goal.returns-then-is_settled
returns-then-is_settled c = (
  λ yes. (c.is_settled.ensures.0 c.if-is_settled.true, subst (λ (role : Role). All (Contains c.args.imported.now.order) (stands_on c.args.uses.now role)) c.of.ensures (c.stands.ensures.0 yes)),
  λ both. c.stands.ensures.1 (subst (λ (role : Role). All (Contains c.args.imported.now.order) (stands_on c.args.uses.now role)) (sym c.of.ensures) both.1),
)
