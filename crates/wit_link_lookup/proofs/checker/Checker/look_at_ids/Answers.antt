use Rattle.std.proofs.Common.{arith, ap, length, refl}
use Rattle.wit_data.specs.facts.EachFacts.{all_of, one_more}
use Rattle.wit_link_lookup.proofs.Elements.{element_at}
use Rattle.wit_link_lookup.proofs.checker.Checker.look_at_ids.Goals as goal

pub loop-id-preserved : goal.loop-id-preserved
loop-id-preserved c = one_more c.loop-id.invariant _ (element_at c.args.ids.now c.as_slice-id-items.result.now _ c.loop-id.id-index c.id-item.result c.as_slice-id-items.ensures refl c.loop-id-test.true c.id-item.is) c.in_ok-look_at.ensures.stays

pub returns-clause-stay : goal.returns-clause-stay
returns-clause-stay c = all_of c.loop-id.invariant (omega (arith, ap length c.as_slice-id-items.ensures))
