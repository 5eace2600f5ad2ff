use Rattle.std.proofs.Common.{arith, ap, length, refl}
use Rattle.wit_data.specs.facts.EachFacts.{all_of, one_more}
use Rattle.wit_link_lookup.proofs.Elements.{element_at}
use Rattle.wit_link_lookup.proofs.checker.Checker.look_at_fields.Goals as goal

pub loop-field-preserved : goal.loop-field-preserved
loop-field-preserved c = one_more c.loop-field.invariant _ (element_at c.args.fields.now c.as_slice-field-items.result.now _ c.loop-field.field-index c.field-item.result c.as_slice-field-items.ensures refl c.loop-field-test.true c.field-item.is) c.in_ok-look_at_field.ensures.stays

pub returns-clause-stay : goal.returns-clause-stay
returns-clause-stay c = all_of c.loop-field.invariant (omega (arith, ap length c.as_slice-field-items.ensures))
