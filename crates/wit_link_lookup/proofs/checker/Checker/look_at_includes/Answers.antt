use Rattle.std.proofs.Common.{arith, ap, length, refl}
use Rattle.wit_data.specs.facts.EachFacts.{all_of, one_more}
use Rattle.wit_link_lookup.proofs.Elements.{element_at}
use Rattle.wit_link_lookup.proofs.checker.Checker.look_at_includes.Goals as goal

pub loop-include-preserved : goal.loop-include-preserved
loop-include-preserved c = one_more c.loop-include.invariant _ (element_at c.args.includes.now c.as_slice-include-items.result.now _ c.loop-include.include-index c.include-item.result c.as_slice-include-items.ensures refl c.loop-include-test.true c.include-item.is) c.in_ok-look_at_include.ensures.stays

pub returns-clause-stay : goal.returns-clause-stay
returns-clause-stay c = all_of c.loop-include.invariant (omega (arith, ap length c.as_slice-include-items.ensures))
