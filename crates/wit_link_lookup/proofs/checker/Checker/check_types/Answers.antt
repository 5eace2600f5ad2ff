use Rattle.std.proofs.Common.{arith, ap, length, refl}
use Rattle.wit_link_spec.specs.Gates.{of_type}
use Rattle.wit_data.specs.facts.EachFacts.{all_of, one_more}
use Rattle.wit_link_lookup.proofs.Elements.{element_at}
use Rattle.wit_link_lookup.proofs.checker.Checker.check_types.Goals as goal

pub check_gate-requires : goal.check_gate-requires
check_gate-requires c = of_type c.loop-def.def-index c.def-item.result (element_at c.args.self.now.addition.unresolved.now.types c.as_slice-def-items.result.now _ c.loop-def.def-index c.def-item.result c.as_slice-def-items.ensures refl c.loop-def-test.true c.def-item.is)

pub loop-def-preserved : goal.loop-def-preserved
loop-def-preserved c = one_more c.loop-def.invariant _ (element_at c.args.self.now.addition.unresolved.now.types c.as_slice-def-items.result.now _ c.loop-def.def-index c.def-item.result c.as_slice-def-items.ensures refl c.loop-def-test.true c.def-item.is) c.in_ok-check_gate.ensures.met

pub returns-clause-met : goal.returns-clause-met
returns-clause-met c = all_of c.loop-def.invariant (omega (arith, ap length c.as_slice-def-items.ensures))
