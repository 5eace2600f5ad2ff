use Rattle.std.proofs.Common.{◌<◌}
use Rattle.wit_data.specs.Foreign.{IsForeignType}
use Rattle.wit_data.specs.facts.EachFacts.{all_of, more}
use Rattle.wit_shape.specs.facts.Found.{ended, first_at, read}
use Rattle.wit_data.specs.declared.types.TypeDef.{TypeDef}
use Rattle.wit_shape.specs.Faults.{foreign_interface_count, unknown_count}
use Rattle.wit_shape.specs.declared.place.ShapePlace.TheVariants as place
use Rattle.wit_shape.proofs.unknown.foreign_types.Goals as goal

pub returns-then-not-is_foreign_if_unknown : goal.returns-then-not-is_foreign_if_unknown
returns-then-not-is_foreign_if_unknown c =
    let p = c.args.unresolved.now in
    first_at place.Type_ (λ i (def : TypeDef). i < unknown_count p → IsForeignType (foreign_interface_count p) def) p.types c.loop-index.index _ c.def-item.result _ c.loop-index.invariant
    (read p.types _ c.as_slice-def-items.ensures c.loop-index.index c.def-item.result c.loop-index-test.true c.def-item.is)
    (rw (c.len-unknown.ensures, c.len-foreign.ensures, c.in_ok-foreign_interfaces.ensures) at c.is_foreign_if_unknown.ensures) c.if-not-is_foreign_if_unknown.true c.from_index.ensures

pub loop-index-preserved : goal.loop-index-preserved
loop-index-preserved c =
    let p = c.args.unresolved.now in
    more c.loop-index.invariant c.def-item.result (read p.types _ c.as_slice-def-items.ensures c.loop-index.index c.def-item.result c.loop-index-test.true c.def-item.is)
    (rw (c.len-unknown.ensures, c.len-foreign.ensures, c.in_ok-foreign_interfaces.ensures) at c.is_foreign_if_unknown.ensures) c.if-not-is_foreign_if_unknown.false

pub returns : goal.returns
returns c = all_of c.loop-index.invariant (ended c.args.unresolved.now.types _ c.loop-index.index c.as_slice-def-items.ensures c.loop-index-test.false)
