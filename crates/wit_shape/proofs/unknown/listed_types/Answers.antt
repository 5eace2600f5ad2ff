use Rattle.std.proofs.Common.{ℕ, ◌<◌, List}
use Rattle.wit_data.specs.facts.EachFacts.{all_of}
use Rattle.wit_shape.specs.facts.Found.{ended, read, within_at, within_more}
use Rattle.wit_data.specs.declared.interface.Interface.{Interface}
use Rattle.wit_shape.specs.Faults.{foreign_interface_count, unknown_count}
use Rattle.wit_shape.specs.declared.place.ShapePlace.TheVariants as place
use Rattle.wit_shape.proofs.unknown.listed_types.Goals as goal

pub returns-in-Some : goal.returns-in-Some
returns-in-Some c =
    let p = c.args.unresolved.now in
    within_at (λ i (interface : Interface) (e : List ℕ × ℕ). i < foreign_interface_count p → e.1 < unknown_count p) (λ (interface : Interface). interface.types) p.interfaces place.InterfaceType
    c.loop-index.index _ c.in-Some.at c.interface-item.result _ c.loop-index.invariant
    (read p.interfaces _ c.as_slice-interface-items.ensures c.loop-index.index c.interface-item.result c.loop-index-test.true c.interface-item.is)
    (rw (c.len-unknown.ensures, c.len-foreign.ensures, c.in_ok-foreign_interfaces.ensures) at c.type_that_is_known.ensures) c.in-Some.is c.from_index-id.ensures

pub loop-index-preserved : goal.loop-index-preserved
loop-index-preserved c =
    let p = c.args.unresolved.now in
    within_more (λ i (interface : Interface) (e : List ℕ × ℕ). i < foreign_interface_count p → e.1 < unknown_count p) (λ (interface : Interface). interface.types) p.interfaces
    c.loop-index.index c.interface-item.result _ c.loop-index.invariant
    (read p.interfaces _ c.as_slice-interface-items.ensures c.loop-index.index c.interface-item.result c.loop-index-test.true c.interface-item.is)
    (rw (c.len-unknown.ensures, c.len-foreign.ensures, c.in_ok-foreign_interfaces.ensures) at c.type_that_is_known.ensures) c.in_default.is

pub returns : goal.returns
returns c = all_of c.loop-index.invariant (ended c.args.unresolved.now.interfaces _ c.loop-index.index c.as_slice-interface-items.ensures c.loop-index-test.false)
