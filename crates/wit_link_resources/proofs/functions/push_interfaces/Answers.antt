use Rattle.std.proofs.Common.{◌≡◌, ◌∙◌, ◌++◌, ℕ, length, ap, sym, arith}
use Rattle.std.specs.List.{flat_map, range_with_len}
use Rattle.wit_link_spec.specs.steps.AdditionRefs.{addition_of}
use Rattle.wit_link_spec.specs.Addition.{Addition}
use Rattle.wit_link_spec.specs.facts.FlagFacts.{interface-flag, interface-inside}
use Rattle.wit_link_resources.specs.steps.Active.{active_named, interface_functions, seen}
use Rattle.wit_link_resources.proofs.ActiveOnes.{interface_off, interface_on}
use Rattle.wit_link_resources.proofs.Ranges.{lent_at, lent_below, ranged-next, ranged-same}
use Rattle.wit_link_resources.proofs.functions.push_interfaces.Goals.{then-at+in_ok-push_named, else-at}
use Rattle.wit_link_resources.proofs.functions.push_interfaces.Goals as goal

pub at-requires : goal.at-requires
at-requires c =
    interface-inside (addition_of c.args.addition.now) c.args.activity.now c.requires c.loop-index.index (lent_below c.args.addition.now.unresolved.now.interfaces c.as_slice-interface-items.result.now c.loop-index.index c.as_slice-interface-items.ensures c.loop-index-test.true)

pub loop-index-preserved : goal.loop-index-preserved
loop-index-preserved c =
    let a : Addition = addition_of c.args.addition.now in
    let at = lent_at c.args.addition.now.unresolved.now.interfaces c.as_slice-interface-items.result.now c.loop-index.index c.as_slice-interface-items.ensures c.loop-index-test.true c.interface-item.result c.interface-item.is in
    let flag = sym (interface-flag a c.args.activity.now c.requires c.loop-index.index c.at.result.now c.at.ensures) in
    elim c.if-at.branch [
      | then-at+in_ok-push_named w ↦
          ranged-next (interface_functions a) c.loop-index.index (seen c.args.functions.now.items) (seen c.loop-index.functions.items) (seen c.if-at.functions.items)
          (active_named a.features c.interface-item.result.functions) c.loop-index.invariant (ap (λ fs. seen fs.items) w.functions-is ∙ w.in_ok-push_named.ensures)
          (sym (interface_on a c.loop-index.index c.interface-item.result at (flag ∙ w.if-at.true)))
      | else-at w ↦
          ranged-same (interface_functions a) c.loop-index.index (seen c.args.functions.now.items) (seen c.loop-index.functions.items) (seen c.if-at.functions.items)
          c.loop-index.invariant (ap (λ fs. seen fs.items) w.functions-is) (interface_off a c.loop-index.index (flag ∙ w.if-at.false))
    ]

pub returns : goal.returns
returns c =
    let a : Addition = addition_of c.args.addition.now in
    let last : c.loop-index.index ≡ length a.unresolved.interfaces =
    let past = c.loop-index-test.false in let within = c.loop-index.auto.index-end in let long = ap length c.as_slice-interface-items.ensures in omega arith in
    c.loop-index.invariant ∙ ap (λ (m : ℕ). seen c.args.functions.now.items ++ flat_map (interface_functions a) (range_with_len 0 m)) last
