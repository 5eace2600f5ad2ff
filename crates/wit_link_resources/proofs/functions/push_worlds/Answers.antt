use Rattle.std.proofs.Common.{◌≡◌, ◌∙◌, ◌++◌, ℕ, length, ap, sym, List, append_assoc, arith}
use Rattle.std.specs.List.{flat_map, range_with_len}
use Rattle.wit_data.specs.declared.function.Function.{Function}
use Rattle.wit_link_spec.specs.steps.AdditionRefs.{addition_of}
use Rattle.wit_link_spec.specs.Addition.{Addition}
use Rattle.wit_link_spec.specs.facts.FlagFacts.{world-flag, world-inside}
use Rattle.wit_link_resources.specs.steps.Active.{active_entries, seen, world_functions}
use Rattle.wit_link_resources.proofs.ActiveOnes.{world_off, world_on}
use Rattle.wit_link_resources.proofs.Ranges.{lent_at, lent_below, ranged-next, ranged-same}
use Rattle.wit_link_resources.proofs.functions.push_worlds.Goals.{then-at+in_ok-push_entries+in_ok-push_entries-2, else-at}
use Rattle.wit_link_resources.proofs.functions.push_worlds.Goals as goal

pub at-requires : goal.at-requires
at-requires c =
    world-inside (addition_of c.args.addition.now) c.args.activity.now c.requires c.loop-index.index (lent_below c.args.addition.now.unresolved.now.worlds c.as_slice-world-items.result.now c.loop-index.index c.as_slice-world-items.ensures c.loop-index-test.true)

pub loop-index-preserved : goal.loop-index-preserved
loop-index-preserved c =
    let a : Addition = addition_of c.args.addition.now in
    let at = lent_at c.args.addition.now.unresolved.now.worlds c.as_slice-world-items.result.now c.loop-index.index c.as_slice-world-items.ensures c.loop-index-test.true c.world-item.result c.world-item.is in
    let flag = sym (world-flag a c.args.activity.now c.requires c.loop-index.index c.at.result.now c.at.ensures) in
    elim c.if-at.branch [
      | then-at+in_ok-push_entries+in_ok-push_entries-2 w ↦
          let imports : List Function = active_entries a.features c.world-item.result.imports in
          let exports : List Function = active_entries a.features c.world-item.result.exports in
          ranged-next (world_functions a) c.loop-index.index (seen c.args.functions.now.items) (seen c.loop-index.functions.items) (seen c.if-at.functions.items)
          (imports ++ exports) c.loop-index.invariant
          (ap (λ fs. seen fs.items) w.functions-is ∙ (w.in_ok-push_entries-2.ensures ∙ (ap (λ (fs : List Function). fs ++ exports) w.in_ok-push_entries.ensures ∙ append_assoc (seen c.loop-index.functions.items) imports exports)))
          (sym (world_on a c.loop-index.index c.world-item.result at (flag ∙ w.if-at.true)))
      | else-at w ↦
          ranged-same (world_functions a) c.loop-index.index (seen c.args.functions.now.items) (seen c.loop-index.functions.items) (seen c.if-at.functions.items)
          c.loop-index.invariant (ap (λ fs. seen fs.items) w.functions-is) (world_off a c.loop-index.index (flag ∙ w.if-at.false))
    ]

pub returns : goal.returns
returns c =
    let a : Addition = addition_of c.args.addition.now in
    let last : c.loop-index.index ≡ length a.unresolved.worlds =
    let past = c.loop-index-test.false in let within = c.loop-index.auto.index-end in let long = ap length c.as_slice-world-items.ensures in omega arith in
    c.loop-index.invariant ∙ ap (λ (m : ℕ). seen c.args.functions.now.items ++ flat_map (world_functions a) (range_with_len 0 m)) last
