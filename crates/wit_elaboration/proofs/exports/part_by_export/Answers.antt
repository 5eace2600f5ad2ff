use Rattle.std.proofs.Common.{◌≡◌, ℕ, Bool, true, false, not, List, get_or, ap, ◌∙◌, arith}
use Rattle.wit_digraph.specs.facts.FreshFacts.{any_from_contains, no_any_from}
use Rattle.wit_elaboration.specs.steps.Elaborating.{is_listed}
use Rattle.wit_elaboration.specs.declared.exports.Parted.{Parted}
use Rattle.wit_elaboration.specs.facts.Filters.{pick_next, pick_skip}
use Rattle.wit_elaboration.proofs.exports.part_by_export.Goals.{then-has+in_ok-push, else-has+in_ok-push-2}
use Rattle.wit_elaboration.proofs.exports.part_by_export.Goals as goal

pub loop-interface-preserved : goal.loop-interface-preserved
loop-interface-preserved c =
    let at : ℕ = c.loop-interface.interface-index in
    let xs : List ℕ = c.args.interfaces.now in
    let p : ℕ → Bool = is_listed c.args.exported.now in
    let q : ℕ → Bool = λ i. not (p i) in
    elim c.if-has.branch [
      | then-has+in_ok-push w ↦
          let on : p (get_or xs at 0) ≡ true = any_from_contains (get_or xs at 0) c.args.exported.now.order (c.has.ensures.0 w.if-has.true) in
          record {
            exported_are =
                pick_next p xs at c.loop-interface.parted.exported c.if-has.parted.exported (omega arith) on c.loop-interface.invariant.exported_are
                (ap (λ (r : Parted). r.exported) w.parted-is ∙ w.in_ok-push.ensures.ok);
            others_are = pick_skip q xs at c.loop-interface.parted.others c.if-has.parted.others (omega arith) (ap not on) c.loop-interface.invariant.others_are (ap (λ (r : Parted). r.others) w.parted-is);
          }
      | else-has+in_ok-push-2 w ↦
          let off : p (get_or xs at 0) ≡ false =
          no_any_from (get_or xs at 0) c.args.exported.now.order (λ has. let on = c.has.ensures.1 has in let not_on = w.if-has.false in cc) in
          record {
            exported_are = pick_skip p xs at c.loop-interface.parted.exported c.if-has.parted.exported (omega arith) off c.loop-interface.invariant.exported_are (ap (λ (r : Parted). r.exported) w.parted-is);
            others_are =
                pick_next q xs at c.loop-interface.parted.others c.if-has.parted.others (omega arith) (ap not off) c.loop-interface.invariant.others_are
                (ap (λ (r : Parted). r.others) w.parted-is ∙ w.in_ok-push-2.ensures.ok);
          }
    ]
