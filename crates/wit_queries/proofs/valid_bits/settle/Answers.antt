use Rattle.std.proofs.Common.{rules, ◌≡◌, ◌∙◌, true, false, Some, length, refl, ap, slice_get}
use Rattle.std.proofs.lemmas.Option.{slice_get_read}
use Rattle.wit_queries.specs.steps.ValidBits.{has_valid_parts}
use Rattle.wit_queries.proofs.ValidBits.{settled_all, settling_agrees, settling_off, settling_taken}
use Rattle.wit_queries.proofs.valid_bits.settle.Goals.{then-at+then-not-has_valid_parts, else-at, else-at-via-then-at+else-not-has_valid_parts, else-at-via-else-at}
use Rattle.wit_queries.proofs.valid_bits.settle.Goals as goal

pub loop-place-preserved : goal.loop-place-preserved
loop-place-preserved c = elim c.if-at.branch [
  | then-at+then-not-has_valid_parts w ↦
      let at : slice_get c.args.types.now c.loop-place.place ≡ Some w.index-types-place.result =
      slice_get_read c.args.types.now (length c.args.types.now) c.loop-place.place w.index-types-place.result refl c.loop-place-test.true w.index-types-place.is in
      let is : has_valid_parts c.loop-place.flags w.index-types-place.result.kind ≡ false = search rules in
      let on : slice_get c.loop-place.flags c.loop-place.place ≡ Some true = c.at.ensures ∙ ap Some w.if-at.true in
      let next = settling_taken c.args.types.now c.args.first c.args.flags.now c.loop-place.settled c.loop-place.flags c.loop-place.place w.index-types-place.result c.loop-place.invariant on at is in
      rw (w.settled-is, w.flags-is, w.set.ensures) next
  | else-at w ↦ elim w.else-at.branch [
    | else-at-via-then-at+else-not-has_valid_parts w' ↦
        let at : slice_get c.args.types.now c.loop-place.place ≡ Some w'.index-types-place.result =
        slice_get_read c.args.types.now (length c.args.types.now) c.loop-place.place w'.index-types-place.result refl c.loop-place-test.true w'.index-types-place.is in
        let is : has_valid_parts c.loop-place.flags w'.index-types-place.result.kind ≡ true = search rules in
        let next = settling_agrees c.args.types.now c.args.first c.args.flags.now c.loop-place.settled c.loop-place.flags c.loop-place.place w'.index-types-place.result c.loop-place.invariant at is in
        rw (w.settled-is, w.flags-is) next
    | else-at-via-else-at w' ↦
        let next = settling_off c.args.types.now c.args.first c.args.flags.now c.loop-place.settled c.loop-place.flags c.loop-place.place c.loop-place.invariant (c.at.ensures ∙ ap Some w'.if-at.false) in
        rw (w.settled-is, w.flags-is) next
  ]
]

pub returns-clause-settled : goal.returns-clause-settled
returns-clause-settled c = settled_all c.args.types.now c.args.first c.args.flags.now c.loop-place.settled c.loop-place.flags c.loop-place.place c.loop-place.invariant c.loop-place-test.false
