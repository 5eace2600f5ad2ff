use Rattle.std.proofs.Common.{◌<◌, ◌^◌, bit_and, get_or, refl, arith}
use Rattle.std.proofs.Math.Facts.{Fits-lt-pow}
use Rattle.std.proofs.lemmas.Bool.{false≢true}
use Rattle.std.proofs.lemmas.Nat.{and_le_l}
use Rattle.wit_elaboration.proofs.ColumnFacts.{meets_at, meets_nowhere}
use Rattle.wit_elaboration.proofs.rows.meets.Goals as goal

pub returns-then-one-i-ne0 : goal.returns-then-one-i-ne0
returns-then-one-i-ne0 c =
    let one = get_or c.args.one.now c.loop-i.i 0 in
    let other = get_or c.args.other.now c.loop-i.i 0 in
    let small : bit_and one other < 2 ^ 64 = omega (arith, Fits-lt-pow (c.type_inv.one c.loop-i.i), and_le_l one other) in
    (λ on. meets_at c.args.one.now c.args.other.now c.loop-i.i small c.if-one-i-ne0.true, λ common. refl)

pub returns : goal.returns
returns c =
    (λ on. absurd (false≢true on), λ common. absurd (meets_nowhere c.args.one.now c.args.other.now (λ i below. c.loop-i.invariant i (omega (arith, below))) common))
