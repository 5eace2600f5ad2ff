use Rattle.std.proofs.Common.{◌≡◌, ◌≤◌, ◌+◌, ◌-◌, ◌*◌, ◌^◌, ◌∙◌, true, get_or, sym, arith}
use Rattle.std.specs.Char.{is_ascii_digit}
use Rattle.wit_json_reading.specs.Values.{decimal_of}
use Rattle.wit_json_reading.proofs.Digits.{all_digits, no_digit, one_more_digit, too_large}
use Rattle.wit_json_reading.proofs.values.decimal.Goals as goal

pub returns-then-not-is_ascii_digit : goal.returns-then-not-is_ascii_digit
returns-then-not-is_ascii_digit c =
    no_digit (2 ^ 64) c.loop-index.number c.loop-index.index c.as_bytes-digits.result.now _ c.loop-index-test.true
    (sym c.is_ascii_digit.ensures.value ∙ c.if-not-is_ascii_digit.true) c.loop-index.invariant.0

pub returns-in-None : goal.returns-in-None
returns-in-None c =
    too_large (2 ^ 64) c.loop-index.number c.loop-index.index c.as_bytes-digits.result.now _ c.loop-index-test.true
    (sym c.is_ascii_digit.ensures.value ∙ c.if-not-is_ascii_digit.false) (grind (arith, c.in-None.ensures)) c.loop-index.invariant.0

pub loop-index-preserved : goal.loop-index-preserved
loop-index-preserved c = (
  one_more_digit (2 ^ 64) c.loop-index.number c.loop-index.index _ c.as_bytes-digits.result.now _ c.loop-index-test.true
      (sym c.is_ascii_digit.ensures.value ∙ c.if-not-is_ascii_digit.false) c.in-Some.ensures.1 c.loop-index.invariant.0,
  omega (arith, c.in-Some.ensures.0, c.in-Some.ensures.1),
)

pub returns : goal.returns
returns c = all_digits (2 ^ 64) c.loop-index.number c.loop-index.index c.as_bytes-digits.result.now _ c.loop-index-test.false c.loop-index.invariant.1 c.loop-index.invariant.0
