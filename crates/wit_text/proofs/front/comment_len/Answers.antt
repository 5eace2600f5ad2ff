use Rattle.std.proofs.Common.{◌≡◌, ◌+◌, ◌-◌, suc, true, false, length, drop, get_or, length-drop, arith}
use Rattle.wit_text.specs.Front.{closes, comment_len, opens}
use Rattle.wit_text.proofs.Lengths.{closes_one, comment_end, goes_on_here, opens_here}
use Rattle.wit_text.proofs.front.comment_len.Goals as goal

pub loop-len-preserved-then-opens : goal.loop-len-preserved-then-opens
loop-len-preserved-then-opens c =
    let is : opens (get_or c.args.bytes.now c.loop-len.len 0) (get_or c.args.bytes.now (c.loop-len.len + 1) 0) ≡ true = cc in
    record {
      within = omega arith;
      open_before = omega arith;
      left = opens_here c.args.bytes.now c.loop-len.len c.loop-len.inner (comment_len 0 c.args.bytes.now) c.loop-len-test.true c.loop-len.invariant.left is;
    }

pub loop-len-preserved-then-closes : goal.loop-len-preserved-then-closes
loop-len-preserved-then-closes c =
    let not_open : opens (get_or c.args.bytes.now c.loop-len.len 0) (get_or c.args.bytes.now (c.loop-len.len + 1) 0) ≡ false = cc in
    let is : closes (get_or c.args.bytes.now c.loop-len.len 0) (get_or c.args.bytes.now (c.loop-len.len + 1) 0) ≡ true = cc in
    let one : c.loop-len.inner ≡ suc (c.loop-len.inner - 1) = omega arith in
    record {
      within = omega arith;
      open_before = omega arith;
      left = closes_one c.args.bytes.now c.loop-len.len c.loop-len.inner (comment_len 0 c.args.bytes.now) c.loop-len-test.true c.loop-len.invariant.left
          (c.loop-len.inner - 1) not_open is one;
    }

pub loop-len-preserved : goal.loop-len-preserved
loop-len-preserved c =
    let not_open : opens (get_or c.args.bytes.now c.loop-len.len 0) (get_or c.args.bytes.now (c.loop-len.len + 1) 0) ≡ false = cc in
    let not_closed : closes (get_or c.args.bytes.now c.loop-len.len 0) (get_or c.args.bytes.now (c.loop-len.len + 1) 0) ≡ false = cc in
    record {
      within = omega arith;
      open_before = omega arith;
      left = goes_on_here c.args.bytes.now c.loop-len.len c.loop-len.inner (comment_len 0 c.args.bytes.now) c.loop-len-test.true c.loop-len.invariant.left not_open not_closed;
    }

pub returns-clause-value : goal.returns-clause-value
returns-clause-value c =
    let rest : length (drop c.loop-len.len c.args.bytes.now) ≡ length c.args.bytes.now - c.loop-len.len = length-drop c.loop-len.len c.args.bytes.now in
    comment_end c.args.bytes.now c.loop-len.len c.loop-len.inner (comment_len 0 c.args.bytes.now) (omega arith) c.loop-len.invariant.left
