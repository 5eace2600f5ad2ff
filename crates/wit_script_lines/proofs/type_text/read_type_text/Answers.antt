use Rattle.std.proofs.Common.{◌≡◌, ◌<◌, length, refl, rules, Some, None, sym, arith}
use Rattle.wit_script_lines.specs.TypeText.{form_of, type_text_of}
use Rattle.wit_script_lines.proofs.Forms.{no-more, one-more}
use Rattle.wit_script_lines.proofs.type_text.read_type_text.Goals as goal

pub loop-wrap-init : goal.loop-wrap-init
loop-wrap-init c = (search rules, (length c.args.text.now, omega arith, rw c.new-wraps.ensures refl))

pub loop-wrap-preserved : goal.loop-wrap-preserved
loop-wrap-preserved c =
    let form : Some (c.in-Some.wrap, c.in-Some.inner.now) ≡ form_of c.loop-wrap.rest.now = rw (c.in-Some.wrap-is, c.in-Some.inner-is) c.in-Some.ensures.form in
    let shorter : length c.in-Some.inner.now < length c.loop-wrap.rest.now = rw c.in-Some.inner-is c.in-Some.ensures.shorter in
    (search rules, rw c.in_ok-push.ensures.ok (one-more (type_text_of c.args.text.now) c.loop-wrap.wraps c.loop-wrap.rest.now c.in-Some.inner.now c.in-Some.wrap c.loop-wrap.invariant.1 form shorter))

pub returns : goal.returns
returns c =
    let plain : form_of c.loop-wrap.rest.now ≡ None = sym c.in_default.ensures.form in
    rw c.in_ok-core.ensures (sym (no-more (type_text_of c.args.text.now) c.loop-wrap.wraps c.loop-wrap.rest.now c.loop-wrap.invariant.1 plain))
