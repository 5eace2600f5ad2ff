use Rattle.std.proofs.Common.{◌≡◌, ◌<◌, ◌-◌, length, drop, subst, length-drop, arith}
use Rattle.std.proofs.lemmas.Grind.{common_steps}
use Rattle.std.specs.Prelude.{Result, IfOk}
use Rattle.wit_text.specs.Front.{Fits}
use Rattle.wit_text.specs.declared.fault.FaultKind.{FaultKind}
use Rattle.wit_text.specs.declared.front.Front.{Front}
use Rattle.wit_text.proofs.tokenizer.Tokenizer.next_token.Goals as goal

pub range_from-self-requires : goal.range_from-self-requires
range_from-self-requires c = λ some.
    let fits : Fits c.args.self.now.rest.now c.in-Some-Ok.front.len =
    subst (λ (read : Result Front FaultKind). IfOk read (λ f. Fits c.args.self.now.rest.now f.len)) c.in-Some-Ok.field-0-is c.in-Some-Ok.ensures.fits in
    fits.1

pub returns-in-Some-Ok-clause-shorter : goal.returns-in-Some-Ok-clause-shorter
returns-in-Some-Ok-clause-shorter c =
    let fits : Fits c.args.self.now.rest.now c.in-Some-Ok.front.len =
    subst (λ (read : Result Front FaultKind). IfOk read (λ f. Fits c.args.self.now.rest.now f.len)) c.in-Some-Ok.field-0-is c.in-Some-Ok.ensures.fits in
    let some : 0 < c.in-Some-Ok.front.len = fits.0 in
    let within = fits.1.0 in
    let less : length (drop c.in-Some-Ok.front.len c.args.self.now.rest.now) ≡ length c.args.self.now.rest.now - c.in-Some-Ok.front.len =
    length-drop c.in-Some-Ok.front.len c.args.self.now.rest.now in
    first_of (omega arith, grind (arith, common_steps))
