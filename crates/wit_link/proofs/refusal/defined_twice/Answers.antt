use Rattle.std.proofs.Common.{◌≡◌, inr, rules}
use Rattle.wit_link.proofs.Refusals.{twice-told}
use Rattle.wit_link.proofs.refusal.defined_twice.Goals as goal

pub returns-in-Ok : goal.returns-in-Ok
returns-in-Ok c =
    let same : c.from.result ≡ c.in-Ok.kind = search rules in
    rw same (inr (twice-told c.args.unresolved.now c.args.earlier c.args.later c.at-2.result.now c.at.result.now c.in-Ok.kind c.requires.before c.at-2.ensures c.at.ensures c.requires.same c.in-Ok.ensures))
