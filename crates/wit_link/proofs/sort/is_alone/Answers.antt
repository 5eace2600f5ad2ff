use Rattle.std.proofs.Common.{subst, arith, ◌≡◌, length, Bool, not, IsTrue}
use Rattle.wit_link.proofs.Alone.{none_of, one_of}
use Rattle.wit_link.proofs.sort.is_alone.Goals as goal

pub returns : goal.returns
returns c = λ absent.
    let one : length c.args.unresolved.now ≡ 1 = omega (arith, c.len.ensures, c.if-len-ne1.false) in
    (c.at.result.now, one_of c.args.unresolved.now c.at.result.now one c.at.ensures, none_of _ (subst (λ (b : Bool). IsTrue (not b)) c.contains_key.ensures absent))
