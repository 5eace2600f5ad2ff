use Rattle.std.proofs.Common.{◌∙◌, ℕ, List, subst}
use Rattle.wit_ways.specs.Asked.{known_arrows}
use Rattle.wit_ways.specs.Ways.{IsRound}
use Rattle.wit_ways.specs.declared.arrow.Arrow.{Arrow}
use Rattle.wit_ways.proofs.Outcomes.{if_ok}
use Rattle.wit_ways.proofs.PackageRounds.{nothing_pushed}
use Rattle.wit_ways.proofs.told_way.package_round.Goals as goal

pub returns : goal.returns
returns c =
    let state = c.args.resolve.now in
    let asked = c.args.asked.now in
    let name = c.in_ok-name.name in
    if_ok c.round-in_default.result c.round-in_default.ensures
    (λ way is.
    nothing_pushed state asked c.args.«package».now way c.in_default.not-Push
    (subst (λ (text : List ℕ). IsRound (known_arrows state asked) text way) c.in_ok-name.ensures
    (subst (λ (arrows : List Arrow). IsRound arrows name way) (c.as_slice-in_default.ensures ∙ c.in_ok-arrows-in_default.ensures) is)))
