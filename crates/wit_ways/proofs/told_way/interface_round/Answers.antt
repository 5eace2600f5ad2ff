use Rattle.std.proofs.Common.{◌≡◌, ◌∙◌, ℕ, List, Bor, Option, codes, subst, sym}
use Rattle.std.specs.Prelude.{MatchOption}
use Rattle.wit_elaboration.specs.steps.Parts.{interface_cycle_text}
use Rattle.wit_ways.specs.Asked.{known_arrows}
use Rattle.wit_ways.specs.Ways.{IsRound}
use Rattle.wit_ways.specs.declared.arrow.Arrow.{Arrow}
use Rattle.wit_ways.proofs.CycleNames.{one_name}
use Rattle.wit_ways.proofs.Outcomes.{if_ok}
use Rattle.wit_ways.proofs.told_way.interface_round.Goals as goal

pub returns-in_default : goal.returns-in_default
returns-in_default c = λ name whole.
    let message = c.args.message.now in
    let none = subst (λ (o : Option (Bor (List ℕ))). MatchOption o ((n : List ℕ) → message ≡ interface_cycle_text n → ⊥) (λ x. message ≡ interface_cycle_text x.now)) c.in_default.is c.between.ensures in
    absurd (none name whole)

pub returns : goal.returns
returns c =
    if_ok c.round.result c.round.ensures
    (λ way is name whole.
    let same : c.in-Some.name.now ≡ name = one_name (codes "interface `") (codes "` would depend on itself") c.in-Some.name.now name (sym c.in-Some.ensures ∙ whole) in
    subst (λ (n : List ℕ). IsRound (known_arrows c.args.resolve.now c.args.asked.now) n way) (c.in_ok-name.ensures ∙ same)
    (subst (λ (arrows : List Arrow). IsRound arrows c.in_ok-name.name way) (c.as_slice.ensures ∙ c.in_ok-arrows.ensures) is))
