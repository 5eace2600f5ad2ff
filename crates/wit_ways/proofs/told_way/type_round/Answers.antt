use Rattle.std.proofs.Common.{◌≡◌, ◌∙◌, ℕ, List, Bor, Option, codes, subst, sym}
use Rattle.std.specs.Prelude.{MatchOption}
use Rattle.wit_elaboration.specs.steps.Parts.{type_cycle_text}
use Rattle.wit_graph_data.specs.declared.graph.Graph.{Graph}
use Rattle.wit_ways.specs.Asked.{asked_graph}
use Rattle.wit_ways.specs.Told.{IsTypeRound}
use Rattle.wit_ways.specs.TypeArrows.{type_arrows}
use Rattle.wit_ways.specs.declared.arrow.Arrow.{Arrow}
use Rattle.wit_ways.proofs.CycleNames.{one_name}
use Rattle.wit_ways.proofs.Outcomes.{if_ok}
use Rattle.wit_ways.proofs.told_way.type_round.Goals as goal

pub returns-in_default : goal.returns-in_default
returns-in_default c = λ name whole.
    let message = c.args.message.now in
    let none = subst (λ (o : Option (Bor (List ℕ))). MatchOption o ((n : List ℕ) → message ≡ type_cycle_text n → ⊥) (λ x. message ≡ type_cycle_text x.now)) c.in_default.is c.between.ensures in
    absurd (none name whole)

pub returns : goal.returns
returns c =
    let g = asked_graph c.args.resolve.now c.args.asked.now in
    let graph_is : c.made_or_known-graph.result.now ≡ g = c.made_or_known-graph.ensures ∙ sym c.in_ok-made.ensures in
    if_ok c.first_round.result c.first_round.ensures
    (λ way is name whole.
    let same : c.in-Some.name.now ≡ name = one_name (codes "type `") (codes "` would refer to itself") c.in-Some.name.now name (sym c.in-Some.ensures ∙ whole) in
    subst (λ (n : List ℕ). IsTypeRound g (type_arrows g) n way) same
    (subst (λ (x : Graph). IsTypeRound x (type_arrows x) c.in-Some.name.now way) graph_is
    (subst (λ (arrows : List Arrow). IsTypeRound c.made_or_known-graph.result.now arrows c.in-Some.name.now way) (c.as_slice.ensures ∙ c.in_ok-arrows.ensures) is)))
