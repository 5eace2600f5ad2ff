use Rattle.std.proofs.Common.{◌≡◌, ◌∙◌, ◌+◌, ◌*◌, ◌≤◌, ap, subst, sym, arith}
use Rattle.wit_sources.specs.steps.Marks.{feeds_before}
use Rattle.wit_sources.proofs.MarkLemmas.{feeds_within, mark_at}
use Rattle.wit_sources.proofs.lined_text.LinedText.mark_before.Goals as goal

pub returns-in-Some-clause-feeds : goal.returns-in-Some-clause-feeds
returns-in-Some-clause-feeds c =
    let there : 0 + (c.in-Some.index + 1) * 128 ≡ c.min-number.result * 128 = omega (arith, c.in-Some.ensures) in
    mark_at c.self.inside.text 0 c.self.inside.marks c.in-Some.index c.at.result.now c.self.invariant c.at.ensures
    ∙ ap (feeds_before c.self.inside.text) there ∙ ap (λ xs. feeds_before xs (c.min-number.result * 128)) c.self.view_is

pub returns-in-Some-clause-few : goal.returns-in-Some-clause-few
returns-in-Some-clause-few c =
    let there : 0 + (c.in-Some.index + 1) * 128 ≡ c.min-number.result * 128 = omega (arith, c.in-Some.ensures) in
    let told = mark_at c.self.inside.text 0 c.self.inside.marks c.in-Some.index c.at.result.now c.self.invariant c.at.ensures ∙ ap (feeds_before c.self.inside.text) there in
    subst (λ n. n ≤ c.min-number.result * 128) (sym told) (feeds_within c.self.inside.text (c.min-number.result * 128))
