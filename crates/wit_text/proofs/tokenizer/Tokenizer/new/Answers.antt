use Rattle.std.proofs.Common.{◌≡◌, ◌∙◌, Bor, List, ℕ, None, refl, sym, ap}
use Rattle.wit_text.specs.Character.{first_refused}
use Rattle.wit_text.proofs.Marks.{none_from, stripped_mark}
use Rattle.wit_text.proofs.tokenizer.Tokenizer.new.Goals as goal

pub returns-in-Some : goal.returns-in-Some
returns-in-Some c = ((c.in-Some.at, c.in-Some.kind), sym c.first_refused.ensures.value ∙ c.in-Some.is, c.new.ensures)

pub returns : goal.returns
returns c =
    let none : first_refused c.args.text.now ≡ None = sym c.first_refused.ensures.value ∙ none_from c.first_refused.result c.in_default.not-Some in (
      none,
      refl,
      ap (λ (b : Bor (List ℕ)). b.now) c.unwrap_or-rest.ensures ∙ stripped_mark c.args.text.now c.args.text c.strip_prefix.result refl c.strip_prefix.ensures.cases,
    )
