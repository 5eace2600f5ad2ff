use Rattle.std.proofs.Common.{◌≡◌, ◌∙◌, ◌++◌, Some, drop, sym, ap}
use Rattle.std.specs.Char.{encode_utf8, len_utf8}
use Rattle.std.specs.List.{slice_get}
use Rattle.std.specs.Str.{chars}
use Rattle.wit_text.specs.Front.{first_char, front_by, token_at}
use Rattle.wit_text.proofs.Fits.{past_first, read_fits}
use Rattle.wit_text.proofs.front.read_front.Goals as goal

pub returns-clause-value : goal.returns-clause-value
returns-clause-value c =
    let step = c.in_ok-first.ensures.steps in
    let all = c.chars-characters.ensures.rest in
    let whole : c.args.text.now ≡ encode_utf8 c.in_ok-first.first ++ c.as_str.result.now =
    sym all ∙ step.0 ∙ ap (λ xs. encode_utf8 c.in_ok-first.first ++ xs) (sym c.as_str.ensures) in
    let first : first_char c.args.text.now ≡ Some c.in_ok-first.first = sym (step.2 ∙ ap (λ xs. slice_get (chars xs) 0) all) in
    let past : drop (len_utf8 c.in_ok-first.first) c.args.text.now ≡ c.as_str.result.now =
    past_first c.args.text.now c.as_str.result.now c.in_ok-first.first c.utf8.text whole in
    ap Some (c.token_at.ensures ∙ ap (λ xs. token_at c.args.text.now c.in_ok-first.first xs) (sym past))
    ∙ sym (ap (front_by c.args.text.now) first)

pub returns-clause-fits : goal.returns-clause-fits
returns-clause-fits c = read_fits c.args.text.now c.token_at.result c.utf8.text (sym (returns-clause-value c))
