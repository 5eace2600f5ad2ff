use Rattle.std.proofs.Common.{◌≡◌, ◌∙◌, ℕ, Option, None, Some, ap, get_or, rules, slice_get, sym, unwrap_or}
use Rattle.std.proofs.lemmas.Option.{unwrap_or-slice_get}
use Rattle.wit_merge_match.proofs.comparison.Sides.are_matched.Goals as goal

pub returns-in-None : goal.returns-in-None
returns-in-None c =
    let matches = c.args.self.now.matches.now in
    let none : slice_get matches c.args.from ≡ None = search rules in
    let nothing : get_or matches c.args.from None ≡ None = sym (unwrap_or-slice_get matches c.args.from None) ∙ ap (λ (o : Option (Option ℕ)). unwrap_or o None) none in
    (λ true_is. (cc), λ same. let both : None ≡ Some c.args.into = sym nothing ∙ same in cc)
