use Rattle.std.proofs.Common.{◌≡◌, ◌∙◌, ap, sym, Some}
use Rattle.std.specs.Option.{option_copied}
use Rattle.wit_script_lines.specs.Token.{after_prefix}
use Rattle.wit_script_lines.proofs.Words.{stripped_end}
use Rattle.wit_script_lines.proofs.token.inside.Goals as goal

pub returns-clause-inside : goal.returns-clause-inside
returns-clause-inside c =
    let there : after_prefix c.args.opening.now c.args.text.now ≡ Some c.in_ok-rest.rest.now = sym c.after_prefix.ensures.after ∙ ap option_copied c.in_ok-rest.was in
    rw there (stripped_end c.in_ok-rest.rest.now c.strip_suffix.result c.strip_suffix.ensures.cases)
