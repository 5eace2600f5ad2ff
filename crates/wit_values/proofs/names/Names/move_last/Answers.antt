use Rattle.std.proofs.Common.{◌≡◌, ◌∙◌, None, Some, ap, position}
use Rattle.std.specs.Map.{keys_of}
use Rattle.std.specs.Str.{bytes_eq}
use Rattle.wit_values.specs.Names.{named}
use Rattle.wit_values.specs.Pairs.{last_from}
use Rattle.wit_values.proofs.NamesLemmas.{last-named, moved_at_key, unmoved_at_key}
use Rattle.wit_values.proofs.names.Names.move_last.Goals as goal

pub returns-in-Some : goal.returns-in-Some
returns-in-Some g c =
    let at : position (bytes_eq c.args.key.now) (keys_of c.args.self.now) ≡ Some c.in-Some.index = cc in
    ap named c.move_last.ensures ∙ last-named c.self.inside.inner c.in-Some.index ∙ ap (λ es. last_from es c.in-Some.index) c.self.view_is ∙ moved_at_key c.args.key.now c.args.self.now c.in-Some.index at

pub returns-in_default : goal.returns-in_default
returns-in_default g c =
    let none : position (bytes_eq c.args.key.now) (keys_of c.args.self.now) ≡ None = cc in
    unmoved_at_key c.args.key.now c.args.self.now none
