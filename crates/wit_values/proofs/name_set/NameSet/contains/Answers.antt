use Rattle.std.proofs.Common.{sym, ap, ◌∙◌}
use Rattle.std.specs.List.{list_any}
use Rattle.std.specs.Str.{bytes_eq}
use Rattle.wit_values.proofs.NameSetLemmas.{list_any-texts}
use Rattle.wit_values.proofs.name_set.NameSet.contains.Goals as goal

pub returns : goal.returns
returns c =
    c.contains.ensures ∙ sym (list_any-texts (bytes_eq c.args.text.now) c.self.inside.inner.keys) ∙ ap (list_any (bytes_eq c.args.text.now)) c.self.view_is
