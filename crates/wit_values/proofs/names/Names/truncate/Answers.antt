use Rattle.std.proofs.Common.{ap, sym, ◌∙◌, take, string_bytes}
use Rattle.std.proofs.lemmas.List.{take-map}
use Rattle.wit_values.specs.Names.{named}
use Rattle.wit_values.proofs.names.Names.truncate.Goals as goal

pub returns : goal.returns
returns g c =
    ap named c.truncate.ensures
    ∙ sym (take-map (λ e. (string_bytes e.0, e.1)) c.args.len c.self.inside.inner)
    ∙ ap (take c.args.len) c.self.view_is
