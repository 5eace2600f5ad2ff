use Rattle.std.proofs.Common.{◌∙◌, ap, filter}
use Rattle.wit_values.specs.Names.{named}
use Rattle.wit_values.proofs.NamesLemmas.{filter-named}
use Rattle.wit_values.proofs.names.Names.retain.Goals as goal

pub returns : goal.returns
returns g c = λ test tells. ap named (c.retain.ensures test tells) ∙ filter-named test c.self.inside.inner ∙ ap (filter (λ e. test e.1)) c.self.view_is
