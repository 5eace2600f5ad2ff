use Rattle.std.proofs.Common.{sym, ap, ◌∙◌, position}
use Rattle.std.specs.Map.{keys_of}
use Rattle.std.specs.Str.{bytes_eq}
use Rattle.wit_values.proofs.NamesLemmas.{position-named}
use Rattle.wit_values.proofs.PairsLemmas.{found, value, within}
use Rattle.wit_values.proofs.names.Names.get_index_of.Goals as goal

pub returns-clause-index : goal.returns-clause-index
returns-clause-index g c =
    let test = bytes_eq c.args.key.now in
    c.index_of.ensures.index ∙ sym (position-named test c.self.inside.inner) ∙ ap (λ es. position test (keys_of es)) c.self.view_is

pub returns-clause-found : goal.returns-clause-found
returns-clause-found g c = found (bytes_eq c.args.key.now) c.args.self.now c.index_of.result (returns-clause-index g c)

pub returns-clause-within : goal.returns-clause-within
returns-clause-within g c = within (bytes_eq c.args.key.now) c.args.self.now c.index_of.result (returns-clause-index g c)

pub returns-clause-value : goal.returns-clause-value
returns-clause-value g c = value (bytes_eq c.args.key.now) c.args.self.now c.index_of.result (returns-clause-index g c)
