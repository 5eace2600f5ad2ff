use Rattle.std.proofs.Common.{◌≡◌, ◌∙◌, None, Some, ap, position, remove, slice_get, sym}
use Rattle.std.specs.Map.{keys_of, values_of}
use Rattle.std.specs.Str.{bytes_eq}
use Rattle.wit_values.specs.Names.{named}
use Rattle.wit_values.proofs.NamesLemmas.{nothing_at_key, remove-named, remove_at_key, values-named}
use Rattle.wit_values.proofs.PairsLemmas.{value_at}
use Rattle.wit_values.proofs.names.Names.shift_remove.Goals as goal

pub returns-in_err-index-clause-others : goal.returns-in_err-index-clause-others
returns-in_err-index-clause-others g c =
    let none : position (bytes_eq c.args.key.now) (keys_of c.args.self.now) ≡ None = sym c.in_err-index.ensures.index in
    (nothing_at_key c.args.key.now c.args.self.now none).0

pub returns-clause-value : goal.returns-clause-value
returns-clause-value g c =
    let i = c.in_ok-index.index in
    sym (value_at c.self.inside.inner i c.remove.result.0 c.remove.result.1 c.remove.ensures.pair) ∙ ap (λ l. slice_get l i) (sym (values-named c.self.inside.inner) ∙ ap values_of c.self.view_is) ∙ c.in_ok-index.ensures.value

pub returns-clause-others : goal.returns-clause-others
returns-clause-others g c =
    let i = c.in_ok-index.index in
    let at : position (bytes_eq c.args.key.now) (keys_of c.args.self.now) ≡ Some i = sym c.in_ok-index.ensures.index in
    ap named c.remove.ensures.others ∙ remove-named c.self.inside.inner i ∙ ap (λ es. remove es i) c.self.view_is ∙ remove_at_key c.args.key.now c.args.self.now i at
