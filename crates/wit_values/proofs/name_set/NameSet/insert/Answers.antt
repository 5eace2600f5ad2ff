use Rattle.std.proofs.Common.{ap, ◌∙◌, ◌++◌, ◌∷◌, [], List, ℕ, string_bytes, if◌then◌else◌}
use Rattle.std.specs.List.{list_any}
use Rattle.std.specs.Str.{bytes_eq}
use Rattle.wit_values.specs.NameSet.{texts_of}
use Rattle.wit_values.proofs.NameSetLemmas.{texts-insert}
use Rattle.wit_values.proofs.name_set.NameSet.insert.Goals as goal

pub returns-clause-ok : goal.returns-clause-ok
returns-clause-ok c =
    ap texts_of (c.in_ok-insert.ensures.keys) ∙ texts-insert c.self.inside.inner.keys c.in_ok-owned.owned
    ∙ ap (λ (xs : List (List ℕ)). if list_any (bytes_eq (string_bytes c.in_ok-owned.owned)) xs then xs else xs ++ string_bytes c.in_ok-owned.owned ∷ []) c.self.view_is
    ∙ ap (λ (t : List ℕ). if list_any (bytes_eq t) c.args.self.now then c.args.self.now else c.args.self.now ++ t ∷ []) c.in_ok-owned.ensures.ok
