use Rattle.std.proofs.Common.{sym, ap, ◌∙◌, ◌++◌, ◌∷◌, [], string_bytes}
use Rattle.std.specs.Map.{lookup}
use Rattle.std.specs.Str.{bytes_eq}
use Rattle.wit_values.specs.Names.{named}
use Rattle.wit_values.proofs.NamesLemmas.{lookup-named, named-append}
use Rattle.wit_values.proofs.names.Names.push.Goals as goal

pub push-requires : goal.push-requires
push-requires g c =
    sym (lookup-named (bytes_eq (string_bytes c.args.key)) c.self.inside.inner) ∙ ap (lookup (bytes_eq (string_bytes c.args.key))) c.self.view_is ∙ c.requires

pub returns-clause-ok : goal.returns-clause-ok
returns-clause-ok g c =
    ap named c.in_ok-push.ensures.ok
    ∙ named-append c.self.inside.inner ((c.args.key, c.args.value) ∷ [])
    ∙ ap (λ l. l ++ (string_bytes c.args.key, c.args.value) ∷ []) c.self.view_is
