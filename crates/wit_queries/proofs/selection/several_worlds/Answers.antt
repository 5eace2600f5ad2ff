use Rattle.std.proofs.Common.{◌≡◌, ◌∙◌, ◌++◌, ℕ, List, ap, codes, string_bytes}
use Rattle.wit_names.specs.PackageName.{package_name_text}
use Rattle.wit_queries.specs.Selection.{selection_error}
use Rattle.wit_queries.proofs.selection.several_worlds.Goals as goal

pub returns-clause-ok : goal.returns-clause-ok
returns-clause-ok c =
    let text : string_bytes c.in_ok-format.field-0 ≡ codes "There are multiple worlds in `" ++ (package_name_text c.args.package.now.name ++ (codes "`; one must be explicitly chosen:" ++ string_bytes c.in_ok-worlds.worlds)) = c.in_ok-format.ensures.ok in
    c.refusal.ensures ∙ ap selection_error (text ∙ ap (λ (t : List ℕ). codes "There are multiple worlds in `" ++ (package_name_text c.args.package.now.name ++ (codes "`; one must be explicitly chosen:" ++ t))) c.in_ok-worlds.ensures.ok)
