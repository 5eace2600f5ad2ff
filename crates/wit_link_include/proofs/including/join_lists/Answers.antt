use Rattle.std.proofs.Common.{◌∙◌, List, ap}
use Rattle.wit_data.specs.Entries.{Entry}
use Rattle.wit_link_spec.specs.Include.{joined_entries}
use Rattle.wit_link_include.proofs.including.join_lists.Goals as goal

pub returns-clause-ok : goal.returns-clause-ok
returns-clause-ok c =
    let imports = c.in_ok-imports.ensures.ok ∙ ap (λ (entries : List Entry). joined_entries c.args.other entries c.args.imports) c.replace-current.ensures.value in
    let exports = c.in_ok-exports.ensures.ok ∙ ap (λ (entries : List Entry). joined_entries c.args.other entries c.args.exports) c.replace-current-2.ensures.value in
    λ j. record c.args.world { imports = imports j; exports = exports j }
