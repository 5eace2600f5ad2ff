use Rattle.std.proofs.Common.{◌∙◌, List, ℕ, ap, slice_get, sym}
use Rattle.wit_data.specs.declared.interface.Interface.{Interface}
use Rattle.wit_queries.specs.RemainingUses.{other_packages}
use Rattle.wit_queries.proofs.PackageRows.{row_of}
use Rattle.wit_queries.proofs.package_deps.package_direct_deps.Goals as goal

pub returns : goal.returns
returns c =
    let g = c.args.graph.now in
    ap (λ (is : List Interface). other_packages is c.args.id c.of.result) c.as_slice.ensures
    ∙ ap (λ (named : List ℕ). other_packages g.interfaces c.args.id named) c.of.ensures
    ∙ sym (row_of g.types g.interfaces g.worlds g.packages c.args.id c.at-package.result.now (ap (slice_get g.packages) (sym c.index.ensures) ∙ c.at-package.ensures))
