use Rattle.std.proofs.Common.{◌∙◌, ◌<◌, ◌++◌, ◌∷◌, [], List, ℕ, ap, sym, length, arith}
use Rattle.std.proofs.lemmas.List.{take_all, take_more}
use Rattle.wit_digraph.specs.Relation.{direct}
use Rattle.wit_graph_data.specs.Queries.{package_uses}
use Rattle.wit_queries.proofs.PackageRows.{length-rows}
use Rattle.wit_queries.proofs.package_deps.package_uses.Goals as goal

pub loop-index-preserved : goal.loop-index-preserved
loop-index-preserved c =
    let g = c.args.graph.now in
    let rows : List (List ℕ) = package_uses g.types g.interfaces g.worlds g.packages in
    let i : ℕ = c.loop-index.index in
    let below : i < length rows = omega (arith, length-rows g.types g.interfaces g.worlds g.packages) in
    c.in_ok-push.ensures.ok
    ∙ ap (λ (row : List ℕ). c.loop-index.rows ++ row ∷ []) (c.in_ok-row.ensures ∙ ap (direct rows) c.from_index.ensures)
    ∙ ap (λ (ls : List (List ℕ)). ls ++ direct rows i ∷ []) c.loop-index.invariant
    ∙ sym (take_more rows i [] below)

pub returns : goal.returns
returns c =
    let g = c.args.graph.now in
    c.loop-index.invariant
    ∙ take_all c.loop-index.index (package_uses g.types g.interfaces g.worlds g.packages) (omega (arith, length-rows g.types g.interfaces g.worlds g.packages))
