use Rattle.std.proofs.Common.{◌∙◌, ◌≡◌, ◌<◌, List, ℕ, All, ap, sym, subst, length, arith}
use Rattle.std.specs.List.{flat_map, range_with_len}
use Rattle.wit_digraph.specs.PostOrder.{first_of_each, post_order}
use Rattle.wit_graph_data.specs.Queries.{package_uses}
use Rattle.wit_queries.proofs.PackageRows.{length-rows, range-below}
use Rattle.wit_queries.proofs.package_deps.topological_packages.Goals as goal

pub post_order_of_roots-requires-clause-roots : goal.post_order_of_roots-requires-clause-roots
post_order_of_roots-requires-clause-roots c =
    subst (λ (us : List ℕ). All (λ i. i < length c.as_slice.result.now) us) (sym (c.as_slice-2.ensures ∙ c.in_ok-all.ensures))
    (λ k d below. omega (arith, range-below c.len.result k d below, c.len.ensures, ap length c.as_slice.ensures))

pub returns-clause-order : goal.returns-clause-order
returns-clause-order c =
    let g = c.args.graph.now in
    let rows : c.as_slice.result.now ≡ package_uses g.types g.interfaces g.worlds g.packages = c.as_slice.ensures ∙ c.in_ok-rows.ensures in
    let all : c.as_slice-2.result.now ≡ range_with_len 0 (length g.packages) =
    c.as_slice-2.ensures ∙ c.in_ok-all.ensures
    ∙ ap (range_with_len 0) (c.len.ensures ∙ ap length c.in_ok-rows.ensures ∙ length-rows g.types g.interfaces g.worlds g.packages) in
    c.in_ok-package_ids.ensures ∙ c.as_slice-3.ensures ∙ c.in_ok-order.ensures
    ∙ ap (λ (us : List (List ℕ)). first_of_each (flat_map (post_order us) c.as_slice-2.result.now)) rows
    ∙ ap (λ (is : List ℕ). first_of_each (flat_map (post_order (package_uses g.types g.interfaces g.worlds g.packages)) is)) all
