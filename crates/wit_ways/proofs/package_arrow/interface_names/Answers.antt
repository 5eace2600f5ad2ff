use Rattle.std.proofs.Common.{◌∙◌, ◌∷◌, ◌++◌, [], ℕ, List, Option, ap, sym}
use Rattle.wit_ways.specs.Packages.{interface_name}
use Rattle.wit_ways.proofs.Ranges.{range_next_one}
use Rattle.wit_ways.proofs.package_arrow.interface_names.Goals as goal

pub loop-index-preserved : goal.loop-index-preserved
loop-index-preserved c =
    let of = interface_name c.args.«package».now in
    let n : ℕ = c.loop-index.index in
    c.in_ok-push.ensures.ok ∙ ap (λ (name : Option (List ℕ)). c.loop-index.names ++ name ∷ []) (c.in_ok-interface_name.ensures ∙ ap of c.from_index-id.ensures)
    ∙ ap (λ (names : List (Option (List ℕ))). names ++ of n ∷ []) c.loop-index.invariant ∙ sym (range_next_one of n)
