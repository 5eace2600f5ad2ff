use Rattle.std.proofs.Common.{◌∙◌, ◌++◌, ◌∷◌, [], List, ℕ, ap, sym, arith}
use Rattle.wit_queries.proofs.PackageRows.{range_with_len-more}
use Rattle.wit_queries.proofs.package_deps.numbers_below.Goals as goal

pub loop-number-preserved : goal.loop-number-preserved
loop-number-preserved c =
    c.in_ok-push.ensures.ok ∙ ap (λ (l : List ℕ). l ++ c.loop-number.number ∷ []) c.loop-number.invariant
    ∙ sym (range_with_len-more 0 c.loop-number.number c.loop-number.number (omega arith))
