use Rattle.std.proofs.Common.{◌∙◌, ◌+◌, ℕ, List, ap, drop, sym, fold}
use Rattle.wit_ways.specs.Conflicts.{with_name}
use Rattle.wit_ways.proofs.Ranges.{drop_next}
use Rattle.wit_ways.proofs.conflict.add_names.Goals as goal

pub loop-index-preserved : goal.loop-index-preserved
loop-index-preserved c =
    let more = c.args.more.now in
    let index : ℕ = c.loop-index.index in
    ap (λ (names : List (List ℕ)). fold with_name names (drop (index + 1) more)) c.in_ok-insert.ensures.ok
    ∙ sym (ap (fold with_name c.loop-index.names) (drop_next more index c.text_at.result.now c.text_at.ensures)) ∙ c.loop-index.invariant
