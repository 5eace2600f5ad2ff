use Rattle.std.proofs.Common.{◌≡◌, ◌∙◌, ℕ, None, arith, below_more, get_or, sym}
use Rattle.wit_merge_match.proofs.NoPairs.{none_past, none_where}
use Rattle.wit_merge_match.proofs.structures.any_matched.Goals as goal

pub loop-index-preserved : goal.loop-index-preserved
loop-index-preserved g c = below_more (λ (k : ℕ). get_or c.args.found.now k None ≡ None) c.loop-index.index c.loop-index.invariant (sym c.match_at.ensures ∙ none_where c.match_at.result c.is_some.result c.is_some.ensures c.if-is_some.false)

pub returns : goal.returns
returns g c = λ _. none_past c.args.found.now c.loop-index.index (omega arith) c.loop-index.invariant
