use Rattle.std.proofs.Common.{◌≡◌, ◌++◌, ℕ, None, get_or, map}
use Rattle.std.specs.List.{enumerate_from}
use Rattle.std.specs.Option.{option_map_or}
use Rattle.wit_merge_spec.specs.Matches.{counterpart_of}
use Rattle.wit_merge.specs.steps.MergeSteps.{merging_of}
use Rattle.wit_merge.proofs.Numbered.{behind}
use Rattle.wit_merge.proofs.parts.join_all.Given as goal

-- those so far, and those behind
abbrev pub invariant-loop-index : goal.invariant-loop-index
invariant-loop-index g l =
    let made = λ (e : ℕ × g.row.T.Denot). option_map_or (λ (p : ℕ × g.row.T.Denot). g.T.Part.with_matched (merging_of l.plan) p e.1) (counterpart_of (λ x. get_or l.found x None) l.others e.0) e.1 in
    l.made ++ map made (behind l.ours l.index) ≡ map made (enumerate_from 0 l.ours)
