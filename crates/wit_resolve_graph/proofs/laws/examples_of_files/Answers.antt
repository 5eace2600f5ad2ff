use Rattle.std.proofs.Common.{◌≤◌, lit≤, arith}
use Rattle.wit_resolve_graph.proofs.laws.examples_of_files.Goals as goal

pub returns : goal.returns
returns c = record {
  merged_too_far = lit≤ tt;
  merged_fit = λ past. too_many past;
  not_memory = λ past. past;
  too_far = lit≤ tt;
  both_too_far = lit≤ tt;
  fit = λ past. too_many past;
  both_fit = λ past. too_many past;
}
  where
    too_many : 4294967296 ≤ 4294967295 → ⊥
    too_many past = absurd (omega (arith, past))
