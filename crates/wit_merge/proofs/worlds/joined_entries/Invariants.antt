use Rattle.std.proofs.Common.{◌≡◌, ◌++◌, map}
use Rattle.wit_merge.specs.steps.MergeSteps.{entry_joined}
use Rattle.wit_merge.proofs.worlds.joined_entries.Given as goal

-- those so far, and those to come
abbrev pub invariant-loop-key : goal.invariant-loop-key
invariant-loop-key l = l.joined ++ map (entry_joined l.counterparts l.from) l.key-iterator ≡ map (entry_joined l.counterparts l.from) l.into
