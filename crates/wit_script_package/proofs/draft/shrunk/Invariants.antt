use Rattle.std.proofs.Common.{◌≡◌, length}
use Rattle.wit_script_package.proofs.draft.shrunk.Given as goal

-- the table as it was, with some of its lists made smaller
abbrev pub invariant-loop-at : goal.invariant-loop-at
invariant-loop-at l = record {
  same : l.deps ≡ l.fn.deps;
  end : l.at-end ≡ length l.fn.deps;
}
