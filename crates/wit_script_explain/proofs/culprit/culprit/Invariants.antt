use Rattle.std.proofs.Common.{◌≡◌, drop}
use Rattle.wit_script_explain.specs.Culprit.{no_search, searched}
use Rattle.wit_script_explain.proofs.culprit.culprit.Given as goal

-- the lines so far, and those that are left, are all
abbrev pub invariant-loop-index : goal.invariant-loop-index
invariant-loop-index l = searched l.search l.index (drop l.index l.lines) ≡ searched no_search 0 l.lines
