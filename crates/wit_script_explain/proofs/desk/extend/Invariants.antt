use Rattle.std.proofs.Common.{◌≡◌, ◌++◌, take}
use Rattle.wit_script_explain.proofs.desk.extend.Given as goal

abbrev pub invariant-loop-item : goal.invariant-loop-item
invariant-loop-item l = l.items ≡ l.initial.items ++ take l.item-index l.more
