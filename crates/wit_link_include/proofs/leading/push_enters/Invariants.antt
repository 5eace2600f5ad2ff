use Rattle.std.proofs.Common.{◌≡◌, ◌++◌, map, take}
use Rattle.wit_link_include.specs.declared.leading.Step.TheVariants as step
use Rattle.wit_link_include.proofs.leading.push_enters.Given as goal

-- those into the first ones have been added
abbrev pub invariant-loop-id : goal.invariant-loop-id
invariant-loop-id l = l.stack ≡ l.fn.stack ++ map step.Enter (take l.id-index l.ids)
