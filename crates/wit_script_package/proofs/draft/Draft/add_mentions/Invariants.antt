use Rattle.std.proofs.Common.{◌≡◌, ◌++◌, fold}
use Rattle.std.specs.Vec.Iter.{into_iter_items}
use Rattle.wit_script_package.specs.steps.Mentioning.{with_mention}
use Rattle.wit_script_package.proofs.draft.Draft.add_mentions.Given as goal

-- the mentions so far are added, and the others are left
abbrev pub invariant-loop-mention : goal.invariant-loop-mention
invariant-loop-mention l = record {
  left : l.yielded ++ into_iter_items l.mention-iterator ≡ l.fn.mentions;
  added : l.self ≡ fold with_mention l.fn.self l.yielded;
}
