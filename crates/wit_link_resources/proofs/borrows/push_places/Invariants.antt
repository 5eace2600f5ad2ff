use Rattle.std.proofs.Common.{◌≡◌, ◌++◌, take}
use Rattle.wit_link_resources.proofs.borrows.push_places.Given as goal

abbrev pub invariant-loop-id : goal.invariant-loop-id
invariant-loop-id l = l.stack ≡ l.fn.stack ++ take l.id-index l.ids
