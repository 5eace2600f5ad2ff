use Rattle.std.proofs.Common.{◌≡◌, map, nat_eq, take}
use Rattle.std.specs.List.{list_any, range_with_len}
use Rattle.wit_link_resources.proofs.asked.marked.Given as goal

abbrev pub invariant-loop-id : goal.invariant-loop-id
invariant-loop-id l = l.marks ≡ map (λ t. list_any (nat_eq t) (take l.id-index l.ids)) (range_with_len 0 l.count)
