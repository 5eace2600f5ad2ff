use Rattle.std.proofs.Common.{◌≡◌, ◌++◌, ◌∷◌, drop, map}
use Rattle.json.specs.Token.{begin_array}
use Rattle.json.specs.Tree.{items_tokens}
use Rattle.json.specs.Value.{items_of}
use Rattle.wit_json.proofs.writer.JsonText.details_list.Given as goal

-- what is written, and the items that are left
abbrev pub invariant-loop-item : goal.invariant-loop-item
invariant-loop-item g l =
    l.self ++ items_tokens (items_of (map g.T.WriteDetails.details (drop l.item-index l.items))) ≡ l.fn.self ++ begin_array ∷ items_tokens (items_of (map g.T.WriteDetails.details l.items))
