use Rattle.std.proofs.Common.{◌≡◌, drop, length}
use Rattle.json.specs.Tree.{json_tokens, items_tokens, members_tokens}
use Rattle.json.specs.Value.{value_view, items_view, members_view}
use Rattle.json.proofs.Trees.{items_before, members_before}
use Rattle.wit_json_layout.specs.Known.{known_items, known_members}
use Rattle.wit_json_layout.proofs.known.+known.Given as goal

abbrev pub decreases-known_part : goal.decreases-known_part
decreases-known_part l = length (json_tokens (value_view l.value.now))

abbrev pub decreases-known_items : goal.decreases-known_items
decreases-known_items l = length (items_tokens (items_view l.items.now.items))

abbrev pub decreases-known_members : goal.decreases-known_members
decreases-known_members l = length (members_tokens (members_view l.members.now.items))

-- what is known of the items so far, and of those that are left, is what is known of all
abbrev pub invariant-known_items-loop-item : goal.invariant-known_items-loop-item
invariant-known_items-loop-item l =
    items_before l.known.items (known_items l.layout (items_view (drop l.item-index l.item-items)))
    ≡ known_items l.layout (items_view l.item-items)

abbrev pub invariant-known_members-loop-member : goal.invariant-known_members-loop-member
invariant-known_members-loop-member l =
    members_before l.known.items (known_members l.layout (members_view (drop l.member-index l.member-items)))
    ≡ known_members l.layout (members_view l.member-items)
