use Rattle.std.proofs.Common.{◌≡◌, ◌+◌, ◌<◌, [], ◌∷◌, ◌++◌, Some, None, length, drop, sym, ap, ◌∙◌, subst, arith, rules}
use Rattle.std.proofs.lemmas.List.{drop_all, drop_more}
use Rattle.json.specs.Tree.{json_tokens, items_tokens, members_tokens}
use Rattle.json.specs.Value.{value_view, items_view, members_view}
use Rattle.json.proofs.Trees.{item_smaller, member_smaller, items_before, items_before-no_items, members_before, members_before-no_members}
use Rattle.wit_json_layout.specs.Known.{known_items, known_members}
use Rattle.wit_json_layout.specs.Layouts.{part}
use Rattle.wit_json_layout.proofs.Grown.{one_more_item, one_more_member, member_kept, member_dropped}
use Rattle.wit_json_layout.proofs.known.+known.Goals.{known_members-in-Some+in_ok-part+in_ok-push, known_members-in_default}
use Rattle.wit_json_layout.proofs.known.+known.Goals as goal

pub known_items-known_part-requires : goal.known_items-known_part-requires
known_items-known_part-requires t c =
    let xs = c.deref-item-items.result.now in
    let x = c.item-item.result in
    let smaller : length (json_tokens (value_view x)) < length (items_tokens (items_view c.args.items.now.items)) =
    subst (λ ys. length (json_tokens (value_view x)) < length (items_tokens (items_view ys))) c.deref-item-items.ensures.value
    (subst (λ y. length (json_tokens (value_view y)) < length (items_tokens (items_view xs))) (sym c.item-item.is) (item_smaller xs c.loop-item.item-index x (omega arith))) in
    search rules

pub known_items-loop-item-preserved : goal.known_items-loop-item-preserved
known_items-loop-item-preserved t c =
    let l = c.loop-item in
    let xs = c.deref-item-items.result.now in
    let x = c.item-item.result in
    let here : drop l.item-index xs ≡ x ∷ drop (l.item-index + 1) xs = drop_more xs l.item-index x (omega arith) ∙ ap (λ y. y ∷ drop (l.item-index + 1) xs) (sym c.item-item.is) in
    let rest = known_items c.args.layout (items_view (drop (l.item-index + 1) xs)) in
    let pushed : c.push.new.self.items ≡ l.known.items ++ c.in_ok-part.part ∷ [] = search rules in
    ap (λ vs. items_before vs rest) pushed
    ∙ one_more_item l.known.items c.in_ok-part.part _ rest c.in_ok-part.ensures
    ∙ ap (λ ys. items_before l.known.items (known_items c.args.layout (items_view ys))) (sym here) ∙ l.invariant

pub known_items-returns : goal.known_items-returns
known_items-returns t c =
    let l = c.loop-item in
    let xs = c.deref-item-items.result.now in
    let none : drop l.item-index xs ≡ [] = drop_all _ xs (omega arith) in
    sym (items_before-no_items l.known.items)
    ∙ ap (λ ys. items_before l.known.items (known_items c.args.layout (items_view ys))) (sym none) ∙ l.invariant
    ∙ ap (λ ys. known_items c.args.layout (items_view ys)) c.deref-item-items.ensures.value

pub known_members-known_part-requires : goal.known_members-known_part-requires
known_members-known_part-requires t c =
    let xs = c.deref-member-items.result.now in
    let x = c.member-item.result in
    let smaller : length (json_tokens (value_view x.1)) < length (members_tokens (members_view c.args.members.now.items)) =
    subst (λ ys. length (json_tokens (value_view x.1)) < length (members_tokens (members_view ys))) c.deref-member-items.ensures.value
    (subst (λ y. length (json_tokens (value_view y.1)) < length (members_tokens (members_view xs))) (sym c.member-item.is) (member_smaller xs c.loop-member.member-index x (omega arith))) in
    search rules

pub known_members-loop-member-preserved : goal.known_members-loop-member-preserved
known_members-loop-member-preserved t c =
    let l = c.loop-member in
    let xs = c.deref-member-items.result.now in
    let x = c.member-item.result in
    let here : drop l.member-index xs ≡ x ∷ drop (l.member-index + 1) xs = drop_more xs l.member-index x (omega arith) ∙ ap (λ y. y ∷ drop (l.member-index + 1) xs) (sym c.member-item.is) in
    let rest = known_members c.args.layout (members_view (drop (l.member-index + 1) xs)) in
    let all = ap (λ ys. members_before l.known.items (known_members c.args.layout (members_view ys))) (sym here) ∙ l.invariant in
    elim c.match-part.branch [
      | known_members-in-Some+in_ok-part+in_ok-push w ↦
          let pushed : c.match-part.known.items ≡ l.known.items ++ (x.0, w.in_ok-part.part) ∷ [] = search rules in
          let known : part c.args.layout x.0.now ≡ Some w.in-Some.inner = grind arith in
          ap (λ vs. members_before vs rest) pushed
          ∙ one_more_member l.known.items x.0 w.in_ok-part.part _ rest w.in_ok-part.ensures
          ∙ ap (members_before l.known.items) (member_kept c.args.layout w.in-Some.inner x.0.now (value_view x.1) rest known)
          ∙ all
      | known_members-in_default w ↦
          let unknown : part c.args.layout x.0.now ≡ None = grind arith in
          ap (λ it. members_before it.items rest) w.known-is
          ∙ ap (members_before l.known.items) (member_dropped c.args.layout x.0.now (value_view x.1) rest unknown)
          ∙ all
    ]

pub known_members-returns : goal.known_members-returns
known_members-returns t c =
    let l = c.loop-member in
    let xs = c.deref-member-items.result.now in
    let none : drop l.member-index xs ≡ [] = drop_all _ xs (omega arith) in
    sym (members_before-no_members l.known.items)
    ∙ ap (λ ys. members_before l.known.items (known_members c.args.layout (members_view ys))) (sym none) ∙ l.invariant
    ∙ ap (λ ys. known_members c.args.layout (members_view ys)) c.deref-member-items.ensures.value
