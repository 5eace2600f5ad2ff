use Rattle.std.proofs.Common.{◌≡◌, ◌∙◌, ℕ, List, Option, None, Some, get_or, refl, slice_get, subst, sym}
use Rattle.std.proofs.lemmas.Option.{get_or_from_slice_get, slice_get_read}
use Rattle.wit_link_spec.specs.facts.RangeFacts.{range-pushed}
use Rattle.wit_merge_match.specs.steps.Matched.{new_id_from}
use Rattle.wit_merge_match.proofs.Next.{one_next, one_place}
use Rattle.wit_merge_match.proofs.merge_ids.package_ids.Goals as goal

pub loop-there-preserved : goal.loop-there-preserved
loop-there-preserved c =
    let found = c.args.found.now in
    let first = c.args.first in
    let i = c.loop-there.there-index in
    let read = slice_get_read _ _ i c.there-item.result refl c.loop-there-test.true c.there-item.is in
    let at : c.in_ok-there.there ≡ get_or found i None = c.in_ok-there.ensures ∙ sym (get_or_from_slice_get found i c.there-item.result None (subst (λ (items : List (Option ℕ)). slice_get items i ≡ Some c.there-item.result) c.as_slice-there-items.ensures read)) in
    let next = c.loop-there.invariant.next in
    record {
      new_ids = range-pushed (new_id_from found first) i c.loop-there.new_ids c.push.new.self c.in_ok-next_new_id.field-0 c.loop-there.invariant.new_ids c.in_ok-push.ensures.ok
          (one_place found first i c.in_ok-there.there c.loop-there.next c.in_ok-next_new_id.field-0 at next c.in_ok-next_new_id.ensures.id);
      next = one_next found first i c.in_ok-there.there c.loop-there.next c.next_new_id.new.next at next c.in_ok-next_new_id.ensures.next;
    }
