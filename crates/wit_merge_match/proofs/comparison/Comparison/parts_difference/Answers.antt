use Rattle.std.proofs.Common.{◌∙◌, ◌<◌, ◌≤◌, ◌++◌, List, length, ap, arith, subst, sym}
use Rattle.wit_merge_match.specs.steps.ComparisonSteps.{AreAtParts, path_of, structure_of}
use Rattle.wit_merge_match.specs.steps.Kinds.{ending_text}
use Rattle.wit_data.specs.Kind.{kind_parts}
use Rattle.wit_merge_spec.specs.Structure.{path_text}
use Rattle.wit_merge_match.specs.declared.frames.Frame.{Frame}
use Rattle.wit_merge_match.proofs.WalkTurns.{one_there, other_there, smaller_done, smaller_enter, smaller_same, turn_alike, turn_apart, turn_done, turn_enter, turn_parts, turn_same}
use Rattle.wit_merge_match.proofs.comparison.Comparison.parts_difference.Goals as goal

pub compare_held-requires-clause-one : goal.compare_held-requires-clause-one
compare_held-requires-clause-one c =
    let is = rw c.in-Some.ensures.items at c.loop-frame.invariant.walking in
    let more : c.in-Some.frame.next < length (kind_parts c.at.result.now.kind) = omega (arith, c.part_count.ensures) in
    one_there _ c.requires.sound.sides _ _ _ c.in-Some.frame is _ _ c.at.ensures c.at-then-frame-part_count.ensures more _ _ c.part_type-one.ensures c.part_type-other.ensures

pub compare_held-requires-clause-other : goal.compare_held-requires-clause-other
compare_held-requires-clause-other c =
    let is = rw c.in-Some.ensures.items at c.loop-frame.invariant.walking in
    let more : c.in-Some.frame.next < length (kind_parts c.at.result.now.kind) = omega (arith, c.part_count.ensures) in
    other_there _ c.requires.sound.sides _ _ _ c.in-Some.frame is _ _ c.at.ensures c.at-then-frame-part_count.ensures more _ _ c.part_type-one.ensures c.part_type-other.ensures

pub loop-frame-smaller-in-Same : goal.loop-frame-smaller-in-Same
loop-frame-smaller-in-Same c =
    let is = rw c.in-Some.ensures.items at c.loop-frame.invariant.walking in
    let more : c.in-Some.frame.next < length (kind_parts c.at.result.now.kind) = omega (arith, c.part_count.ensures) in
    rw (c.in_ok-push.ensures.items, c.in-Some.ensures.items) (smaller_same _ c.requires.sound.sides _ _ _ c.in-Some.frame is _ _ c.at.ensures c.at-then-frame-part_count.ensures more _ _ c.part_type-one.ensures c.part_type-other.ensures)

pub loop-frame-preserved-in-Same : goal.loop-frame-preserved-in-Same
loop-frame-preserved-in-Same c =
    let is = rw c.in-Some.ensures.items at c.loop-frame.invariant.walking in
    let more : c.in-Some.frame.next < length (kind_parts c.at.result.now.kind) = omega (arith, c.part_count.ensures) in
    record {
      sides = c.loop-frame.invariant.sides;
      classes = c.compare_held.ensures.classes;
      walking = rw c.in_ok-push.ensures.items (turn_same _ c.requires.sound.sides _ _ _ c.in-Some.frame is _ _ c.at.ensures c.at-then-frame-part_count.ensures more _ _ c.part_type-one.ensures c.part_type-other.ensures c.in-Same.ensures.compares);
    }

pub told-requires-clause-parts : goal.told-requires-clause-parts
told-requires-clause-parts c =
    let is = rw c.in-Some.ensures.items at c.loop-frame.invariant.walking in
    let more : c.in-Some.frame.next < length (kind_parts c.at.result.now.kind) = omega (arith, c.part_count.ensures) in
    subst (AreAtParts c.args.self.now.sides) (sym (c.deref.ensures.value ∙ c.in_ok-push.ensures.items)) (turn_parts _ c.requires.sound.sides _ _ _ c.in-Some.frame is _ _ c.at.ensures c.at-then-frame-part_count.ensures more _ _ c.part_type-one.ensures c.part_type-other.ensures)

pub returns-in-Apart-clause-some : goal.returns-in-Apart-clause-some
returns-in-Apart-clause-some c =
    let is = rw c.in-Some.ensures.items at c.loop-frame.invariant.walking in
    let more : c.in-Some.frame.next < length (kind_parts c.at.result.now.kind) = omega (arith, c.part_count.ensures) in
    let s = c.args.self.now.sides in
    let stack = c.deref.ensures.value ∙ c.in_ok-push.ensures.items in
    turn_apart _ c.requires.sound.sides _ _ _ c.in-Some.frame is _ _ c.at.ensures c.at-then-frame-part_count.ensures more _ _ c.part_type-one.ensures c.part_type-other.ensures c.in-Apart.ending c.in-Apart.ensures.compares _ (c.in_ok-told-in-Apart.ensures ∙ ap (λ (l : List Frame). path_text (path_of s l) ++ ending_text c.in-Apart.ending) stack)

pub loop-frame-smaller-in_ok-push-in-Unnamed : goal.loop-frame-smaller-in_ok-push-in-Unnamed
loop-frame-smaller-in_ok-push-in-Unnamed c =
    let is = rw c.in-Some.ensures.items at c.loop-frame.invariant.walking in
    let more : c.in-Some.frame.next < length (kind_parts c.at.result.now.kind) = omega (arith, c.part_count.ensures) in
    rw (c.in_ok-push-in-Unnamed.ensures.items, c.in_ok-push.ensures.items, c.in-Some.ensures.items) (smaller_enter _ c.requires.sound.sides _ _ _ c.in-Some.frame is _ _ c.at.ensures c.at-then-frame-part_count.ensures more _ _ c.part_type-one.ensures c.part_type-other.ensures c.in-Unnamed.from c.in-Unnamed.into c.in-Unnamed.ensures.compares)

pub loop-frame-preserved-in_ok-push-in-Unnamed : goal.loop-frame-preserved-in_ok-push-in-Unnamed
loop-frame-preserved-in_ok-push-in-Unnamed c =
    let is = rw c.in-Some.ensures.items at c.loop-frame.invariant.walking in
    let more : c.in-Some.frame.next < length (kind_parts c.at.result.now.kind) = omega (arith, c.part_count.ensures) in
    record {
      sides = c.loop-frame.invariant.sides;
      classes = c.compare_held.ensures.classes;
      walking = rw (c.in_ok-push-in-Unnamed.ensures.items, c.in_ok-push.ensures.items) (turn_enter _ c.requires.sound.sides _ _ _ c.in-Some.frame is _ _ c.at.ensures c.at-then-frame-part_count.ensures more _ _ c.part_type-one.ensures c.part_type-other.ensures c.in-Unnamed.from c.in-Unnamed.into c.in-Unnamed.ensures.compares);
    }

pub loop-frame-smaller : goal.loop-frame-smaller
loop-frame-smaller c =
    let is = rw c.in-Some.ensures.items at c.loop-frame.invariant.walking in
    let done : length (kind_parts c.at.result.now.kind) ≤ c.in-Some.frame.next = omega (arith, c.part_count.ensures) in
    rw c.in-Some.ensures.items (smaller_done _ c.requires.sound.sides _ _ _ c.in-Some.frame is _ c.at.ensures done)

pub loop-frame-preserved : goal.loop-frame-preserved
loop-frame-preserved c =
    let is = rw c.in-Some.ensures.items at c.loop-frame.invariant.walking in
    let done : length (kind_parts c.at.result.now.kind) ≤ c.in-Some.frame.next = omega (arith, c.part_count.ensures) in
    let s = c.args.self.now.sides in
    let classes = c.loop-frame.invariant.classes in
    record {
      sides = c.loop-frame.invariant.sides;
      classes = record {
        long = c.unite.ensures.long ∙ classes.long;
        small = omega (arith, c.unite.ensures.long, classes.small);
        descending = c.unite.ensures.descending;
        same = c.unite.ensures.kept (structure_of s) classes.same (turn_alike _ c.requires.sound.sides _ _ _ c.in-Some.frame is _ c.at.ensures done _ c.len.ensures);
      };
      walking = turn_done _ c.requires.sound.sides _ _ _ c.in-Some.frame is _ c.at.ensures done;
    }
