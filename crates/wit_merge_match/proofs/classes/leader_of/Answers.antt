use Rattle.std.proofs.Common.{◌≡◌, ◌∙◌, ◌≤◌, ℕ, List, ap, arith, length, subst, sym}
use Rattle.wit_merge_match.specs.steps.Classes.{AreSame, IsDescending}
use Rattle.wit_merge_match.proofs.ClassSteps.{set_descending, set_long, set_same}
use Rattle.wit_merge_match.proofs.classes.leader_of.Goals as goal

pub loop-at-preserved : goal.loop-at-preserved
loop-at-preserved c =
    let leaders = c.loop-at.leaders in
    let at = c.loop-at.at in
    let next = c.at-next.result.now in
    let further = c.at-further.result.now in
    let kept = c.loop-at.invariant in
    let down : next ≤ at = kept.descending at next c.at-next.ensures in
    let down_more : further ≤ next = kept.descending next further c.at-further.ensures in
    let long : length c.set.new.self ≡ length leaders = ap (λ (l : List ℕ). length l) c.set.ensures ∙ set_long leaders at further in
    record {
      there = omega (arith, long, kept.there, down, down_more);
      long = long ∙ kept.long;
      descending = subst IsDescending (sym c.set.ensures) (set_descending leaders at further kept.descending (omega (arith, down, down_more)));
      kept = λ f same. subst (AreSame f) (sym c.set.ensures) (set_same f leaders at further (kept.kept f same) (kept.kept f same at next c.at-next.ensures ∙ kept.kept f same next further c.at-further.ensures));
      same = λ f same. kept.same f same ∙ (kept.kept f same at next c.at-next.ensures ∙ kept.kept f same next further c.at-further.ensures);
    }
