use Rattle.std.proofs.Common.{◌∙◌, arith, subst, sym}
use Rattle.wit_merge_match.specs.steps.Classes.{AreSame, IsDescending}
use Rattle.wit_merge_match.proofs.ClassSteps.{set_descending, set_same}
use Rattle.wit_merge_match.proofs.classes.unite.Goals as goal

pub returns-then-one-other-clause-kept : goal.returns-then-one-other-clause-kept
returns-then-one-other-clause-kept c = λ f same equal.
    let one = c.leader_of-one.ensures.kept f same in
    let both = c.leader_of-other.ensures.kept f one in
    let alike = sym (c.leader_of-other.ensures.same f one) ∙ (sym equal ∙ c.leader_of-one.ensures.same f same) in
    subst (AreSame f) (sym c.set.ensures) (set_same f c.leader_of-other.new.leaders c.leader_of-other.result c.leader_of-one.result both alike)

pub returns-else-one-other-clause-descending : goal.returns-else-one-other-clause-descending
returns-else-one-other-clause-descending c =
    subst IsDescending (sym c.set-else-one-other.ensures) (set_descending c.leader_of-other.new.leaders c.leader_of-one.result c.leader_of-other.result c.leader_of-other.ensures.descending (omega arith))

pub returns-else-one-other-clause-kept : goal.returns-else-one-other-clause-kept
returns-else-one-other-clause-kept c = λ f same equal.
    let one = c.leader_of-one.ensures.kept f same in
    let both = c.leader_of-other.ensures.kept f one in
    let alike = sym (c.leader_of-one.ensures.same f same) ∙ (equal ∙ c.leader_of-other.ensures.same f one) in
    subst (AreSame f) (sym c.set-else-one-other.ensures) (set_same f c.leader_of-other.new.leaders c.leader_of-one.result c.leader_of-other.result both alike)
