use Rattle.std.proofs.Common.{◌≡◌, ◌∙◌, ◌+◌, ℕ, ap, arith, subst, sym}
use Rattle.wit_data.specs.declared.types.TypeDefKind.{TypeDefKind}
use Rattle.wit_merge_match.specs.steps.ComparisonSteps.{HasClasses, kind_at, structure_of}
use Rattle.wit_merge_match.specs.steps.Kinds.{HeadsDiffer}
use Rattle.wit_merge_match.proofs.CompareSteps.{from_is, into_is, kinds_apart, of_from, of_into}
use Rattle.wit_merge_match.proofs.WalkSteps.{kind_is}
use Rattle.wit_merge_match.proofs.comparison.Sides.compare_unnamed.Goals.{After-leader_of-other}
use Rattle.wit_merge_match.proofs.comparison.Sides.compare_unnamed.Goals as goal

pub overflow_add-len : goal.overflow_add-len
overflow_add-len c = omega (arith, c.len.ensures, c.requires.classes.small, c.requires.classes.long, c.requires.into)

-- after the leaders of both
kept : (c : After-leader_of-other) → HasClasses c.args.self.now c.leader_of-other.new.leaders
kept c =
    let f = structure_of c.args.self.now in
    record {
      long = c.leader_of-other.ensures.long ∙ (c.leader_of-one.ensures.long ∙ c.requires.classes.long);
      small = omega (arith, c.leader_of-other.ensures.long, c.leader_of-one.ensures.long, c.requires.classes.small);
      descending = c.leader_of-other.ensures.descending;
      same = c.leader_of-other.ensures.kept f (c.leader_of-one.ensures.kept f c.requires.classes.same);
    }

pub returns-then-one-other-clause-classes : goal.returns-then-one-other-clause-classes
returns-then-one-other-clause-classes c = kept (goal.at.returns-then-one-other-clause-classes c).After-leader_of-other

pub returns-in-Some-clause-classes : goal.returns-in-Some-clause-classes
returns-in-Some-clause-classes c = kept (goal.at.returns-in-Some-clause-classes c).After-leader_of-other

pub returns-in-None-clause-classes : goal.returns-in-None-clause-classes
returns-in-None-clause-classes c = kept (goal.at.returns-in-None-clause-classes c).After-leader_of-other

pub returns-then-one-other-clause-compares : goal.returns-then-one-other-clause-compares
returns-then-one-other-clause-compares c =
    let s = c.args.self.now in
    let f = structure_of s in
    let t = c.args.from in
    let t' = c.args.into in
    let kept = c.leader_of-one.ensures.kept f c.requires.classes.same in
    let one : c.leader_of-one.result ≡ c.leader_of-other.result = omega arith in
    let into : f (c.len.result + t') ≡ f c.leader_of-other.result = c.leader_of-other.ensures.same f kept in
    from_is s c.requires.sides t t' c.requires.unnamed
    ∙ (sym (of_from s c.requires.sides t t' c.requires.from)
    ∙ (c.leader_of-one.ensures.same f c.requires.classes.same
    ∙ (ap f one ∙ (sym into ∙ (ap (λ (n : ℕ). f (n + t')) c.len.ensures ∙ (of_into s c.requires.sides t t' ∙ sym (into_is s c.requires.sides t t' c.requires.unnamed_there)))))))

pub returns-in-Some-clause-compares : goal.returns-in-Some-clause-compares
returns-in-Some-clause-compares c =
    let s = c.args.self.now in
    let heads : HeadsDiffer (kind_at s.from.now c.args.from) (kind_at s.into.now c.args.into) c.in-Some.ending =
    subst (λ (k : TypeDefKind). HeadsDiffer k (kind_at s.into.now c.args.into) c.in-Some.ending) (sym (kind_is s.from.now c.args.from c.at.result.now c.at.ensures))
    (subst (λ (k : TypeDefKind). HeadsDiffer c.at.result.now.kind k c.in-Some.ending) (sym (kind_is s.into.now c.args.into c.at-2.result.now c.at-2.ensures)) c.in-Some.ensures.some) in
    kinds_apart s c.requires.sides c.args.from c.args.into c.requires.unnamed c.requires.unnamed_there c.requires.from c.requires.into c.in-Some.ending heads
