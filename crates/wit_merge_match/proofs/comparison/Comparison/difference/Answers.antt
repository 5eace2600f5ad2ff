use Rattle.std.proofs.Common.{◌≡◌, ◌∙◌, List, ap, subst, sym}
use Rattle.wit_data.specs.declared.types.TypeDefKind.{TypeDefKind}
use Rattle.wit_merge_match.specs.steps.ComparisonSteps.{kind_at}
use Rattle.wit_merge_match.specs.steps.Kinds.{HeadsDiffer}
use Rattle.wit_merge_spec.specs.Structure.{Feature, head_features}
use Rattle.wit_merge_match.proofs.WalkSteps.{kind_is}
use Rattle.wit_merge_match.proofs.WalkTurns.{heads_told}
use Rattle.wit_merge_match.proofs.comparison.Comparison.difference.Goals as goal

pub returns-in_ok-from_str-in-Some-clause-some : goal.returns-in_ok-from_str-in-Some-clause-some
returns-in_ok-from_str-in-Some-clause-some c =
    let s = c.args.self.now.sides in
    let heads : HeadsDiffer (kind_at s.from.now c.args.from) (kind_at s.into.now c.args.into) c.in-Some.ending =
    subst (λ (k : TypeDefKind). HeadsDiffer k (kind_at s.into.now c.args.into) c.in-Some.ending) (sym (kind_is s.from.now c.args.from c.at.result.now c.at.ensures))
    (subst (λ (k : TypeDefKind). HeadsDiffer c.at.result.now.kind k c.in-Some.ending) (sym (kind_is s.into.now c.args.into c.at-2.result.now c.at-2.ensures)) c.in-Some.ensures.some) in
    heads_told s c.requires.sound.sides c.args.from c.args.into c.requires.from c.requires.into c.in-Some.ending heads _ (c.in_ok-from_str-in-Some.ensures.ok ∙ c.text.ensures)

pub parts_difference-requires-clause-heads : goal.parts_difference-requires-clause-heads
parts_difference-requires-clause-heads c =
    let s = c.args.self.now.sides in
    ap head_features (kind_is s.from.now c.args.from c.at.result.now c.at.ensures) ∙ (c.in-None.ensures.none ∙ sym (ap head_features (kind_is s.into.now c.args.into c.at-2.result.now c.at-2.ensures)))
