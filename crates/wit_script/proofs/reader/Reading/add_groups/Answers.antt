use Rattle.std.proofs.Common.{◌≡◌, ◌∙◌, ◌↔◌, ◌∷◌, IsTrue, List, subst, sym, rules}
use Rattle.wit_data.specs.Each.{Each}
use Rattle.wit_data.specs.Shape.{IsGroupShaped}
use Rattle.wit_data.specs.declared.unresolved.UnresolvedPackageGroup.{UnresolvedPackageGroup}
use Rattle.wit_script.proofs.BuiltLines.{shaped-told}
use Rattle.wit_script.proofs.Pushed.{bad-groups, denied, each-shaped}
use Rattle.wit_script.specs.steps.BuiltReading.{AreShapedIfPushable}
use Rattle.wit_script.proofs.reader.Reading.add_groups.Goals as goal

pub returns-then-not-are_pushable : goal.returns-then-not-are_pushable
returns-then-not-are_pushable c =
    let slice : c.as_slice.result.now ≡ c.args.groups = search rules in
    let fits : AreShapedIfPushable c.as_slice.result.now = subst AreShapedIfPushable (sym slice) c.requires.shaped in
    let told : IsTrue c.are_pushable.result ↔ Each IsGroupShaped c.as_slice.result.now = shaped-told c.as_slice.result.now c.are_pushable.result fits c.are_pushable.ensures in
    bad-groups c.args.self.now c.args.groups (λ all. denied c.are_pushable.result told c.if-not-are_pushable.true (subst (λ (l : List UnresolvedPackageGroup). Each IsGroupShaped l) (sym slice) all))

pub new-requires : goal.new-requires
new-requires c =
    let slice : c.as_slice.result.now ≡ c.args.groups = search rules in
    let groups : c.args.groups ≡ c.in-Some.main ∷ c.in-Some.deps = search rules in
    let fits : AreShapedIfPushable c.as_slice.result.now = subst AreShapedIfPushable (sym slice) c.requires.shaped in
    let told : IsTrue c.are_pushable.result ↔ Each IsGroupShaped c.as_slice.result.now = shaped-told c.as_slice.result.now c.are_pushable.result fits c.are_pushable.ensures in
    each-shaped (c.in-Some.main ∷ c.in-Some.deps) (subst (λ (l : List UnresolvedPackageGroup). Each IsGroupShaped l) (slice ∙ groups) (told.0 c.if-not-are_pushable.false))
