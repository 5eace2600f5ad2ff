use Rattle.std.proofs.Common.{◌≡◌, ◌∙◌, map, sym}
use Rattle.wit_remap_spec.specs.Joined.{joined_stability}
use Rattle.wit_merge_spec.specs.Merged.{with_entries}
use Rattle.wit_merge.specs.steps.MergeSteps.{entry_joined, merging_of}
use Rattle.wit_merge.proofs.MatchedThings.{entry_is}
use Rattle.wit_merge.proofs.SameImages.{each_same}
use Rattle.wit_merge.proofs.worlds.WorldPart.joined.Goals as goal

pub returns : goal.returns
returns c = λ w.
    let u = c.args._plan.now in
    let m = merging_of u in
    let ready = c.requires.ready in
    let can = c.requires.can in
    let from = c.args.from.now in
    let self = c.args.self.now in
    let kept = c.in_ok-joined.ensures in
    let listed : map (entry_joined c.args.counterparts.now from.imports) self.imports ≡ with_entries m w from.imports self.imports = each_same _ _ self.imports (λ e has. sym (entry_is u ready c.args.counterparts.now c.requires.counterparts w from.imports e.0 e.1 (can.imports e has))) in
    let given : map (entry_joined c.args.counterparts.now from.exports) self.exports ≡ with_entries m w from.exports self.exports = each_same _ _ self.exports (λ e has. sym (entry_is u ready c.args.counterparts.now c.requires.counterparts w from.exports e.0 e.1 (can.exports e has))) in
    let imports = (c.in_ok-imports.ensures ∙ listed) in
    let exports = (c.in_ok-exports.ensures ∙ given) in
    let was : joined_stability from.stability c.in_ok-joined.joined.stability ≡ joined_stability from.stability self.stability = λ j. joined_stability from.stability (kept j).stability in
    let stability = c.in_ok-join_stability.ensures ∙ was in
    λ j. record (kept j) { imports = imports j; exports = exports j; stability = stability j }
