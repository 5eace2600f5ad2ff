use Rattle.std.proofs.Common.{◌∙◌, ℕ, List, length, slice_get, sym, ap}
use Rattle.std.proofs.lemmas.Option.{none-some}
use Rattle.wit_link_spec.specs.facts.RangeFacts.{range-at, range-read}
use Rattle.wit_merge_spec.specs.Merged.{merged_package}
use Rattle.wit_merge.specs.steps.MergeSteps.{merging_of}
use Rattle.wit_merge.proofs.merge_plan.MergePlan.merged_package.Goals as goal

pub returns-in-Some : goal.returns-in-Some
returns-in-Some c below =
    let self = c.args.self.now in
    range-read (merged_package (merging_of self)) (length self.other.now.packages) c.args.id self.merge_ids.now.packages c.in-Some.new.now (λ j. (c.requires.merge_ids j).packages)
    (ap (slice_get self.merge_ids.now.packages) (sym c.index.ensures) ∙ sym c.in-Some.ensures)

pub returns-in-None : goal.returns-in-None
returns-in-None c below =
    let self = c.args.self.now in
    let there = ap (λ (l : List ℕ). slice_get l c.args.id) (λ j. (c.requires.merge_ids j).packages) ∙ range-at (merged_package (merging_of self)) (length self.other.now.packages) c.args.id below in
    absurd (none-some _ (c.in-None.ensures ∙ ap (slice_get self.merge_ids.now.packages) c.index.ensures ∙ there))
