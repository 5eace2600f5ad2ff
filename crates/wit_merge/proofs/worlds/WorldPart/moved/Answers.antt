use Rattle.std.proofs.Common.{◌≡◌, ◌∙◌, ℕ, List, ap, map, option_map, subst, sym, None, Some}
use Rattle.std.specs.List.{IsDistinct}
use Rattle.std.specs.Map.{keys_of}
use Rattle.wit_data.specs.Entries.{Entry}
use Rattle.wit_data.specs.facts.WorldKeyFacts.{key_is, same_key}
use Rattle.wit_data.specs.declared.world.World.{World}
use Rattle.wit_sources.specs.Span.{moved_by}
use Rattle.wit_remap_spec.specs.Image.{entry_image}
use Rattle.wit_remap.specs.steps.Fits.{EntriesFit, Fits}
use Rattle.wit_remap.specs.steps.Movers.{maps_of}
use Rattle.wit_merge_spec.specs.Merged.{merged_package}
use Rattle.wit_merge.specs.steps.MergeSteps.{merging_of}
use Rattle.wit_merge.proofs.Agrees.{entries_are}
use Rattle.wit_merge.proofs.Chosen.{told_apart}
use Rattle.wit_merge.proofs.worlds.WorldPart.moved.Goals as goal

pub updated_entries-requires-clause-fits : goal.updated_entries-requires-clause-fits
updated_entries-requires-clause-fits c =
    let whole = c.replace-imports.ensures.value ∙ ap (λ (world : World). world.imports) c.in_ok-moved.ensures in
    subst (λ (n : ℕ). EntriesFit (Fits n) c.replace-imports.result) (sym c.mover-mover.ensures.offset) (subst (EntriesFit (Fits c.args.plan.now.offset)) (sym whole) c.requires.can.fits.imports)

pub updated_entries-requires-clause-keys : goal.updated_entries-requires-clause-keys
updated_entries-requires-clause-keys c =
    let u = c.args.plan.now in
    let mover = c.mover-mover.result in
    let whole = c.replace-imports.ensures.value ∙ ap (λ (world : World). world.imports) c.in_ok-moved.ensures in
    let same = ap (map (entry_image (maps_of mover) 0)) whole
    ∙ entries_are u c.requires.ready mover c.mover-mover.ensures.new_ids c.mover-mover.ensures.values c.mover-mover.ensures.offset 0 c.args.self.now.imports c.requires.can.imports in
    subst (λ (l : List Entry). IsDistinct same_key (keys_of l)) (sym same) (told_apart (λ a b. (key_is a b).0) _ c.requires.can.imports_apart)

pub updated_entries-requires-2-clause-fits : goal.updated_entries-requires-2-clause-fits
updated_entries-requires-2-clause-fits c =
    let whole = c.replace-exports.ensures.value ∙ ap (λ (world : World). world.exports) c.in_ok-moved.ensures in
    subst (λ (n : ℕ). EntriesFit (Fits n) c.replace-exports.result) (sym c.mover-mover.ensures.offset) (subst (EntriesFit (Fits c.args.plan.now.offset)) (sym whole) c.requires.can.fits.exports)

pub updated_entries-requires-2-clause-keys : goal.updated_entries-requires-2-clause-keys
updated_entries-requires-2-clause-keys c =
    let u = c.args.plan.now in
    let mover = c.mover-mover.result in
    let whole = c.replace-exports.ensures.value ∙ ap (λ (world : World). world.exports) c.in_ok-moved.ensures in
    let same = ap (map (entry_image (maps_of mover) 0)) whole
    ∙ entries_are u c.requires.ready mover c.mover-mover.ensures.new_ids c.mover-mover.ensures.values c.mover-mover.ensures.offset 0 c.args.self.now.exports c.requires.can.exports in
    subst (λ (l : List Entry). IsDistinct same_key (keys_of l)) (sym same) (told_apart (λ a b. (key_is a b).0) _ c.requires.can.exports_apart)

pub returns : goal.returns
returns c = λ w.
    let u = c.args.plan.now in
    let m = merging_of u in
    let mover = c.mover-mover.result in
    let can = c.requires.can in
    let self = c.args.self.now in
    let kept = c.in_ok-moved.ensures in
    let brought = c.replace-imports.ensures.value ∙ ap (λ (world : World). world.imports) kept in
    let given = c.replace-exports.ensures.value ∙ ap (λ (world : World). world.exports) kept in
    let imports = (c.in_ok-imports.ensures w ∙ ap (map (entry_image (maps_of mover) w)) brought
    ∙ entries_are u c.requires.ready mover c.mover-mover.ensures.new_ids c.mover-mover.ensures.values c.mover-mover.ensures.offset w self.imports can.imports) in
    let exports = (c.in_ok-exports.ensures w ∙ ap (map (entry_image (maps_of mover) w)) given
    ∙ entries_are u c.requires.ready mover c.mover-mover.ensures.new_ids c.mover-mover.ensures.values c.mover-mover.ensures.offset w self.exports can.exports) in
    let place : Some mover.«package» ≡ Some (merged_package m can.home) = ap (λ (p : ℕ). Some p) (c.mover-mover.ensures.home can.home can.home_is can.there) in
    let home = sym (c.home.ensures None) ∙ place ∙ ap (option_map (merged_package m)) (sym can.home_is) in
    let there : moved_by mover.offset c.in_ok-moved.moved.span ≡ moved_by m.offset self.span = λ j. moved_by (c.mover-mover.ensures.offset j) (kept j).span in
    let span = c.span-moved.ensures ∙ there in
    let includes = ap (λ (world : World). world.includes) kept ∙ can.includes in
    λ j. record (kept j) { imports = imports j; exports = exports j; «package» = home j; includes = includes j; span = span j }
