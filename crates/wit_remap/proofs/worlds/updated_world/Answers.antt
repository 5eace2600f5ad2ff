use Rattle.std.proofs.Common.{◌∙◌, List, filter, map, ap, sym, subst, refl}
use Rattle.std.specs.List.{IsDistinct}
use Rattle.std.specs.Map.{keys_of}
use Rattle.wit_data.specs.Entries.{Entry}
use Rattle.wit_data.specs.facts.WorldKeyFacts.{same_key}
use Rattle.wit_remap_spec.specs.Image.{entry_image}
use Rattle.wit_remap.specs.steps.Fits.{EntriesFit, Fits, ItemFits}
use Rattle.wit_remap.specs.steps.Movers.{maps_of}
use Rattle.wit_remap.specs.steps.Parts.{kept_of}
use Rattle.wit_remap.proofs.Kept.{Each-filter}
use Rattle.wit_remap.proofs.worlds.updated_world.Goals as goal
use Rattle.wit_link_spec.specs.steps.Parts.{include_is_active}

pub updated_entries-requires-clause-fits : goal.updated_entries-requires-clause-fits
updated_entries-requires-clause-fits c =
    let whole = c.cut_entries.ensures ∙ ap (filter (λ (e : Entry). (kept_of c.args.part.now).items e.1)) c.replace-imports.ensures.value in
    subst (EntriesFit (Fits c.args.mover.now.offset)) (sym whole) (Each-filter (λ (e : Entry). ItemFits (Fits c.args.mover.now.offset) e.1) (λ (e : Entry). (kept_of c.args.part.now).items e.1) c.args.world.imports c.requires.fits.imports)

pub updated_entries-requires-clause-keys : goal.updated_entries-requires-clause-keys
updated_entries-requires-clause-keys c =
    let whole = c.cut_entries.ensures ∙ ap (filter (λ (e : Entry). (kept_of c.args.part.now).items e.1)) c.replace-imports.ensures.value in
    subst (λ (es : List Entry). IsDistinct same_key (keys_of (map (entry_image (maps_of c.args.mover.now) 0) es))) (sym whole) c.requires.keys.imports

pub updated_entries-requires-2-clause-fits : goal.updated_entries-requires-2-clause-fits
updated_entries-requires-2-clause-fits c =
    let whole = c.cut_entries-2.ensures ∙ ap (filter (λ (e : Entry). (kept_of c.args.part.now).items e.1)) c.replace-exports.ensures.value in
    subst (EntriesFit (Fits c.args.mover.now.offset)) (sym whole) (Each-filter (λ (e : Entry). ItemFits (Fits c.args.mover.now.offset) e.1) (λ (e : Entry). (kept_of c.args.part.now).items e.1) c.args.world.exports c.requires.fits.exports)

pub updated_entries-requires-2-clause-keys : goal.updated_entries-requires-2-clause-keys
updated_entries-requires-2-clause-keys c =
    let whole = c.cut_entries-2.ensures ∙ ap (filter (λ (e : Entry). (kept_of c.args.part.now).items e.1)) c.replace-exports.ensures.value in
    subst (λ (es : List Entry). IsDistinct same_key (keys_of (map (entry_image (maps_of c.args.mover.now) 0) es))) (sym whole) c.requires.keys.exports

pub returns : goal.returns
returns c =
    let m = maps_of c.args.mover.now in
    let w = c.args.id in
    let test = λ (e : Entry). (kept_of c.args.part.now).items e.1 in
    let imports = (c.in_ok-imports.ensures w ∙ ap (map (entry_image m w)) (c.cut_entries.ensures ∙ ap (filter test) c.replace-imports.ensures.value)) in
    let exports = (c.in_ok-exports.ensures w ∙ ap (map (entry_image m w)) (c.cut_entries-2.ensures ∙ ap (filter test) c.replace-exports.ensures.value)) in
    let none = c.replace.ensures.after ∙ c.new-3.ensures in
    let includes = c.cut_includes-includes.ensures ∙ ap (filter (include_is_active c.args.part.now.features.now)) c.replace.ensures.value in
    rw (imports, exports, none, includes, c.span-world.ensures) refl
