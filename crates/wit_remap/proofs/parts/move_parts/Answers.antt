use Rattle.std.proofs.Common.{◌≡◌, ℕ, List, length, refl, sym, subst}
use Rattle.std.specs.List.{enumerate_from}
use Rattle.wit_data.specs.Each.{Each}
use Rattle.wit_data.specs.declared.types.TypeDef.{TypeDef}
use Rattle.wit_data.specs.declared.world.World.{World}
use Rattle.wit_remap_spec.specs.Selected.{selected_with_index}
use Rattle.wit_link_spec.specs.steps.NewThings.{is_new}
use Rattle.wit_remap.specs.steps.Fits.{Fits, TypeFits, WorldFits, HasKeysApart}
use Rattle.wit_remap.specs.facts.GrownFacts.{Grown-then}
use Rattle.wit_remap.specs.steps.Movers.{maps_of}
use Rattle.wit_remap.specs.steps.Parts.{kept_of}
use Rattle.wit_remap.proofs.Kept.{Each-enumerated, Each-filter}
use Rattle.wit_remap.proofs.parts.move_parts.Goals as goal

pub add_types-requires : goal.add_types-requires
add_types-requires c = subst (λ (types : List TypeDef). Each (TypeFits (Fits c.args.mover.now.offset)) types) (sym c.replace-types.ensures.value) c.requires.types

pub updated_worlds-requires-clause-fits : goal.updated_worlds-requires-clause-fits
updated_worlds-requires-clause-fits c =
    let fit : Each (WorldFits (Fits c.args.mover.now.offset)) c.replace-worlds.result = subst (λ (worlds : List World). Each (WorldFits (Fits c.args.mover.now.offset)) worlds) (sym c.replace-worlds.ensures.value) c.requires.worlds in
    subst (λ (es : List (ℕ × World)). Each (λ (e : ℕ × World). WorldFits (Fits c.args.mover.now.offset) e.1) es) (sym c.in_ok-own.ensures)
    (Each-filter (λ (e : ℕ × World). WorldFits (Fits c.args.mover.now.offset) e.1) _ (enumerate_from 0 c.replace-worlds.result) (Each-enumerated (WorldFits (Fits c.args.mover.now.offset)) 0 c.replace-worlds.result fit))

pub updated_worlds-requires-clause-keys : goal.updated_worlds-requires-clause-keys
updated_worlds-requires-clause-keys c =
    let same : c.in_ok-own.own ≡ selected_with_index (is_new (length c.args.graph.now.worlds) c.args.mover.now.new_ids.now.worlds) c.args.unresolved.worlds =
    rw (c.in_ok-own.ensures, c.from_index-first.ensures, c.len.ensures, c.as_slice.ensures, c.in_ok-add_types.ensures.ok, c.replace-worlds.ensures.value) refl in
    subst (λ (es : List (ℕ × World)). Each (λ (e : ℕ × World). HasKeysApart (maps_of c.args.mover.now) (kept_of c.args.part.now) e.1) es) (sym same) c.requires.keys

pub world_table-requires : goal.world_table-requires
world_table-requires c =
    rw (c.as_slice-2.ensures, c.in_ok-own.ensures, c.from_index-first.ensures, c.len.ensures, c.as_slice.ensures, c.in_ok-add_types.ensures.ok, c.replace-worlds.ensures.value) c.requires.world_names

pub add_with_worlds-requires-clause-new : goal.add_with_worlds-requires-clause-new
add_with_worlds-requires-clause-new c = rw c.in_ok-add_types.ensures.ok c.requires.new

pub add_with_worlds-requires-clause-fits : goal.add_with_worlds-requires-clause-fits
add_with_worlds-requires-clause-fits c = c.requires.interfaces

pub add_with_worlds-requires-clause-names : goal.add_with_worlds-requires-clause-names
add_with_worlds-requires-clause-names c = rw c.in_ok-add_types.ensures.ok c.requires.interface_names

pub returns-in_err-add_types-clause-grown : goal.returns-in_err-add_types-clause-grown
returns-in_err-add_types-clause-grown c = c.add_types.ensures.grown

pub returns-in_err-own-clause-grown : goal.returns-in_err-own-clause-grown
returns-in_err-own-clause-grown c = c.add_types.ensures.grown

pub returns-in_err-table-clause-grown : goal.returns-in_err-table-clause-grown
returns-in_err-table-clause-grown c = c.add_types.ensures.grown

pub returns-in_err-add_with_worlds-clause-grown : goal.returns-in_err-add_with_worlds-clause-grown
returns-in_err-add_with_worlds-clause-grown c = Grown-then c.args.graph.now c.add_types.new.graph c.add_with_worlds.new.graph c.add_types.ensures.grown c.add_with_worlds.ensures.grown

pub returns-clause-grown : goal.returns-clause-grown
returns-clause-grown c = Grown-then c.args.graph.now c.add_types.new.graph c.add_with_worlds.new.graph c.add_types.ensures.grown c.add_with_worlds.ensures.grown
