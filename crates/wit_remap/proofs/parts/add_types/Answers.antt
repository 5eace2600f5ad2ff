use Rattle.std.proofs.Common.{◌∙◌, sym, refl, subst}
use Rattle.wit_data.specs.Each.{Each}
use Rattle.wit_remap.specs.steps.Fits.{Fits, TypeFits}
use Rattle.wit_remap.specs.facts.GrownFacts.{Begins-as, Begins-by, Grown-same, types_grow}
use Rattle.wit_remap.proofs.Kept.{Each-selected}
use Rattle.wit_remap.proofs.LabelsStay.{names_stay}
use Rattle.wit_remap.proofs.parts.add_types.Goals as goal

pub update-requires : goal.update-requires
update-requires c =
    let fits = TypeFits (Fits c.args.mover.now.offset) in
    subst (Each fits) (sym c.selected-own.ensures) (Each-selected fits _ c.args.types c.requires)

pub returns-clause-ok : goal.returns-clause-ok
returns-clause-ok c =
    let updated = c.update.ensures ∙ names_stay c.args.mover.now c.selected-own.result in
    rw (c.in_ok-append-2.ensures.ok, c.in_ok-append.ensures.ok, updated, c.selected-own.ensures, c.from_index-first.ensures, c.len.ensures, c.as_slice.ensures) refl

pub returns-in_err-append-clause-grown : goal.returns-in_err-append-clause-grown
returns-in_err-append-clause-grown c = Grown-same c.args.graph.now

pub returns-in_err-append-2-clause-grown : goal.returns-in_err-append-2-clause-grown
returns-in_err-append-2-clause-grown c = types_grow c.args.graph.now c.append-2.new.self (Begins-as c.args.graph.now.types c.append-2.new.self c.in_err-append-2.ensures.unchanged)

pub returns-clause-grown : goal.returns-clause-grown
returns-clause-grown c = types_grow c.args.graph.now c.append-2.new.self (Begins-by c.args.graph.now.types c.append-2.new.self c.append.new.self c.in_ok-append-2.ensures.ok)
