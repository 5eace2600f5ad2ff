use Rattle.std.proofs.Common.{◌≡◌, ◌∷◌, [], ℕ, List, map, length, refl, ap, sym, subst}
use Rattle.std.specs.List.{enumerate_from}
use Rattle.wit_data.specs.Each.{Each}
use Rattle.wit_data.specs.declared.interface.Interface.{Interface}
use Rattle.wit_remap_spec.specs.Kept.{cut_interface}
use Rattle.wit_remap_spec.specs.Image.{interface_image}
use Rattle.wit_remap_spec.specs.Selected.{selected_with_index}
use Rattle.wit_link_spec.specs.steps.NewThings.{is_new}
use Rattle.wit_remap.specs.steps.Fits.{Fits, InterfaceFits}
use Rattle.wit_remap.specs.facts.GrownFacts.{Begins-as, Begins-by, Grown-same, interfaces_grow}
use Rattle.wit_remap.specs.steps.Movers.{maps_of}
use Rattle.wit_remap.specs.steps.Parts.{kept_of}
use Rattle.wit_remap.proofs.Kept.{Each-enumerated, Each-filter, map-pairs}
use Rattle.wit_remap.proofs.parts.add_interfaces.Goals as goal

pub interface_table-requires : goal.interface_table-requires
interface_table-requires c =
    rw (c.as_slice.ensures, c.in_ok-own.ensures, c.from_index-first.ensures, c.len.ensures, c.as_slice-new_ids.ensures) c.requires.names

pub updated_interfaces-requires : goal.updated_interfaces-requires
updated_interfaces-requires c =
    subst (λ (es : List (ℕ × Interface)). Each (λ (e : ℕ × Interface). InterfaceFits (Fits c.args.mover.now.offset) e.1) es) (sym c.in_ok-own.ensures)
    (Each-filter (λ (e : ℕ × Interface). InterfaceFits (Fits c.args.mover.now.offset) e.1) _ (enumerate_from 0 c.args.interfaces) (Each-enumerated (InterfaceFits (Fits c.args.mover.now.offset)) 0 c.args.interfaces c.requires.fits))

-- images of cut interfaces, one after another
joined : {X Y Z : Type 0} (f : Y → Z) (g : X → Y) (xs : List X) → map (λ (x : X). f (g x)) xs ≡ map f (map g xs)
joined f g [] = refl
joined f g (x ∷ xs) = ap (λ l. f (g x) ∷ l) (joined f g xs)

pub returns-clause-ok : goal.returns-clause-ok
returns-clause-ok c =
    let f = interface_image (maps_of c.args.mover.now) in
    let cut = cut_interface (kept_of c.args.part.now) in
    let own = selected_with_index (is_new (length c.args.graph.now.interfaces) c.args.mover.now.new_ids.now.interfaces) c.args.interfaces in
    rw (c.in_ok-append.ensures.ok, c.in_ok-updated.ensures, c.in_ok-own.ensures, c.from_index-first.ensures, c.len.ensures, c.as_slice-new_ids.ensures)
    (rw (map-pairs (λ (i : Interface). f (cut i)) own, joined f cut (map (λ (e : ℕ × Interface). e.1) own)) refl)

pub returns-clause-table : goal.returns-clause-table
returns-clause-table c =
    rw (c.in_ok-table.ensures, c.as_slice.ensures, c.in_ok-own.ensures, c.from_index-first.ensures, c.len.ensures, c.as_slice-new_ids.ensures) refl

pub returns-in_err-own-clause-grown : goal.returns-in_err-own-clause-grown
returns-in_err-own-clause-grown c = Grown-same c.args.graph.now

pub returns-in_err-table-clause-grown : goal.returns-in_err-table-clause-grown
returns-in_err-table-clause-grown c = Grown-same c.args.graph.now

pub returns-in_err-updated-clause-grown : goal.returns-in_err-updated-clause-grown
returns-in_err-updated-clause-grown c = Grown-same c.args.graph.now

pub returns-in_err-append-clause-grown : goal.returns-in_err-append-clause-grown
returns-in_err-append-clause-grown c = interfaces_grow c.args.graph.now c.append.new.self (Begins-as c.args.graph.now.interfaces c.append.new.self c.in_err-append.ensures.unchanged)

pub returns-clause-grown : goal.returns-clause-grown
returns-clause-grown c = interfaces_grow c.args.graph.now c.append.new.self (Begins-by c.args.graph.now.interfaces c.append.new.self c.in_ok-updated.updated c.in_ok-append.ensures.ok)
