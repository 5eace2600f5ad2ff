use Rattle.std.proofs.Common.{List, lit<, refl, subst, sym}
use Rattle.std.specs.Prelude.{IfOk}
use Rattle.wit_data.specs.facts.ReferenceFacts.{IsAcyclic-references}
use Rattle.wit_data.specs.Kind.{type_references}
use Rattle.wit_data.specs.declared.types.TypeDef.{TypeDef}
use Rattle.wit_digraph.specs.Relation.{IsAcyclic}
use Rattle.wit_shape.specs.facts.UsesInRange.{uses_in_range}
use Rattle.wit_shape.specs.Faults.{KeepsBefore, Tells}
use Rattle.wit_shape.specs.declared.clause.ShapeClause.{ShapeClause}
use Rattle.wit_shape.specs.declared.clause.ShapeClause.TheVariants as clause
use Rattle.wit_shape.proofs.search.find_place.Goals as goal

pub shown_by_each-requires : goal.shown_by_each-requires
shown_by_each-requires c =
    let before = subst (λ (which : ShapeClause). KeepsBefore c.args.unresolved.now which) c.in-OwnTypes.is c.requires in
    subst (λ (types : List TypeDef). IsAcyclic (type_references types)) (sym c.as_slice-types.ensures)
    (IsAcyclic-references c.args.unresolved.now.types (before clause.ReferencesEarlier (20, 23, (lit< tt, refl, refl))))

pub shown_by_each-requires-in-OwnFunctions : goal.shown_by_each-requires-in-OwnFunctions
shown_by_each-requires-in-OwnFunctions c =
    let before = subst (λ (which : ShapeClause). KeepsBefore c.args.unresolved.now which) c.in-OwnFunctions.is c.requires in
    subst (λ (types : List TypeDef). IsAcyclic (type_references types)) (sym c.as_slice-types.ensures)
    (IsAcyclic-references c.args.unresolved.now.types (before clause.ReferencesEarlier (20, 24, (lit< tt, refl, refl))))

pub shown_by_each-requires-in-OwnImports : goal.shown_by_each-requires-in-OwnImports
shown_by_each-requires-in-OwnImports c =
    let before = subst (λ (which : ShapeClause). KeepsBefore c.args.unresolved.now which) c.in-OwnImports.is c.requires in
    subst (λ (types : List TypeDef). IsAcyclic (type_references types)) (sym c.as_slice-types.ensures)
    (IsAcyclic-references c.args.unresolved.now.types (before clause.ReferencesEarlier (20, 25, (lit< tt, refl, refl))))

pub shown_by_each-requires-in-OwnExports : goal.shown_by_each-requires-in-OwnExports
shown_by_each-requires-in-OwnExports c =
    let before = subst (λ (which : ShapeClause). KeepsBefore c.args.unresolved.now which) c.in-OwnExports.is c.requires in
    subst (λ (types : List TypeDef). IsAcyclic (type_references types)) (sym c.as_slice-types.ensures)
    (IsAcyclic-references c.args.unresolved.now.types (before clause.ReferencesEarlier (20, 26, (lit< tt, refl, refl))))

pub acyclic-requires : goal.acyclic-requires
acyclic-requires c =
    let before = subst (λ (which : ShapeClause). KeepsBefore c.args.unresolved.now which) c.in-Uses.is c.requires in
    uses_in_range c.args.unresolved.now.types c.args.unresolved.now.interfaces (before clause.ReferencesAliases (21, 31, (lit< tt, refl, refl)))

pub returns-in-OwnersListed : goal.returns-in-OwnersListed
returns-in-OwnersListed c =
    subst (λ (which : ShapeClause). IfOk c.listed.result (λ found. Tells c.args.unresolved.now which found)) (sym c.in-OwnersListed.is)
    (rw (c.as_slice-interfaces.ensures, c.as_slice-worlds.ensures, c.as_slice-types.ensures) at c.listed.ensures)

pub returns-in_ok-shown_by_each-in-OwnTypes : goal.returns-in_ok-shown_by_each-in-OwnTypes
returns-in_ok-shown_by_each-in-OwnTypes c =
    subst (λ (which : ShapeClause). IfOk c.types-in-OwnTypes.result (λ found. Tells c.args.unresolved.now which found)) (sym c.in-OwnTypes.is)
    (rw c.as_slice-types.ensures at c.types-in-OwnTypes.ensures)

pub returns-in_ok-shown_by_each-in-OwnFunctions : goal.returns-in_ok-shown_by_each-in-OwnFunctions
returns-in_ok-shown_by_each-in-OwnFunctions c =
    subst (λ (which : ShapeClause). IfOk c.functions-in-OwnFunctions-2.result (λ found. Tells c.args.unresolved.now which found)) (sym c.in-OwnFunctions.is)
    (rw (c.as_slice-types.ensures, c.as_slice-interfaces.ensures) at c.functions-in-OwnFunctions-2.ensures)

pub returns-in_ok-shown_by_each-in-OwnImports : goal.returns-in_ok-shown_by_each-in-OwnImports
returns-in_ok-shown_by_each-in-OwnImports c =
    subst (λ (which : ShapeClause). IfOk c.imports-in-OwnImports.result (λ found. Tells c.args.unresolved.now which found)) (sym c.in-OwnImports.is)
    (rw (c.as_slice-types.ensures, c.as_slice-worlds.ensures) at c.imports-in-OwnImports.ensures)

pub returns-in_ok-shown_by_each-in-OwnExports : goal.returns-in_ok-shown_by_each-in-OwnExports
returns-in_ok-shown_by_each-in-OwnExports c =
    subst (λ (which : ShapeClause). IfOk c.exports-in-OwnExports.result (λ found. Tells c.args.unresolved.now which found)) (sym c.in-OwnExports.is)
    (rw (c.as_slice-types.ensures, c.as_slice-worlds.ensures) at c.exports-in-OwnExports.ensures)
