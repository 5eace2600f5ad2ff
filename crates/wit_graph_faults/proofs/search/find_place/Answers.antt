use Rattle.std.proofs.Common.{List, subst, sym}
use Rattle.wit_data.specs.Kind.{type_references}
use Rattle.wit_data.specs.declared.types.TypeDef.{TypeDef}
use Rattle.wit_digraph.specs.Relation.{IsAcyclic, IsInRange}
use Rattle.wit_graph_faults.proofs.Asked.{acyclic_asked, exported_asked, imported_asked, own_functions_asked, own_types_asked, packages_asked, sound_asked, types_asked, uses_asked}
use Rattle.wit_graph_faults.specs.Faults.{FindsBreach}
use Rattle.wit_graph_faults.specs.declared.clause.GraphClause.{GraphClause}
use Rattle.wit_graph_faults.proofs.search.find_place.Goals as goal

pub first_type-requires : goal.first_type-requires
first_type-requires c =
    subst (λ (types : List TypeDef). IsInRange (type_references types)) (sym c.as_slice-types.ensures)
    (types_asked c.args.graph.now c.args.clause c.requires c.in-Types.is)

pub first_interface-requires : goal.first_interface-requires
first_interface-requires c = rw (c.as_slice-types.ensures, c.as_slice-interfaces.ensures) (uses_asked c.args.graph.now c.args.clause c.requires c.in-Uses.is)

pub first_package-requires : goal.first_package-requires
first_package-requires c = packages_asked c.args.graph.now c.args.clause c.requires c.in-Packages.is

pub refers_to_own-requires : goal.refers_to_own-requires
refers_to_own-requires c =
    subst (λ (types : List TypeDef). IsAcyclic (type_references types)) (sym c.as_slice-types.ensures)
    (own_types_asked c.args.graph.now c.args.clause c.requires c.in-ReferencesOwnTypes.is)

pub functions_use_own-requires : goal.functions_use_own-requires
functions_use_own-requires c =
    subst (λ (types : List TypeDef). IsAcyclic (type_references types)) (sym c.as_slice-types.ensures)
    (own_functions_asked c.args.graph.now c.args.clause c.requires c.in-ReferencesOwnFunctions.is)

pub imports_use_own-requires : goal.imports_use_own-requires
imports_use_own-requires c =
    subst (λ (types : List TypeDef). IsAcyclic (type_references types)) (sym c.as_slice-types.ensures)
    (imported_asked c.args.graph.now c.args.clause c.requires c.in-WorldsImportedFunctions.is)

pub exports_use_own-requires : goal.exports_use_own-requires
exports_use_own-requires c =
    subst (λ (types : List TypeDef). IsAcyclic (type_references types)) (sym c.as_slice-types.ensures)
    (exported_asked c.args.graph.now c.args.clause c.requires c.in-WorldsExportedFunctions.is)

pub elaborated-requires-clause-acyclic : goal.elaborated-requires-clause-acyclic
elaborated-requires-clause-acyclic c = acyclic_asked c.args.graph.now c.args.clause c.requires c.in-Canonical.is

pub elaborated-requires-clause-listed : goal.elaborated-requires-clause-listed
elaborated-requires-clause-listed c = sound_asked c.args.graph.now c.args.clause c.requires c.in-Canonical.is

pub returns-in-PackageNamesOwn-clause-found : goal.returns-in-PackageNamesOwn-clause-found
returns-in-PackageNamesOwn-clause-found c =
    subst (λ (which : GraphClause). FindsBreach c.args.graph.now which c.own_names.result) (sym c.in-PackageNamesOwn.is)
    (rw c.as_slice-packages.ensures at c.own_names.ensures)

pub returns-in-PackageNamesListed-clause-found : goal.returns-in-PackageNamesListed-clause-found
returns-in-PackageNamesListed-clause-found c =
    subst (λ (which : GraphClause). FindsBreach c.args.graph.now which c.listed.result) (sym c.in-PackageNamesListed.is)
    (rw c.as_slice-packages.ensures at c.listed.ensures)

pub returns-in_ok-listed-in-OwnersListed-clause-found : goal.returns-in_ok-listed-in-OwnersListed-clause-found
returns-in_ok-listed-in-OwnersListed-clause-found c =
    subst (λ (which : GraphClause). FindsBreach c.args.graph.now which c.in_ok-listed-in-OwnersListed.field-0) (sym c.in-OwnersListed.is)
    (rw (c.as_slice-interfaces.ensures, c.as_slice-worlds.ensures, c.as_slice-types.ensures) at c.in_ok-listed-in-OwnersListed.ensures)

pub returns-in-OwnersFunctions-clause-found : goal.returns-in-OwnersFunctions-clause-found
returns-in-OwnersFunctions-clause-found c =
    subst (λ (which : GraphClause). FindsBreach c.args.graph.now which c.functions.result) (sym c.in-OwnersFunctions.is)
    (rw c.as_slice-interfaces.ensures at c.functions.ensures)

pub returns-in_ok-there-in-TypesThere-clause-found : goal.returns-in_ok-there-in-TypesThere-clause-found
returns-in_ok-there-in-TypesThere-clause-found c =
    subst (λ (which : GraphClause). FindsBreach c.args.graph.now which c.in_ok-there-in-TypesThere.field-0) (sym c.in-TypesThere.is)
    (rw c.as_slice-types.ensures at c.in_ok-there-in-TypesThere.ensures)

pub returns-in_ok-refers_to_own-in-ReferencesOwnTypes-clause-found : goal.returns-in_ok-refers_to_own-in-ReferencesOwnTypes-clause-found
returns-in_ok-refers_to_own-in-ReferencesOwnTypes-clause-found c =
    subst (λ (which : GraphClause). FindsBreach c.args.graph.now which c.in_ok-refers_to_own-in-ReferencesOwnTypes.field-0) (sym c.in-ReferencesOwnTypes.is)
    (rw c.as_slice-types.ensures at c.in_ok-refers_to_own-in-ReferencesOwnTypes.ensures)

pub returns-in_ok-functions_use_own-in-ReferencesOwnFunctions-clause-found : goal.returns-in_ok-functions_use_own-in-ReferencesOwnFunctions-clause-found
returns-in_ok-functions_use_own-in-ReferencesOwnFunctions-clause-found c =
    subst (λ (which : GraphClause). FindsBreach c.args.graph.now which c.in_ok-functions_use_own-in-ReferencesOwnFunctions.field-0) (sym c.in-ReferencesOwnFunctions.is)
    (rw (c.as_slice-types.ensures, c.as_slice-interfaces.ensures) at c.in_ok-functions_use_own-in-ReferencesOwnFunctions.ensures)

pub returns-in_ok-imports_use_own-in-WorldsImportedFunctions-clause-found : goal.returns-in_ok-imports_use_own-in-WorldsImportedFunctions-clause-found
returns-in_ok-imports_use_own-in-WorldsImportedFunctions-clause-found c =
    subst (λ (which : GraphClause). FindsBreach c.args.graph.now which c.in_ok-imports_use_own-in-WorldsImportedFunctions.field-0) (sym c.in-WorldsImportedFunctions.is)
    (rw (c.as_slice-types.ensures, c.as_slice-worlds.ensures) at c.in_ok-imports_use_own-in-WorldsImportedFunctions.ensures)

pub returns-in_ok-exports_use_own-in-WorldsExportedFunctions-clause-found : goal.returns-in_ok-exports_use_own-in-WorldsExportedFunctions-clause-found
returns-in_ok-exports_use_own-in-WorldsExportedFunctions-clause-found c =
    subst (λ (which : GraphClause). FindsBreach c.args.graph.now which c.in_ok-exports_use_own-in-WorldsExportedFunctions.field-0) (sym c.in-WorldsExportedFunctions.is)
    (rw (c.as_slice-types.ensures, c.as_slice-worlds.ensures) at c.in_ok-exports_use_own-in-WorldsExportedFunctions.ensures)

pub returns-in-WorldsOwnImports-clause-found : goal.returns-in-WorldsOwnImports-clause-found
returns-in-WorldsOwnImports-clause-found c =
    subst (λ (which : GraphClause). FindsBreach c.args.graph.now which c.own_imports.result) (sym c.in-WorldsOwnImports.is)
    (rw (c.as_slice-interfaces.ensures, c.as_slice-worlds.ensures) at c.own_imports.ensures)

pub returns-in-WorldsOwnExports-clause-found : goal.returns-in-WorldsOwnExports-clause-found
returns-in-WorldsOwnExports-clause-found c =
    subst (λ (which : GraphClause). FindsBreach c.args.graph.now which c.own_exports.result) (sym c.in-WorldsOwnExports.is)
    (rw (c.as_slice-interfaces.ensures, c.as_slice-worlds.ensures) at c.own_exports.ensures)
