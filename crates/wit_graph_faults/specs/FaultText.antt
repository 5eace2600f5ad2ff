-- How it is told why a graph isn't valid.
use Rattle.std.specs.Prelude.{ℕ, List, ◌++◌, codes, decimal}
use Rattle.wit_graph_faults.specs.declared.clause.GraphClause.{GraphClause}
use Rattle.wit_graph_faults.specs.declared.fault.GraphFault.{GraphFault}
use Rattle.wit_graph_faults.specs.declared.place.GraphPlace.{GraphPlace}
use Rattle.wit_graph_faults.specs.declared.clause.GraphClause.TheVariants as clause
use Rattle.wit_graph_faults.specs.declared.place.GraphPlace.TheVariants as place

-- the part of validity to which a clause belongs, and its field there
abbrev pub graph_clause_name : GraphClause → List ℕ
graph_clause_name clause.PackageNamesOwn = codes "package_names.own_name"
graph_clause_name clause.PackageNamesListed = codes "package_names.listed"
graph_clause_name clause.TablesInterfacesListed = codes "tables.interfaces_listed"
graph_clause_name clause.TablesWorldsListed = codes "tables.worlds_listed"
graph_clause_name clause.TablesInterfaces = codes "tables.interface_tables"
graph_clause_name clause.TablesWorlds = codes "tables.world_tables"
graph_clause_name clause.NamesNamespaces = codes "names.namespaces"
graph_clause_name clause.NamesPackages = codes "names.package_names"
graph_clause_name clause.NamesVersions = codes "names.versions"
graph_clause_name clause.NamesInterfaces = codes "names.interface_names"
graph_clause_name clause.Known = codes "known"
graph_clause_name clause.OwnersListed = codes "owners.listed"
graph_clause_name clause.OwnersOwnTypes = codes "owners.own_types"
graph_clause_name clause.OwnersFunctions = codes "owners.functions"
graph_clause_name clause.ReferencesAliases = codes "references.aliases"
graph_clause_name clause.ReferencesUnnamed = codes "references.unnamed"
graph_clause_name clause.TypesThere = codes "no_cycles.types.in_range"
graph_clause_name clause.Types = codes "no_cycles.types"
graph_clause_name clause.Uses = codes "no_cycles.uses"
graph_clause_name clause.ReferencesOwnTypes = codes "references.own_types"
graph_clause_name clause.ReferencesOwnFunctions = codes "references.own_functions"
graph_clause_name clause.WorldsImports = codes "worlds.imports"
graph_clause_name clause.WorldsExports = codes "worlds.exports"
graph_clause_name clause.WorldsImportedFunctions = codes "worlds.imported_functions"
graph_clause_name clause.WorldsExportedFunctions = codes "worlds.exported_functions"
graph_clause_name clause.WorldsOnce = codes "worlds.once"
graph_clause_name clause.WorldsOwnImports = codes "worlds.own_imports"
graph_clause_name clause.WorldsOwnExports = codes "worlds.own_exports"
graph_clause_name clause.WorldsIncludes = codes "worlds.no_includes"
graph_clause_name clause.Packages = codes "no_cycles.packages"
graph_clause_name clause.Canonical = codes "canonical"

-- what is said of the thing that breaks a clause
abbrev pub graph_clause_text : GraphClause → List ℕ
graph_clause_text clause.PackageNamesOwn =
    codes "names a package that isn't there or has another name"
graph_clause_text clause.PackageNamesListed = codes "isn't listed under its name"
graph_clause_text clause.TablesInterfacesListed =
    codes "has no package, or isn't in the table of its package under its name"
graph_clause_text clause.TablesWorldsListed =
    codes "has no package, or isn't in the table of its package under its name"
graph_clause_text clause.TablesInterfaces = codes "is no interface of that name in that package"
graph_clause_text clause.TablesWorlds = codes "is no world of that name in that package"
graph_clause_text clause.NamesNamespaces = codes "has a namespace that is no kebab name"
graph_clause_text clause.NamesPackages = codes "has a name that is no kebab name"
graph_clause_text clause.NamesVersions = codes "has a version that isn't one of SemVer 2.0.0"
graph_clause_text clause.NamesInterfaces = codes "has a name that is no kebab name"
graph_clause_text clause.Known = codes "is of an unknown kind"
graph_clause_text clause.OwnersListed =
    codes "has an owner that doesn't list it under its name, or a name without an owner"
graph_clause_text clause.OwnersOwnTypes = codes "is no type of that name that the interface owns"
graph_clause_text clause.OwnersFunctions = codes "stands under another name"
graph_clause_text clause.ReferencesAliases =
    codes "is an alias of no named type of its owner, and of none of a named interface"
graph_clause_text clause.ReferencesUnnamed = codes "has no name, and is an alias or a resource"
graph_clause_text clause.TypesThere = codes "refers to a type that isn't there"
graph_clause_text clause.Types = codes "refers to itself, through whatever others"
graph_clause_text clause.Uses = codes "uses itself, through whatever others"
graph_clause_text clause.ReferencesOwnTypes =
    codes "refers to a type of another owner, other than as an alias"
graph_clause_text clause.ReferencesOwnFunctions =
    codes "refers to a type that the interface doesn't own, or that isn't there"
graph_clause_text clause.WorldsImports = codes "may not stand under its key"
graph_clause_text clause.WorldsExports = codes "may not stand under its key"
graph_clause_text clause.WorldsImportedFunctions =
    codes "refers to a type that the world doesn't own, or that isn't there"
graph_clause_text clause.WorldsExportedFunctions =
    codes "refers to a type that the world doesn't own, or that isn't there"
graph_clause_text clause.WorldsOnce = codes "has no name and stands in two places of worlds"
graph_clause_text clause.WorldsOwnImports =
    codes "is an interface without a name of another package"
graph_clause_text clause.WorldsOwnExports =
    codes "is an interface without a name of another package"
graph_clause_text clause.WorldsIncludes = codes "has includes"
graph_clause_text clause.Packages = codes "depends on itself, through whatever others"
graph_clause_text clause.Canonical = codes "isn't its own elaboration"

-- a place in words
abbrev pub graph_place_text : GraphPlace → List ℕ
graph_place_text (place.PackageName i) =
    codes "entry " ++ (decimal i ++ codes " among the names of packages")
graph_place_text (place.Package i) = codes "package " ++ decimal i
graph_place_text (place.PackageInterface i k) =
    codes "entry " ++ (decimal k ++ (codes " among the interfaces of package " ++ decimal i))
graph_place_text (place.PackageWorld i k) =
    codes "entry " ++ (decimal k ++ (codes " among the worlds of package " ++ decimal i))
graph_place_text (place.Interface i) = codes "interface " ++ decimal i
graph_place_text (place.World i) = codes "world " ++ decimal i
graph_place_text (place.Type_ i) = codes "type " ++ decimal i
graph_place_text (place.InterfaceType i k) =
    codes "entry " ++ (decimal k ++ (codes " among the types of interface " ++ decimal i))
graph_place_text (place.Function i k) =
    codes "function " ++ (decimal k ++ (codes " of interface " ++ decimal i))
graph_place_text (place.Import i k) =
    codes "import " ++ (decimal k ++ (codes " of world " ++ decimal i))
graph_place_text (place.Export i k) =
    codes "export " ++ (decimal k ++ (codes " of world " ++ decimal i))

-- the thing, and what is said of it
abbrev pub graph_fault_text : GraphFault → List ℕ
graph_fault_text fault =
    graph_place_text fault.place ++ (codes " " ++ graph_clause_text fault.clause)
