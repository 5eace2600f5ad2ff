-- How faults of the shape of unresolved packages are told.
use Rattle.std.specs.Prelude.{ℕ, List, ◌++◌, codes, decimal}
use Rattle.wit_shape.specs.declared.clause.ShapeClause.{ShapeClause}
use Rattle.wit_shape.specs.declared.fault.ShapeFault.{ShapeFault}
use Rattle.wit_shape.specs.declared.place.ShapePlace.{ShapePlace}
use Rattle.wit_shape.specs.declared.clause.ShapeClause.TheVariants as clause
use Rattle.wit_shape.specs.declared.place.ShapePlace.TheVariants as place

-- the part of the shape to which a clause belongs, and its field there
abbrev pub clause_name : ShapeClause → List ℕ
clause_name clause.UnplacedInterfaces = codes "unplaced.interfaces"
clause_name clause.UnplacedWorlds = codes "unplaced.worlds"
clause_name clause.ForeignSpans = codes "foreign.spans"
clause_name clause.ForeignInterfaces = codes "foreign.interfaces"
clause_name clause.ForeignWorlds = codes "foreign.worlds"
clause_name clause.ForeignBare = codes "foreign.bare"
clause_name clause.UnknownFirst = codes "unknown.first"
clause_name clause.UnknownForeign = codes "unknown.foreign"
clause_name clause.UnknownAlone = codes "unknown.alone"
clause_name clause.UnknownRequired = codes "unknown.required"
clause_name clause.NamesNamespace = codes "names.namespace"
clause_name clause.NamesOwn = codes "names.own"
clause_name clause.NamesInterfaces = codes "names.interfaces"
clause_name clause.NamesWorlds = codes "names.worlds"
clause_name clause.NamesVersion = codes "names.version"
clause_name clause.NamesInterfacesDiffer = codes "names.interfaces_differ"
clause_name clause.NamesWorldsDiffer = codes "names.worlds_differ"
clause_name clause.OwnersListed = codes "owners.listed"
clause_name clause.OwnersOwnTypes = codes "owners.own_types"
clause_name clause.OwnersFunctions = codes "owners.functions"
clause_name clause.ReferencesEarlier = codes "references.earlier"
clause_name clause.ReferencesAliases = codes "references.aliases"
clause_name clause.ReferencesUnnamed = codes "references.unnamed"
clause_name clause.OwnTypes = codes "own.types"
clause_name clause.OwnFunctions = codes "own.functions"
clause_name clause.OwnImports = codes "own.imports"
clause_name clause.OwnExports = codes "own.exports"
clause_name clause.WorldsImports = codes "worlds.imports"
clause_name clause.WorldsExports = codes "worlds.exports"
clause_name clause.WorldsOnce = codes "worlds.once"
clause_name clause.WorldsIncludes = codes "worlds.includes"
clause_name clause.Uses = codes "uses"

-- what a clause says
abbrev pub clause_text : ShapeClause → List ℕ
clause_text clause.UnplacedInterfaces = codes "an interface doesn't say to which package it belongs"
clause_text clause.UnplacedWorlds = codes "a world doesn't say to which package it belongs"
clause_text clause.ForeignSpans = codes "there is one span for each package of foreign_deps"
clause_text clause.ForeignInterfaces =
    codes "the interfaces of other packages are the first ones, each named once"
clause_text clause.ForeignWorlds =
    codes "the worlds of other packages are the first ones, each named once"
clause_text clause.ForeignBare = codes "what is named of another package is there under its name, holds nothing and is named under a gate"
clause_text clause.UnknownFirst =
    codes "the types of kind Unknown are the first ones, with one span each in unknown_type_spans"
clause_text clause.UnknownForeign =
    codes "a type of kind Unknown has a name and belongs to an interface of another package"
clause_text clause.UnknownAlone =
    codes "an interface of another package lists types of kind Unknown alone"
clause_text clause.UnknownRequired = codes "what has to be a resource is of kind Unknown"
clause_text clause.NamesNamespace = codes "the namespace of the package is a kebab name"
clause_text clause.NamesOwn = codes "the name of the package is a kebab name"
clause_text clause.NamesInterfaces = codes "the name of an interface is a kebab name"
clause_text clause.NamesWorlds = codes "the name of a world is a kebab name"
clause_text clause.NamesVersion = codes "the version of the package is one of SemVer 2.0.0"
clause_text clause.NamesInterfacesDiffer =
    codes "the interfaces of the package have different names"
clause_text clause.NamesWorldsDiffer = codes "the worlds of the package have different names"
clause_text clause.OwnersListed = codes "a type with an owner has a name and is listed by its owner under it, and one without has none"
clause_text clause.OwnersOwnTypes = codes "an interface lists types of its own, each under its name"
clause_text clause.OwnersFunctions = codes "a function stands under its name"
clause_text clause.ReferencesEarlier = codes "a type refers to earlier types"
clause_text clause.ReferencesAliases =
    codes "an alias of a type names a named type of its own owner or of an interface with a name"
clause_text clause.ReferencesUnnamed =
    codes "a type without a name is neither an alias nor a resource"
clause_text clause.OwnTypes =
    codes "a type with a name refers to types of its owner alone, but for an alias"
clause_text clause.OwnFunctions =
    codes "a function of an interface refers to types of the interface alone"
clause_text clause.OwnImports =
    codes "a function that a world imports refers to types of the world alone"
clause_text clause.OwnExports =
    codes "a function that a world exports refers to types of the world alone"
clause_text clause.WorldsImports = codes "an import is a named interface under its own key, or an interface, a function or a type of the world under its label"
clause_text clause.WorldsExports = codes "an export is a named interface under its own key, or an interface or a function under its label"
clause_text clause.WorldsOnce =
    codes "an interface without a name stands in one place of all worlds"
clause_text clause.WorldsIncludes = codes "a world includes earlier worlds"
clause_text clause.Uses = codes "no interface uses itself, through whatever others"

-- the path to a place
abbrev pub place_text : ShapePlace → List ℕ
place_text place.Name = codes "name"
place_text place.ForeignDepSpans = codes "foreign_dep_spans"
place_text place.UnknownTypeSpans = codes "unknown_type_spans"
place_text (place.RequiredResource i) = codes "required_resource_types[" ++ (decimal i ++ codes "]")
place_text (place.ForeignItem p i) =
    codes "foreign_deps[" ++ (decimal p ++ (codes "][" ++ (decimal i ++ codes "]")))
place_text (place.Interface f) = codes "interfaces[" ++ (decimal f ++ codes "]")
place_text (place.World w) = codes "worlds[" ++ (decimal w ++ codes "]")
place_text (place.Type_ t) = codes "types[" ++ (decimal t ++ codes "]")
place_text (place.InterfaceType f i) =
    codes "interfaces[" ++ (decimal f ++ (codes "].types[" ++ (decimal i ++ codes "]")))
place_text (place.Function f i) =
    codes "interfaces[" ++ (decimal f ++ (codes "].functions[" ++ (decimal i ++ codes "]")))
place_text (place.Import w i) =
    codes "worlds[" ++ (decimal w ++ (codes "].imports[" ++ (decimal i ++ codes "]")))
place_text (place.Export w i) =
    codes "worlds[" ++ (decimal w ++ (codes "].exports[" ++ (decimal i ++ codes "]")))
place_text (place.Include w i) =
    codes "worlds[" ++ (decimal w ++ (codes "].includes[" ++ (decimal i ++ codes "]")))

-- where, which clause, and what that says
abbrev pub fault_text : ShapeFault → List ℕ
fault_text fault =
    place_text fault.place
    ++ (codes " breaks " ++ (clause_name fault.clause ++ (codes ": " ++ clause_text fault.clause)))
