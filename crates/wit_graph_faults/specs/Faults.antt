-- Why a graph isn't valid: the first clause of validity that it breaks, in the order in which they are asked, and the
-- first thing that breaks it, in the order of the graph's lists.
use Rattle.std.specs.Prelude.{◌≡◌, ◌≢◌, ℕ, ◌<◌, List, [], ◌∷◌, Option, Some, None, Contains, IfSome, length, slice_get, take}
use Rattle.wit_digraph.specs.Relation.{IsAcyclic}
use Rattle.wit_data.specs.Each.{Each, SomeAt}
use Rattle.wit_data.specs.Entries.{Entry, IsExport, IsImport, ItemUsesOwn}
use Rattle.wit_data.specs.Kind.{referred, type_references}
use Rattle.wit_data.specs.Ownership.{AliasesNamed, IsListed, IsPlain, IsTypeOf, RefersToOwn, UsesOwn}
use Rattle.wit_data.specs.Uses.{uses_of}
use Rattle.wit_names.specs.PackageName.{HasValidVersion}
use Rattle.wit_names.specs.UsePath.{IsKebabName}
use Rattle.wit_elaboration.specs.Elaborated.{Elaborated}
use Rattle.wit_elaboration.specs.Valid.{IsInTable, IsInterfaceOf, IsOfPackage, IsWorldInTable, IsWorldOf}
use Rattle.wit_graph_data.specs.Queries.{package_uses}
use Rattle.wit_shape.specs.Faults.{AtFirstOnCycle, unnamed_in_worlds}
use Rattle.wit_shape.specs.First.{AtFirstId, Finds, FindsFirst, FindsWithin}
use Rattle.wit_data.specs.Entries.{StandOnce}
use Rattle.wit_data.specs.declared.function.Function.{Function}
use Rattle.wit_data.specs.declared.interface.Interface.{Interface}
use Rattle.wit_data.specs.declared.types.TypeDef.{TypeDef}
use Rattle.wit_data.specs.declared.world.World.{World}
use Rattle.wit_names.specs.declared.package_name.PackageName.{PackageName}
use Rattle.wit_graph_data.specs.declared.graph.Graph.{Graph}
use Rattle.wit_graph_data.specs.declared.graph.Package.{Package}
use Rattle.wit_graph_faults.specs.declared.clause.GraphClause.{GraphClause}
use Rattle.wit_graph_faults.specs.declared.fault.GraphFault.{GraphFault}
use Rattle.wit_graph_faults.specs.declared.place.GraphPlace.{GraphPlace}
use Rattle.wit_data.specs.declared.types.TypeDefKind.TheVariants as kind
use Rattle.wit_data.specs.declared.types.TypeOwner.TheVariants as owner
use Rattle.wit_graph_faults.specs.declared.clause.GraphClause.TheVariants as clause
use Rattle.wit_graph_faults.specs.declared.place.GraphPlace.TheVariants as place

-- the clauses, in the order in which they are asked
abbrev pub graph_clauses : List GraphClause
graph_clauses =
    clause.PackageNamesOwn ∷ clause.PackageNamesListed
    ∷ clause.TablesInterfacesListed ∷ clause.TablesWorldsListed
    ∷ clause.TablesInterfaces ∷ clause.TablesWorlds
    ∷ clause.NamesNamespaces ∷ clause.NamesPackages ∷ clause.NamesVersions ∷ clause.NamesInterfaces
    ∷ clause.Known ∷ clause.OwnersListed ∷ clause.OwnersOwnTypes ∷ clause.OwnersFunctions
    ∷ clause.ReferencesAliases ∷ clause.ReferencesUnnamed
    ∷ clause.TypesThere ∷ clause.Types ∷ clause.Uses
    ∷ clause.ReferencesOwnTypes ∷ clause.ReferencesOwnFunctions
    ∷ clause.WorldsImports ∷ clause.WorldsExports
    ∷ clause.WorldsImportedFunctions ∷ clause.WorldsExportedFunctions
    ∷ clause.WorldsOnce ∷ clause.WorldsOwnImports ∷ clause.WorldsOwnExports
    ∷ clause.WorldsIncludes ∷ clause.Packages ∷ clause.Canonical ∷ []

-- a stands before b among them
abbrev pub IsAskedBefore : GraphClause → GraphClause → Type 0
IsAskedBefore a b =
    (i j : ℕ)
    × ((i < j) × (slice_get graph_clauses i ≡ Some a) × (slice_get graph_clauses j ≡ Some b))

-- nothing where no node leads back to itself, else the place of the first with which those up to it do
abbrev pub FindsOnCycle : (ℕ → GraphPlace) → List (List ℕ) → Option GraphPlace → Type 0
FindsOnCycle at uses = Finds (IsAcyclic uses) (AtFirstOnCycle at uses)

-- nothing where no interface without a name stands in two places, else the first that stands in a second one
abbrev pub FindsUnnamedAgain : List Interface → List World → Option GraphPlace → Type 0
FindsUnnamedAgain interfaces worlds =
    Finds (StandOnce interfaces worlds)
    (AtFirstId place.Interface
    (λ i id. Contains (take i (unnamed_in_worlds interfaces worlds)) id → ⊥)
    (unnamed_in_worlds interfaces worlds))

-- the types that a type refers to are there
abbrev pub RefersToThere : List TypeDef → TypeDef → Type 0
RefersToThere types def = Each (λ id. id < length types) (referred def.kind)

-- The table of clauses. A row says what a search finds: nothing where the graph keeps the clause, which is what the
-- field of this name of the part of `IsValid` says; else the first thing that breaks it. That types are there is a part
-- of `no_cycles.types`. The keys of tables differ in every graph.
abbrev pub FindsBreach : Graph → GraphClause → Option GraphPlace → Type 0
FindsBreach g clause.PackageNamesOwn =
    FindsFirst place.PackageName
    (λ _ (e : PackageName × ℕ). SomeAt g.packages e.1 (λ (home : Package). home.name ≡ e.0))
    g.package_names
FindsBreach g clause.PackageNamesListed =
    FindsFirst place.Package (λ p (home : Package). Contains g.package_names (home.name, p))
    g.packages
FindsBreach g clause.TablesInterfacesListed =
    FindsFirst place.Interface (IsInTable g.packages) g.interfaces
FindsBreach g clause.TablesWorldsListed =
    FindsFirst place.World (IsWorldInTable g.packages) g.worlds
FindsBreach g clause.TablesInterfaces =
    FindsWithin place.PackageInterface
    (λ p (home : Package) (e : List ℕ × ℕ). IsInterfaceOf g.interfaces p e.0 e.1)
    (λ (home : Package). home.interfaces) g.packages
FindsBreach g clause.TablesWorlds =
    FindsWithin place.PackageWorld
    (λ p (home : Package) (e : List ℕ × ℕ). IsWorldOf g.worlds p e.0 e.1)
    (λ (home : Package). home.worlds) g.packages
FindsBreach g clause.NamesNamespaces =
    FindsFirst place.Package (λ _ (home : Package). IsKebabName home.name.namespace) g.packages
FindsBreach g clause.NamesPackages =
    FindsFirst place.Package (λ _ (home : Package). IsKebabName home.name.name) g.packages
FindsBreach g clause.NamesVersions =
    FindsFirst place.Package (λ _ (home : Package). HasValidVersion home.name) g.packages
FindsBreach g clause.NamesInterfaces =
    FindsFirst place.Interface
    (λ _ (interface : Interface). IfSome interface.name IsKebabName) g.interfaces
FindsBreach g clause.Known =
    FindsFirst place.Type_ (λ _ (def : TypeDef). def.kind ≢ kind.Unknown) g.types
FindsBreach g clause.OwnersListed =
    FindsFirst place.Type_
    (λ i (def : TypeDef). IsListed g.interfaces g.worlds i def.name def.owner) g.types
FindsBreach g clause.OwnersOwnTypes =
    FindsWithin place.InterfaceType
    (λ f (interface : Interface) (e : List ℕ × ℕ). IsTypeOf g.types (owner.Interface f) e.0 e.1)
    (λ (interface : Interface). interface.types) g.interfaces
FindsBreach g clause.OwnersFunctions =
    FindsWithin place.Function (λ _ (interface : Interface) (e : List ℕ × Function). e.1.name ≡ e.0)
    (λ (interface : Interface). interface.functions) g.interfaces
FindsBreach g clause.ReferencesAliases =
    FindsFirst place.Type_ (λ _. AliasesNamed g.types g.interfaces) g.types
FindsBreach g clause.ReferencesUnnamed =
    FindsFirst place.Type_ (λ _ (def : TypeDef). (def.name ≡ None) → IsPlain def.kind) g.types
FindsBreach g clause.TypesThere = FindsFirst place.Type_ (λ _. RefersToThere g.types) g.types
FindsBreach g clause.Types = FindsOnCycle place.Type_ (type_references g.types)
FindsBreach g clause.Uses = FindsOnCycle place.Interface (uses_of g.types g.interfaces)
FindsBreach g clause.ReferencesOwnTypes = FindsFirst place.Type_ (λ _. RefersToOwn g.types) g.types
FindsBreach g clause.ReferencesOwnFunctions =
    FindsWithin place.Function
    (λ f (interface : Interface) (e : List ℕ × Function). UsesOwn g.types (owner.Interface f) e.1)
    (λ (interface : Interface). interface.functions) g.interfaces
FindsBreach g clause.WorldsImports =
    FindsWithin place.Import
    (λ w (world : World) (e : Entry). IsImport g.interfaces g.types w e.0 e.1)
    (λ (world : World). world.imports) g.worlds
FindsBreach g clause.WorldsExports =
    FindsWithin place.Export (λ _ (world : World) (e : Entry). IsExport g.interfaces e.0 e.1)
    (λ (world : World). world.exports) g.worlds
FindsBreach g clause.WorldsImportedFunctions =
    FindsWithin place.Import (λ w (world : World) (e : Entry). ItemUsesOwn g.types w e.1)
    (λ (world : World). world.imports) g.worlds
FindsBreach g clause.WorldsExportedFunctions =
    FindsWithin place.Export (λ w (world : World) (e : Entry). ItemUsesOwn g.types w e.1)
    (λ (world : World). world.exports) g.worlds
FindsBreach g clause.WorldsOnce = FindsUnnamedAgain g.interfaces g.worlds
FindsBreach g clause.WorldsOwnImports =
    FindsWithin place.Import
    (λ _ (world : World) (e : Entry). IsOfPackage g.interfaces world.package e.1)
    (λ (world : World). world.imports) g.worlds
FindsBreach g clause.WorldsOwnExports =
    FindsWithin place.Export
    (λ _ (world : World) (e : Entry). IsOfPackage g.interfaces world.package e.1)
    (λ (world : World). world.exports) g.worlds
FindsBreach g clause.WorldsIncludes =
    FindsFirst place.World (λ _ (world : World). world.includes ≡ []) g.worlds
FindsBreach g clause.Packages =
    FindsOnCycle place.Package (package_uses g.types g.interfaces g.worlds g.packages)
FindsBreach g clause.Canonical =
    FindsFirst place.World
    (λ _ (world : World). Elaborated g.types (uses_of g.types g.interfaces) world world) g.worlds

-- the graph keeps the clause, or breaks it first at this place
abbrev pub IsKept : Graph → GraphClause → Type 0
IsKept g c = FindsBreach g c None

abbrev pub IsBrokenAt : Graph → GraphClause → GraphPlace → Type 0
IsBrokenAt g c at = FindsBreach g c (Some at)

-- the graph keeps each clause before this one
abbrev pub IsValidBefore : Graph → GraphClause → Type 0
IsValidBefore g c = (other : GraphClause) → IsAskedBefore other c → IsKept g other

-- the graph keeps each clause before that of the fault, which it breaks at the fault's place
pub record IsGraphFault (g : Graph) (fault : GraphFault) : Type 0 where
  pub before : IsValidBefore g fault.clause
  pub breaks : IsBrokenAt g fault.clause fault.place
