-- Of what JSON says all, so that it reads back: numbers have the bits of their types, versions are of SemVer 2.0.0, keys
-- differ, and no name of a package holds the mark that ends it.
use Rattle.std.specs.Prelude.{◌≡◌, ℕ, suc, ◌<◌, ◌≤◌, ◌^◌, ◌==◌, List, [], ◌∷◌, Option, None, Some, IfSome, false, ⊤, slice_get}
use Rattle.std.specs.List.{list_any}
use Rattle.semver.specs.Grammar.{IsValid}
use Rattle.wit_values.specs.Table.{HasDistinctKeys}
use Rattle.wit_names.specs.PackageName.{HasValidVersion}
use Rattle.wit_names.specs.declared.package_name.PackageName.{PackageName}
use Rattle.wit_data.specs.Each.{Each}
use Rattle.wit_data.specs.Foreign.{ForeignItem}
use Rattle.wit_data.specs.declared.function.Function.{Function}
use Rattle.wit_data.specs.declared.function.FunctionKind.{FunctionKind}
use Rattle.wit_data.specs.declared.function.FunctionKind.TheVariants as function
use Rattle.wit_data.specs.declared.function.Param.{Param}
use Rattle.wit_data.specs.declared.interface.Interface.{Interface}
use Rattle.wit_data.specs.declared.stability.Stability.{Stability}
use Rattle.wit_data.specs.declared.stability.Stability.TheVariants.{Unknown, Stable, Unstable}
use Rattle.wit_data.specs.declared.types.Case.{Case}
use Rattle.wit_data.specs.declared.types.EnumCase.{EnumCase}
use Rattle.wit_data.specs.declared.types.Field.{Field}
use Rattle.wit_data.specs.declared.types.Flag.{Flag}
use Rattle.wit_data.specs.declared.types.Handle.{Handle}
use Rattle.wit_data.specs.declared.types.Handle.TheVariants.{Own, Borrow}
use Rattle.wit_data.specs.declared.types.TypeDef.{TypeDef}
use Rattle.wit_data.specs.declared.types.TypeDefKind.{TypeDefKind}
use Rattle.wit_data.specs.declared.types.TypeDefKind.TheVariants as kind
use Rattle.wit_data.specs.declared.types.TypeOwner.{TypeOwner}
use Rattle.wit_data.specs.declared.types.TypeOwner.TheVariants as owner
use Rattle.wit_data.specs.declared.types.Type_.{Type_}
use Rattle.wit_data.specs.declared.types.Type_.TheVariants as type
use Rattle.wit_data.specs.declared.unresolved.AstItem.{AstItem}
use Rattle.wit_data.specs.declared.unresolved.AstItem.TheVariants as ast
use Rattle.wit_data.specs.declared.unresolved.UnresolvedPackage.{UnresolvedPackage}
use Rattle.wit_data.specs.declared.unresolved.UnresolvedPackageGroup.{UnresolvedPackageGroup}
use Rattle.wit_data.specs.declared.world.World.{World}
use Rattle.wit_data.specs.declared.world.WorldInclude.{WorldInclude}
use Rattle.wit_data.specs.declared.world.WorldItem.{WorldItem}
use Rattle.wit_data.specs.declared.world.WorldItem.TheVariants as item
use Rattle.wit_data.specs.declared.world.WorldKey.{WorldKey}
use Rattle.wit_data.specs.declared.world.WorldKey.TheVariants as key
use Rattle.wit_graph_data.specs.declared.graph.Graph.{Graph}
use Rattle.wit_graph_data.specs.declared.graph.Package.{Package}
use Rattle.wit_sources.specs.SourceMap.{Sources, end_after}
use Rattle.wit_sources.specs.declared.source_map.SourceFile.{SourceFile}
use Rattle.wit_json_graphs.specs.declared.resolves.ResolveParts.{ResolveParts}

-- an id has 64 bits
abbrev pub IsWritableId : ℕ → Type 0
IsWritableId id = id < 2 ^ 64

-- positions have 32 bits, the end isn't before the start
abbrev pub IsWritableSpan : Option (ℕ × ℕ) → Type 0
IsWritableSpan span = IfSome span (λ range. (range.0 ≤ range.1) × (range.1 < 2 ^ 32))

abbrev pub IsWritableGate : Stability → Type 0
IsWritableGate Unknown = ⊤
IsWritableGate (Stable since deprecated) = IsValid since × IfSome deprecated IsValid
IsWritableGate (Unstable feature deprecated) = IfSome deprecated IsValid

-- ---- types

abbrev pub IsWritableType : Type_ → Type 0
IsWritableType (type.Id id) = IsWritableId id
IsWritableType _ = ⊤

abbrev pub IsWritableField : Field → Type 0
IsWritableField f = IsWritableType f.ty × IsWritableSpan f.span

abbrev pub IsWritableCase : Case → Type 0
IsWritableCase c = IfSome c.ty IsWritableType × IsWritableSpan c.span

abbrev pub IsWritableHandle : Handle → Type 0
IsWritableHandle (Own id) = IsWritableId id
IsWritableHandle (Borrow id) = IsWritableId id

abbrev pub IsWritableKind : TypeDefKind → Type 0
IsWritableKind (kind.Record fields) = Each IsWritableField fields
IsWritableKind kind.Resource = ⊤
IsWritableKind (kind.Handle handle) = IsWritableHandle handle
IsWritableKind (kind.Flags flags) = Each (λ (f : Flag). IsWritableSpan f.span) flags
IsWritableKind (kind.Tuple types) = Each IsWritableType types
IsWritableKind (kind.Variant cases) = Each IsWritableCase cases
IsWritableKind (kind.Enum cases) = Each (λ (c : EnumCase). IsWritableSpan c.span) cases
IsWritableKind (kind.Option ty) = IsWritableType ty
IsWritableKind (kind.Result_ ok err) = IfSome ok IsWritableType × IfSome err IsWritableType
IsWritableKind (kind.List ty) = IsWritableType ty
IsWritableKind (kind.Map key value) = IsWritableType key × IsWritableType value
IsWritableKind (kind.FixedLengthList ty len) = IsWritableType ty × (len < 2 ^ 32)
IsWritableKind (kind.Future ty) = IfSome ty IsWritableType
IsWritableKind (kind.Stream ty) = IfSome ty IsWritableType
IsWritableKind (kind.Type_ ty) = IsWritableType ty
IsWritableKind kind.Unknown = ⊤

abbrev pub IsWritableOwner : TypeOwner → Type 0
IsWritableOwner (owner.World id) = IsWritableId id
IsWritableOwner (owner.Interface id) = IsWritableId id
IsWritableOwner owner.None = ⊤

pub record IsWritableTypeDef (def : TypeDef) : Type 0 where
  pub kind : IsWritableKind def.kind
  pub owner : IsWritableOwner def.owner
  pub gate : IsWritableGate def.stability
  pub span : IsWritableSpan def.span

-- ---- functions

abbrev pub IsWritableFunctionKind : FunctionKind → Type 0
IsWritableFunctionKind function.Freestanding = ⊤
IsWritableFunctionKind function.AsyncFreestanding = ⊤
IsWritableFunctionKind (function.Method id) = IsWritableId id
IsWritableFunctionKind (function.AsyncMethod id) = IsWritableId id
IsWritableFunctionKind (function.Static id) = IsWritableId id
IsWritableFunctionKind (function.AsyncStatic id) = IsWritableId id
IsWritableFunctionKind (function.Constructor id) = IsWritableId id
IsWritableFunctionKind function.Getter = ⊤
IsWritableFunctionKind function.Setter = ⊤
IsWritableFunctionKind (function.MethodGetter id) = IsWritableId id
IsWritableFunctionKind (function.MethodSetter id) = IsWritableId id
IsWritableFunctionKind (function.StaticGetter id) = IsWritableId id
IsWritableFunctionKind (function.StaticSetter id) = IsWritableId id

abbrev pub IsWritableParam : Param → Type 0
IsWritableParam p = IsWritableType p.ty × IsWritableSpan p.span

pub record IsWritableFunction (f : Function) : Type 0 where
  pub kind : IsWritableFunctionKind f.kind
  pub params : Each IsWritableParam f.params
  pub result_ : IfSome f.result_ IsWritableType
  pub gate : IsWritableGate f.stability
  pub span : IsWritableSpan f.span

-- ---- interfaces and worlds

abbrev pub IsWritableKey : WorldKey → Type 0
IsWritableKey (key.Name label) = ⊤
IsWritableKey (key.Interface id) = IsWritableId id

pub record IsWritableInterface (interface : Interface) : Type 0 where
  pub types_differ : HasDistinctKeys interface.types
  pub types : Each (λ (e : List ℕ × ℕ). IsWritableId e.1) interface.types
  pub functions_differ : HasDistinctKeys interface.functions
  pub functions : Each (λ (e : List ℕ × Function). IsWritableFunction e.1) interface.functions
  pub gate : IsWritableGate interface.stability
  pub span : IsWritableSpan interface.span

-- an interface stands under its own key, or under a label; all else under a label
abbrev pub FitsKey : WorldKey → WorldItem → Type 0
FitsKey (key.Name label) it = ⊤
FitsKey (key.Interface id) (item.Interface other stability docs span external_id) = id ≡ other
FitsKey (key.Interface id) (item.Function f) = ⊥
FitsKey (key.Interface id) (item.Type_ other span) = ⊥

abbrev pub IsWritableItem : WorldItem → Type 0
IsWritableItem (item.Interface id stability docs span external_id) =
    IsWritableId id × IsWritableGate stability × IsWritableSpan span
IsWritableItem (item.Function f) = IsWritableFunction f
IsWritableItem (item.Type_ id span) = IsWritableId id × IsWritableSpan span

pub record AreWritableEntries (entries : List (WorldKey × WorldItem)) : Type 0 where
  pub differ : HasDistinctKeys entries
  pub fit : Each (λ (e : WorldKey × WorldItem). FitsKey e.0 e.1) entries
  pub items : Each (λ (e : WorldKey × WorldItem). IsWritableItem e.1) entries

pub record IsWritableInclude (include : WorldInclude) : Type 0 where
  pub id : IsWritableId include.id
  pub gate : IsWritableGate include.stability
  pub span : IsWritableSpan include.span

pub record IsWritableWorld (world : World) : Type 0 where
  pub imports : AreWritableEntries world.imports
  pub exports : AreWritableEntries world.exports
  pub includes : Each IsWritableInclude world.includes
  pub gate : IsWritableGate world.stability
  pub span : IsWritableSpan world.span

-- ---- packages

-- no `:` in the namespace, no `@` in the name
pub record IsWritableName (name : PackageName) : Type 0 where
  pub namespace : list_any (λ b. b == 58) name.namespace ≡ false
  pub own : list_any (λ b. b == 64) name.name ≡ false
  pub version : HasValidVersion name

abbrev pub IsWritableAstItem : AstItem → Type 0
IsWritableAstItem (ast.Interface id) = IsWritableId id
IsWritableAstItem (ast.World id) = IsWritableId id

-- what is named of another package
pub record AreWritableItems (named : List ForeignItem) : Type 0 where
  pub differ : HasDistinctKeys named
  pub items : Each (λ (e : ForeignItem). IsWritableAstItem e.1.0) named
  pub gates : Each (λ (e : ForeignItem). Each IsWritableGate e.1.1) named

pub record IsWritablePackage (p : UnresolvedPackage) : Type 0 where
  pub name : IsWritableName p.name
  pub span : IsWritableSpan p.package_name_span
  pub worlds : Each IsWritableWorld p.worlds
  pub interfaces : Each IsWritableInterface p.interfaces
  pub types : Each IsWritableTypeDef p.types
  -- its worlds and interfaces belong to no package yet
  pub worlds_alone : Each (λ (world : World). world.«package» ≡ None) p.worlds
  pub interfaces_alone : Each (λ (interface : Interface). interface.«package» ≡ None) p.interfaces
  pub packages_differ : HasDistinctKeys p.foreign_deps
  pub packages : Each (λ (e : PackageName × List ForeignItem). IsWritableName e.0) p.foreign_deps
  pub items : Each (λ (e : PackageName × List ForeignItem). AreWritableItems e.1) p.foreign_deps
  pub dep_spans : Each IsWritableSpan p.foreign_dep_spans
  pub unknown_spans : Each IsWritableSpan p.unknown_type_spans
  pub resources : Each (λ (r : ℕ × Option (ℕ × ℕ)). IsWritableId r.0 × IsWritableSpan r.1)
      p.required_resource_types

-- ---- files and groups

-- files that stand one after another from a position on, with nothing between them
abbrev pub AreInRow : ℕ → List SourceFile → ℕ → Type 0
AreInRow from [] end = end ≡ from
AreInRow from (file ∷ files) end =
    (file.start ≡ from) × AreInRow (end_after from file.contents) files end

pub record AreWritableSources (sources : Sources) : Type 0 where
  pub in_row : AreInRow 0 sources.files sources.end
  pub end : sources.end < 2 ^ 32

pub record IsWritableGroup (group : UnresolvedPackageGroup) : Type 0 where
  pub main : IsWritablePackage group.main
  pub nested : Each IsWritablePackage group.nested
  pub sources : AreWritableSources group.source_map

-- ---- graphs

pub record IsWritableHome (home : Package) : Type 0 where
  pub name : IsWritableName home.name
  pub interfaces_differ : HasDistinctKeys home.interfaces
  pub interfaces : Each (λ (e : List ℕ × ℕ). IsWritableId e.1) home.interfaces
  pub worlds_differ : HasDistinctKeys home.worlds
  pub worlds : Each (λ (e : List ℕ × ℕ). IsWritableId e.1) home.worlds

-- the packages under their names, with the ids from n on
abbrev pub in_order : ℕ → List Package → List (PackageName × ℕ)
in_order n [] = []
in_order n (home ∷ homes) = (home.name, n) ∷ in_order (suc n) homes

-- a graph whose worlds include nothing (as in all valid ones) and whose names stand in the order of its packages, as each
-- call of a `Resolve` leaves them (`calls_stay_in_order`)
pub record IsWritableGraph (graph : Graph) : Type 0 where
  pub worlds : Each IsWritableWorld graph.worlds
  pub interfaces : Each IsWritableInterface graph.interfaces
  pub types : Each IsWritableTypeDef graph.types
  pub packages : Each IsWritableHome graph.packages
  pub world_homes : Each (λ (world : World). IfSome world.«package» IsWritableId) graph.worlds
  pub interface_homes : Each (λ (interface : Interface). IfSome interface.«package» IsWritableId)
      graph.interfaces
  pub no_includes : Each (λ (world : World). world.includes ≡ []) graph.worlds
  pub named : graph.package_names ≡ in_order 0 graph.packages
  pub names_differ : HasDistinctKeys graph.package_names

-- no name stands twice
abbrev pub AreApart : List (List ℕ) → Type 0
AreApart names =
    (i j : ℕ) (name : List ℕ) → slice_get names i ≡ Some name → slice_get names j ≡ Some name
    → i ≡ j

pub record AreWritableParts (parts : ResolveParts) : Type 0 where
  pub graph : IsWritableGraph parts.graph
  pub features : AreApart parts.features.names
  pub sources : AreWritableSources parts.source_map
