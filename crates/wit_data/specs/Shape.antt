-- The shape of an unresolved package: what a reader of WIT brings, whatever the text says.
--
-- Ids are places in the package's own lists, and a fact that speaks of an id says that it is there, so
-- that all ids of a shaped package are in range. The foreign interfaces and worlds, those that the
-- package knows of other packages, are the first ones of their lists; the types of kind `Unknown`, which
-- are the types of foreign interfaces, are the first types. A world that is foreign holds nothing, so it
-- owns no type; an interface that is foreign has a name, so it isn't one that a world writes in place.
-- Source: how wit-parser 0.263.0 builds its `UnresolvedPackage`, and the WIT page of the component model.
use Rattle.std.specs.Prelude.{◌≡◌, ℕ, ◌<◌, List, map, drop, length, Option, None, IfSome, flat_map, option_to_list, bytes_eq, ◌≤◌, ◌↔◌}
use Rattle.std.specs.List.{IsDistinct}
use Rattle.wit_values.specs.Table.{HasDistinctKeys}
use Rattle.wit_digraph.specs.Relation.{IsAcyclic}
use Rattle.wit_data.specs.Each.{Each, EachAt, SomeAt}
use Rattle.wit_data.specs.Entries.{EntriesUseOwn, ExportsAreAllowed, ImportsAreAllowed, StandOnce}
use Rattle.wit_data.specs.Foreign.{ForeignItem, AreFirst, IsForeign, foreign_interfaces, foreign_worlds, IsForeignType}
use Rattle.wit_data.specs.Ownership.{AliasesNamed, FunctionsUseOwn, IsListed, IsPlain, ListsOwn, NamesFunctions, RefersToOwn}
use Rattle.wit_data.specs.Kind.{referred}
use Rattle.wit_names.specs.PackageName.{HasValidVersion}
use Rattle.wit_names.specs.UsePath.{IsKebabName}
use Rattle.wit_data.specs.Uses.{uses_of}
use Rattle.wit_data.specs.declared.interface.Interface.{Interface}
use Rattle.wit_names.specs.declared.package_name.PackageName.{PackageName}
use Rattle.wit_data.specs.declared.types.TypeDef.{TypeDef}
use Rattle.wit_data.specs.declared.unresolved.UnresolvedPackage.{UnresolvedPackage}
use Rattle.wit_data.specs.declared.unresolved.UnresolvedPackageGroup.{UnresolvedPackageGroup}
use Rattle.wit_data.specs.declared.world.World.{World}
use Rattle.wit_data.specs.declared.types.TypeDefKind.TheVariants as kind
use Rattle.wit_data.specs.declared.world.WorldInclude.{WorldInclude}

-- the names of the interfaces after the foreign ones
abbrev pub interface_names : ℕ → List Interface → List (List ℕ)
interface_names foreign interfaces =
    flat_map (λ (interface : Interface). option_to_list interface.name) (drop foreign interfaces)

-- the names of the worlds after the foreign ones
abbrev pub world_names : ℕ → List World → List (List ℕ)
world_names foreign worlds = map (λ (world : World). world.name) (drop foreign worlds)

-- no table holds two entries under one key
pub record KeysDiffer (p : UnresolvedPackage) : Type 0 where
  -- the names of an interface's types, and those of its functions
  pub types : Each (λ (interface : Interface). HasDistinctKeys interface.types) p.interfaces
  pub functions : Each (λ (interface : Interface). HasDistinctKeys interface.functions) p.interfaces
  -- the keys of what a world imports, and of what it exports
  pub imports : Each (λ (world : World). HasDistinctKeys world.imports) p.worlds
  pub exports : Each (λ (world : World). HasDistinctKeys world.exports) p.worlds
  -- the other packages, and the names of what is named of each
  pub packages : HasDistinctKeys p.foreign_deps
  pub items : Each (λ (e : PackageName × List ForeignItem). HasDistinctKeys e.1) p.foreign_deps

-- what the package knows of other packages
pub record HasForeign (p : UnresolvedPackage) : Type 0 where
  -- one span for each package
  pub spans : length p.foreign_dep_spans ≡ length p.foreign_deps
  -- the interfaces and the worlds that are named are the first ones of their lists, each once
  pub interfaces : AreFirst (foreign_interfaces p.foreign_deps) (length p.interfaces)
  pub worlds : AreFirst (foreign_worlds p.foreign_deps) (length p.worlds)
  -- each has the name under which it is named, holds no functions and no entries, and is named under some gate
  pub bare : Each
      (λ (e : PackageName × List ForeignItem). Each (IsForeign p.interfaces p.worlds) e.1)
      p.foreign_deps

-- what the package knows of the types of other packages
pub record HasUnknown (p : UnresolvedPackage) : Type 0 where
  -- the types of kind `Unknown` are the first ones, with one span each
  pub first : (length p.unknown_type_spans ≤ length p.types)
      × EachAt (λ i (def : TypeDef). (def.kind ≡ kind.Unknown) ↔ (i < length p.unknown_type_spans))
      p.types
  -- they have names, and foreign interfaces own them
  pub foreign : EachAt (λ i (def : TypeDef).
      i < length p.unknown_type_spans
      → IsForeignType (length (foreign_interfaces p.foreign_deps)) def) p.types
  -- a foreign interface lists no other types
  pub alone : EachAt (λ i (interface : Interface).
      i < length (foreign_interfaces p.foreign_deps)
      → Each (λ (e : List ℕ × ℕ). e.1 < length p.unknown_type_spans) interface.types)
      p.interfaces
  -- what has to be a resource is of kind `Unknown`
  pub required : Each (λ (r : ℕ × Option (ℕ × ℕ)).
      SomeAt p.types r.0 (λ (def : TypeDef). def.kind ≡ kind.Unknown)) p.required_resource_types

-- what things are called
pub record HasNames (p : UnresolvedPackage) : Type 0 where
  -- names are kebab names
  pub namespace : IsKebabName p.name.namespace
  pub own : IsKebabName p.name.name
  pub interfaces : Each (λ (interface : Interface). IfSome interface.name IsKebabName) p.interfaces
  pub worlds : Each (λ (world : World). IsKebabName world.name) p.worlds
  -- a version is one of SemVer 2.0.0
  pub version : HasValidVersion p.name
  -- the interfaces that aren't foreign have different names, and so have the worlds
  pub interfaces_differ : IsDistinct bytes_eq
      (interface_names (length (foreign_interfaces p.foreign_deps)) p.interfaces)
  pub worlds_differ : IsDistinct bytes_eq
      (world_names (length (foreign_worlds p.foreign_deps)) p.worlds)

-- which types belong to which interface or world
pub record HasUnresolvedOwners (p : UnresolvedPackage) : Type 0 where
  -- a type with an owner has a name and is listed by its owner under it, one without has none
  pub listed : EachAt (λ i (def : TypeDef). IsListed p.interfaces p.worlds i def.name def.owner)
      p.types
  -- an interface lists types of its own, each under its name, and each function stands under its name
  pub own_types : EachAt (ListsOwn p.types) p.interfaces
  pub functions : Each NamesFunctions p.interfaces

-- what types refer to
pub record HasUnresolvedReferences (p : UnresolvedPackage) : Type 0 where
  -- a type refers to earlier types
  pub earlier : EachAt (λ i (def : TypeDef). Each (λ id. id < i) (referred def.kind)) p.types
  -- an alias of a type names a named type of its own owner or of an interface with a name
  pub aliases : Each (AliasesNamed p.types p.interfaces) p.types
  -- a type without a name is neither an alias nor a resource
  pub unnamed : Each (λ (def : TypeDef). (def.name ≡ None) → IsPlain def.kind) p.types

-- all else that an owner's types and functions refer to, seen through types without names, is the owner's
pub record KeepsToOwn (p : UnresolvedPackage) : Type 0 where
  pub types : Each (RefersToOwn p.types) p.types
  pub functions : EachAt (FunctionsUseOwn p.types) p.interfaces
  pub imports : EachAt (λ w (world : World). EntriesUseOwn p.types w world.imports) p.worlds
  pub exports : EachAt (λ w (world : World). EntriesUseOwn p.types w world.exports) p.worlds

-- what worlds hold
pub record HasUnresolvedWorlds (p : UnresolvedPackage) : Type 0 where
  -- under the key of an interface that interface, which has a name; under a label an interface, the
  -- function of that name, or, among imports, the world's own type of that name
  pub imports : EachAt (ImportsAreAllowed p.interfaces p.types) p.worlds
  pub exports : Each (ExportsAreAllowed p.interfaces) p.worlds
  -- an interface without a name stands in one place at most
  pub once : StandOnce p.interfaces p.worlds
  -- a world includes earlier worlds
  pub includes : EachAt (λ w (world : World). Each (λ (i : WorldInclude). i.id < w) world.includes)
      p.worlds

-- nothing is said of the package that interfaces and worlds belong to
pub record IsUnplaced (p : UnresolvedPackage) : Type 0 where
  pub interfaces : Each (λ (interface : Interface). interface.package ≡ None) p.interfaces
  pub worlds : Each (λ (world : World). world.package ≡ None) p.worlds

-- the shape of an unresolved package
pub record IsShaped (p : UnresolvedPackage) : Type 0 where
  pub keys : KeysDiffer p
  pub unplaced : IsUnplaced p
  pub foreign : HasForeign p
  pub unknown : HasUnknown p
  pub names : HasNames p
  pub owners : HasUnresolvedOwners p
  pub references : HasUnresolvedReferences p
  pub own : KeepsToOwn p
  pub worlds : HasUnresolvedWorlds p
  -- no interface uses itself, through whatever others
  pub uses : IsAcyclic (uses_of p.types p.interfaces)

-- the shape of a group: its main package and its nested ones have theirs
pub record IsGroupShaped (g : UnresolvedPackageGroup) : Type 0 where
  pub main : IsShaped g.main
  pub nested : Each IsShaped g.nested
