-- Why an addition is refused: a record for each reason, with the fields and the span that the error tells.
-- Most read the features, the graph and the package alone.
-- Source: `append` of wit-parser 0.263.0.
use Rattle.std.specs.Prelude.{◌≡◌, ◌≢◌, ◌⊎◌, ℕ, true, false, List, [], ◌∷◌, ◌++◌, map, slice_get, Option, None, Some, Contains, codes, is_some, if◌then◌else◌, flat_map}
use Rattle.std.specs.Map.{keys_of, lookup}
use Rattle.std.specs.declared.cmp.Ordering.TheVariants.{Less}
use Rattle.wit_values.specs.Version.{Parts, version_cmp}
use Rattle.wit_digraph.specs.Relation.{Reaches}
use Rattle.wit_data.specs.Each.{SomeAt}
use Rattle.wit_data.specs.Foreign.{ForeignItem}
use Rattle.wit_names.specs.PackageName.{same_package, package_name_text}
use Rattle.wit_data.specs.Kind.{function_references, named_option, named_type, referred}
use Rattle.wit_sources.specs.Span.{moved_by}
use Rattle.wit_data.specs.declared.stability.Docs.{Docs}
use Rattle.wit_data.specs.declared.types.Field.{Field}
use Rattle.wit_data.specs.declared.function.Function.{Function}
use Rattle.wit_data.specs.declared.interface.Interface.{Interface}
use Rattle.wit_names.specs.declared.package_name.PackageName.{PackageName}
use Rattle.wit_data.specs.declared.stability.Stability.{Stability}
use Rattle.wit_data.specs.declared.types.TypeDef.{TypeDef}
use Rattle.wit_data.specs.declared.types.TypeDefKind.{TypeDefKind}
use Rattle.wit_data.specs.declared.types.TypeOwner.{TypeOwner}
use Rattle.wit_data.specs.declared.world.World.{World}
use Rattle.wit_data.specs.declared.world.WorldInclude.{WorldInclude}
use Rattle.wit_data.specs.declared.world.WorldKey.{WorldKey}
use Rattle.wit_data.specs.declared.stability.Stability.TheVariants.{Stable}
use Rattle.wit_data.specs.declared.types.TypeDefKind.TheVariants as kind
use Rattle.wit_data.specs.declared.types.TypeOwner.TheVariants as owner
use Rattle.wit_data.specs.declared.unresolved.AstItem.TheVariants as named
use Rattle.wit_data.specs.declared.world.WorldItem.TheVariants as item
use Rattle.wit_graph_data.specs.Queries.{type_contents}
use Rattle.wit_graph_data.specs.declared.graph.Graph.{Graph}
use Rattle.wit_link_spec.specs.Addition.{Addition}
use Rattle.wit_link_spec.specs.CauseText.{excluded_text, excluded_owner_text}
use Rattle.wit_remap_spec.specs.Borrows.{borrow_text, HoldsBorrow}
use Rattle.wit_link_spec.specs.Gates.{OptionalSpan, HasEntry, IsAsked, interface_is_active, is_active, type_is_active, world_is_active}
use Rattle.wit_link_spec.specs.Lookup.{find_interface, find_world, foreign_interface_id, foreign_type_id, is_foreign_type, named_items}
use Rattle.wit_graph_data.specs.Named.{interface_type}
use Rattle.wit_remap_spec.specs.Resources.{leads_to_resource}
use Rattle.semver.specs.Identifiers.{parts_text}

-- does the graph have a package of this name?
abbrev pub HasPackage : Graph → PackageName → Type 0
HasPackage g name = is_some (lookup (same_package name) g.package_names) ≡ true

-- ---- 5: the package is there

pub record IsDuplicate (a : Addition) (name : PackageName) (span1 span2 : OptionalSpan) : Type 0
  where
    pub there : HasPackage a.graph a.unresolved.name
    pub name_is : name ≡ a.unresolved.name
    pub span1_is : span1 ≡ moved_by a.offset a.unresolved.package_name_span
    pub span2_is : span2 ≡ None

-- ---- 1, 2, 3: what is named of other packages isn't there

-- the packages that are known: those of the graph in order and the one that is added, each once
abbrev pub known_packages : Addition → List PackageName
known_packages a =
    if is_some (lookup (same_package a.unresolved.name) a.graph.package_names)
    then keys_of a.graph.package_names
    else keys_of a.graph.package_names ++ a.unresolved.name ∷ []

-- 1: something is named of a package that is neither in the graph nor the one that is added
pub record LacksPackage (a : Addition) (span : OptionalSpan) (requested : PackageName)
    (known : List PackageName) : Type 0 where
  pub at : ℕ
  pub items : List ForeignItem
  pub names : slice_get a.unresolved.foreign_deps at ≡ Some (requested, items)
  pub some : items ≢ []
  pub absent : HasPackage a.graph requested → ⊥
  pub other : requested ≢ a.unresolved.name
  pub span_is : SomeAt a.unresolved.foreign_dep_spans at
      (λ (s : OptionalSpan). span ≡ moved_by a.offset s)
  pub known_are : known ≡ known_packages a

-- 2: a world that is active isn't in the table of its package; the package that is added counts as there and empty
pub record LacksWorld (a : Addition) (span : OptionalSpan) (requested : List ℕ)
    (home : PackageName) : Type 0 where
  pub at : ℕ
  pub w : ℕ
  pub notes : List Stability
  pub names : Contains (named_items a.unresolved.foreign_deps)
      (at, home, (requested, (named.World w, notes)))
  pub active : world_is_active a.features a.unresolved w ≡ true
  pub has_package : HasPackage a.graph home ⊎ (home ≡ a.unresolved.name)
  pub absent : find_world a.graph a.unresolved.name home requested ≡ None
  pub span_is : SomeAt a.unresolved.worlds w
      (λ (world : World). span ≡ moved_by a.offset world.span)

-- 3: the same of an interface
pub record LacksInterface (a : Addition) (span : OptionalSpan) (requested : List ℕ)
    (home : PackageName) : Type 0 where
  pub at : ℕ
  pub i : ℕ
  pub notes : List Stability
  pub names : Contains (named_items a.unresolved.foreign_deps)
      (at, home, (requested, (named.Interface i, notes)))
  pub active : interface_is_active a.features a.unresolved i ≡ true
  pub has_package : HasPackage a.graph home ⊎ (home ≡ a.unresolved.name)
  pub absent : find_interface a.graph a.unresolved.name home requested ≡ None
  pub span_is : SomeAt a.unresolved.interfaces i
      (λ (interface : Interface). span ≡ moved_by a.offset interface.span)

-- ---- 9, 10: a `@since` that the package can't meet

-- 9: a `@since` is asked, and the package has no version
pub record LacksVersion (a : Addition) (span : OptionalSpan) (message : List ℕ) : Type 0 where
  pub since : Parts
  pub deprecated : Option Parts
  pub place : OptionalSpan
  pub asked : IsAsked a.features a.unresolved (Stable since deprecated) place
  pub no_version : a.unresolved.name.version ≡ None
  pub span_is : span ≡ moved_by a.offset place
  pub message_is : message
      ≡ codes "package ["
      ++ (package_name_text a.unresolved.name
      ++ codes "] contains a feature gate with a version specifier, so it must have a version")

-- 10: a `@since` is asked, and the package's version is below it
pub record IsUnreleased (a : Addition) (span : OptionalSpan) (message : List ℕ) : Type 0 where
  pub since : Parts
  pub deprecated : Option Parts
  pub version : Parts
  pub place : OptionalSpan
  pub asked : IsAsked a.features a.unresolved (Stable since deprecated) place
  pub has_version : a.unresolved.name.version ≡ Some version
  pub below : version_cmp version since ≡ Less
  pub span_is : span ≡ moved_by a.offset place
  pub message_is : message
      ≡ codes "feature gate cannot reference unreleased version "
      ++ (parts_text since
      ++ (codes " of package ["
      ++ (package_name_text a.unresolved.name
      ++ (codes "] (current version " ++ (parts_text version ++ codes ")")))))

-- ---- 11, 12: what is active needs what is left out

-- a thing that may be referred to
pub data Thing : Type 0 where
  AType : ℕ → Thing
  AnInterface : ℕ → Thing
  AWorld : ℕ → Thing

-- the word for a thing
abbrev pub word_of : Thing → List ℕ
word_of (AType t) = codes "type"
word_of (AnInterface i) = codes "interface"
word_of (AWorld w) = codes "world"

-- the package leaves the thing out
abbrev pub IsExcluded : Addition → Thing → Type 0
IsExcluded a (AType t) = type_is_active a.features a.unresolved.types t ≡ false
IsExcluded a (AnInterface i) = interface_is_active a.features a.unresolved i ≡ false
IsExcluded a (AWorld w) = world_is_active a.features a.unresolved w ≡ false

-- the types that a type refers to, each with the span: that of the field, or of the type
abbrev pub kind_references : TypeDefKind → OptionalSpan → List (ℕ × OptionalSpan)
kind_references (kind.Record fields) span =
    flat_map (λ (f : Field). map (λ (t : ℕ). (t, f.span)) (named_type f.ty)) fields
kind_references other span = map (λ (t : ℕ). (t, span)) (referred other)

-- a function of the package that is active: of an interface or of a world
pub data IsActiveFunction (a : Addition) : Function → Type 0 where
  of_interface : (i : ℕ) (interface : Interface) (name : List ℕ) (f : Function)
      → slice_get a.unresolved.interfaces i ≡ Some interface
      → interface_is_active a.features a.unresolved i ≡ true
      → Contains interface.functions (name, f) → is_active a.features f.stability ≡ true
      → IsActiveFunction a f
  of_world : (w : ℕ) (world : World) (k : WorldKey) (f : Function)
      → slice_get a.unresolved.worlds w ≡ Some world
      → world_is_active a.features a.unresolved w ≡ true
      → HasEntry world (k, item.Function f) → is_active a.features f.stability ≡ true
      → IsActiveFunction a f

-- what is active refers to a thing, at a span
pub data RefersTo (a : Addition) : Thing → OptionalSpan → Type 0 where
  -- a type to those that its kind names, whatever owns it
  of_type : (t : ℕ) (def : TypeDef) (named : ℕ) (place : OptionalSpan)
      → slice_get a.unresolved.types t ≡ Some def
      → type_is_active a.features a.unresolved.types t ≡ true
      → Contains (kind_references def.kind def.span) (named, place) → RefersTo a (AType named) place
  -- a foreign type to its interface, at no known span
  of_foreign_type : (t : ℕ) (def : TypeDef) (i : ℕ) → slice_get a.unresolved.types t ≡ Some def
      → def.kind ≡ kind.Unknown → type_is_active a.features a.unresolved.types t ≡ true
      → def.owner ≡ owner.Interface i → RefersTo a (AnInterface i) None
  -- a function to its resource and to the types of its parameters and of its result
  of_function : (f : Function) (named : ℕ) → IsActiveFunction a f
      → Contains (function_references f) named → RefersTo a (AType named) f.span
  -- an entry of a world to its interface
  of_entry : (w : ℕ) (world : World) (k : WorldKey) (i : ℕ) (note : Stability) (docs : Docs)
      (place : OptionalSpan) (external_id : Option (List ℕ))
      → slice_get a.unresolved.worlds w ≡ Some world
      → world_is_active a.features a.unresolved w ≡ true
      → HasEntry world (k, item.Interface i note docs place external_id)
      → is_active a.features note ≡ true → RefersTo a (AnInterface i) place
  -- an include to its world
  of_include : (w : ℕ) (world : World) (i : WorldInclude)
      → slice_get a.unresolved.worlds w ≡ Some world
      → world_is_active a.features a.unresolved w ≡ true
      → Contains world.includes i → is_active a.features i.stability ≡ true
      → RefersTo a (AWorld i.id) i.span

-- 11: what is active refers to what is left out
pub record RefersToExcluded (a : Addition) (span : OptionalSpan) (message : List ℕ) : Type 0 where
  pub thing : Thing
  pub place : OptionalSpan
  pub refers : RefersTo a thing place
  pub excluded : IsExcluded a thing
  pub span_is : span ≡ moved_by a.offset place
  pub message_is : message ≡ excluded_text (word_of thing)

-- an owner as a thing that may be left out
abbrev pub owner_thing : TypeOwner → List Thing
owner_thing (owner.World w) = AWorld w ∷ []
owner_thing (owner.Interface i) = AnInterface i ∷ []
owner_thing owner.None = []

-- 12: a type that is active, and isn't foreign, has an owner that is left out
pub record HasExcludedOwner (a : Addition) (span : OptionalSpan) (message : List ℕ) : Type 0 where
  pub t : ℕ
  pub def : TypeDef
  pub thing : Thing
  pub is : slice_get a.unresolved.types t ≡ Some def
  pub own : def.kind ≢ kind.Unknown
  pub active : type_is_active a.features a.unresolved.types t ≡ true
  pub owner : owner_thing def.owner ≡ thing ∷ []
  pub excluded : IsExcluded a thing
  pub span_is : span ≡ moved_by a.offset def.span
  pub message_is : message ≡ excluded_owner_text (word_of thing)

-- ---- 13, 14: foreign types that aren't there, or aren't resources

-- 13: a foreign type isn't in its interface
pub record ForeignTypeMissing (a : Addition) (span : OptionalSpan) (message : List ℕ) : Type 0 where
  pub t : ℕ
  pub def : TypeDef
  pub name : List ℕ
  pub i : ℕ
  pub i' : ℕ
  pub is : slice_get a.unresolved.types t ≡ Some def
  pub foreign : is_foreign_type a.unresolved t ≡ true
  pub active : type_is_active a.features a.unresolved.types t ≡ true
  pub called : def.name ≡ Some name
  pub owner : def.owner ≡ owner.Interface i
  pub owner_active : interface_is_active a.features a.unresolved i ≡ true
  pub found : foreign_interface_id a.graph a.unresolved i ≡ Some i'
  pub absent : interface_type a.graph name i' ≡ None
  pub span_is : SomeAt a.unresolved.unknown_type_spans t
      (λ (s : OptionalSpan). span ≡ moved_by a.offset s)
  pub message_is : message ≡ codes "type `" ++ (name ++ codes "` not defined in interface")

-- 14: a type that has to be a resource doesn't lead to one by aliases
pub record IsNoResource (a : Addition) (span : OptionalSpan) (message : List ℕ) : Type 0 where
  pub t : ℕ
  pub t' : ℕ
  pub place : OptionalSpan
  pub required : Contains a.unresolved.required_resource_types (t, place)
  pub active : type_is_active a.features a.unresolved.types t ≡ true
  pub found : foreign_type_id a.graph a.unresolved t ≡ Some t'
  pub no_resource : leads_to_resource a.graph.types t' ≡ false
  pub span_is : span ≡ moved_by a.offset place
  pub message_is : message ≡ codes "type used in a handle must be a resource"

-- ---- 15: a borrow in a result

-- 15: the result of a function that is active holds a borrow
pub record ReturnsBorrow (a : Addition) (span : OptionalSpan) (message : List ℕ) : Type 0 where
  pub f : Function
  pub t : ℕ
  pub active : IsActiveFunction a f
  pub result_is : Contains (named_option f.result_) t
  -- one of the package, or in a foreign type one of the graph
  pub holds : HoldsBorrow a.unresolved.types t
      ⊎ ((s : ℕ) × (s' : ℕ) × Reaches (type_contents a.unresolved.types) t s
      × (type_is_active a.features a.unresolved.types s ≡ true)
      × (foreign_type_id a.graph a.unresolved s ≡ Some s') × HoldsBorrow a.graph.types s')
  pub span_is : span ≡ moved_by a.offset f.span
  pub message_is : message ≡ borrow_text f.name

-- ---- what leaves no image

-- none of 1, 2, 3, 9, 10, 11, 12 and 13 holds, so every id of the package has an image
pub record IsResolved (a : Addition) : Type 0 where
  pub packages : (span : OptionalSpan) (requested : PackageName) (known : List PackageName)
      → LacksPackage a span requested known → ⊥
  pub worlds : (span : OptionalSpan) (requested : List ℕ) (home : PackageName)
      → LacksWorld a span requested home → ⊥
  pub interfaces : (span : OptionalSpan) (requested : List ℕ) (home : PackageName)
      → LacksInterface a span requested home → ⊥
  pub version : (span : OptionalSpan) (message : List ℕ) → LacksVersion a span message → ⊥
  pub released : (span : OptionalSpan) (message : List ℕ) → IsUnreleased a span message → ⊥
  pub references : (span : OptionalSpan) (message : List ℕ) → RefersToExcluded a span message → ⊥
  pub owners : (span : OptionalSpan) (message : List ℕ) → HasExcludedOwner a span message → ⊥
  pub types : (span : OptionalSpan) (message : List ℕ) → ForeignTypeMissing a span message → ⊥
