-- What is answered to questions about a graph.
-- Source: the questions of the same names of wit-parser 0.263.0, whose documentation says what they answer;
-- canonical interface names in the component model's explainer. In which order futures and streams come is
-- a rule of this project.
use Rattle.std.specs.Prelude.{◌≡◌, ℕ, Bool, true, false, List, [], ◌∷◌, ◌++◌, ◌&&◌, map, filter, length, slice_get, Option, None, Some, option_and_then, unwrap_or, if◌then◌else◌, flat_map, option_map, ◌==◌, filter_map}
use Rattle.std.specs.List.{list_all, range_with_len, enumerate_from}
use Rattle.std.specs.Option.{option_map_or}
use Rattle.wit_values.specs.Version.{Parts}
use Rattle.wit_digraph.specs.Relation.{Reaches, direct}
use Rattle.wit_digraph.specs.PostOrder.{first_of_each, post_order}
use Rattle.wit_data.specs.Each.{SomeAt}
use Rattle.wit_data.specs.Kind.{KindPart, kind_parts, variant_of, referred_in, signature_types}
use Rattle.wit_names.specs.Track.{track_suffix, track_text}
use Rattle.wit_data.specs.Uses.{uses_of, interface_uses, type_interface_dep}
use Rattle.wit_data.specs.declared.function.Function.{Function}
use Rattle.wit_data.specs.declared.interface.Interface.{Interface}
use Rattle.wit_data.specs.declared.kind.PartRole.{PartRole}
use Rattle.wit_data.specs.declared.types.TypeDef.{TypeDef}
use Rattle.wit_data.specs.declared.types.TypeDefKind.{TypeDefKind}
use Rattle.wit_data.specs.declared.types.Type_.{Type_}
use Rattle.wit_data.specs.declared.kind.Variant.{Variant}
use Rattle.wit_data.specs.declared.world.World.{World}
use Rattle.wit_data.specs.declared.world.WorldItem.{WorldItem}
use Rattle.wit_data.specs.declared.world.WorldKey.{WorldKey}
use Rattle.wit_data.specs.declared.kind.PartRole.TheVariants.{Argument}
use Rattle.wit_data.specs.declared.kind.Variant.TheVariants as variants
use Rattle.wit_data.specs.declared.types.TypeDefKind.TheVariants as kind
use Rattle.wit_data.specs.declared.types.Type_.TheVariants as type
use Rattle.wit_data.specs.declared.world.WorldItem.TheVariants as item
use Rattle.wit_data.specs.declared.world.WorldKey.TheVariants as key
use Rattle.wit_graph_data.specs.declared.graph.Package.{Package}

-- Which package depends on which.
--
-- A graph has three relations, each as rows: `uses_of` says which interfaces an interface uses,
-- `type_references` which types a type refers to, and `package_uses` which packages a package depends on.
-- Source: `package_direct_deps` of wit-parser 0.263.0.

-- the interface that an entry of a world names: the interface that it is, or of a type use the interface
-- whose type it is
abbrev pub entry_interface : List TypeDef → WorldItem → Option ℕ
entry_interface types (item.Interface id stability docs span external_id) = Some id
entry_interface types (item.Function function) = None
entry_interface types (item.Type_ id span) = type_interface_dep types id

-- the interfaces that some entries name, in order
abbrev pub entry_interfaces : List TypeDef → List (WorldKey × WorldItem) → List ℕ
entry_interfaces types entries =
    filter_map (λ (e : WorldKey × WorldItem). entry_interface types e.1) entries

-- the interfaces that a world names, those of its imports first
abbrev pub world_interfaces : List TypeDef → World → List ℕ
world_interfaces types world =
    entry_interfaces types world.imports ++ entry_interfaces types world.exports

-- what the interfaces of a package use, in the order of its table, and then what its worlds name, in the
-- order of theirs
abbrev pub package_interfaces : List TypeDef → List Interface → List World → Package → List ℕ
package_interfaces types interfaces worlds home =
    flat_map
    (λ (e : List ℕ × ℕ). option_map_or (interface_uses types) (slice_get interfaces e.1) [])
    home.interfaces
    ++ flat_map
    (λ (e : List ℕ × ℕ). option_map_or (world_interfaces types) (slice_get worlds e.1) [])
    home.worlds

-- the package of interface i, where it is another than package p
abbrev pub other_package : List Interface → ℕ → ℕ → Option ℕ
other_package interfaces p i =
    option_and_then (λ (interface : Interface).
    option_and_then (λ q. if q == p then None else Some q) interface.package)
    (slice_get interfaces i)

-- list p: the packages that package p depends on directly, in order, with repeats
abbrev pub package_uses : List TypeDef → List Interface → List World → List Package → List (List ℕ)
package_uses types interfaces worlds packages =
    map (λ (e : ℕ × Package).
    filter_map (other_package interfaces e.0)
    (package_interfaces types interfaces worlds e.1)) (enumerate_from 0 packages)

-- the direct dependencies of package p, none where there is no such package
abbrev pub package_direct_deps : List TypeDef → List Interface → List World → List Package → ℕ
    → List ℕ
package_direct_deps types interfaces worlds packages p =
    direct (package_uses types interfaces worlds packages) p

-- ---- dependencies

-- the interfaces that interface i uses directly, in the order of its types, with repeats
abbrev pub interface_direct_deps : List TypeDef → List Interface → ℕ → List ℕ
interface_direct_deps types interfaces i = direct (uses_of types interfaces) i

-- all packages in the order of their ids, but each after those that it depends on, in order, and each once
abbrev pub topological_packages : List TypeDef → List Interface → List World → List Package → List ℕ
topological_packages types interfaces worlds packages =
    first_of_each (flat_map (post_order (package_uses types interfaces worlds packages))
    (range_with_len 0 (length packages)))

-- ---- canonical names: with the text of the track in the place of the version

-- `@` and the text of the track, where there is a version
abbrev pub track_part : Option Parts → List ℕ
track_part None = []
track_part (Some version) = 64 ∷ track_text version

-- `namespace:package/name`, and `@track` where there is a version, of a name in package p; empty where that isn't
-- there
abbrev pub canonical_id_text : List Package → ℕ → List ℕ → List ℕ
canonical_id_text packages p name =
    option_map_or (λ (home : Package).
    home.name.namespace
    ++ (58 ∷ (home.name.name ++ (47 ∷ (name ++ track_part home.name.version)))))
    (slice_get packages p) []

-- the canonical id of interface i, where it is there and has a name and a package
abbrev pub canonical_interface_id_at : List Package → List Interface → ℕ → Option (List ℕ)
canonical_interface_id_at packages interfaces i =
    option_and_then (λ (interface : Interface).
    option_and_then
    (λ name. option_map (λ p. canonical_id_text packages p name) interface.package)
    interface.name) (slice_get interfaces i)

-- what names a key: a label as it stands, an interface by its canonical id
abbrev pub canonical_key_text : List Package → List Interface → WorldKey → List ℕ
canonical_key_text packages interfaces (key.Name label) = label
canonical_key_text packages interfaces (key.Interface i) =
    unwrap_or (canonical_interface_id_at packages interfaces i) []

-- what the canonical id of interface i leaves out of its version
abbrev pub version_suffix_of : List Package → List Interface → ℕ → Option (List ℕ)
version_suffix_of packages interfaces i =
    option_and_then (λ (interface : Interface).
    option_and_then (λ p.
    option_and_then (λ (home : Package). option_and_then track_suffix home.name.version)
    (slice_get packages p)) interface.package) (slice_get interfaces i)

-- ---- entries of worlds

-- interface i, where it has a name
abbrev pub named_interface : List Interface → ℕ → Option ℕ
named_interface interfaces i =
    option_and_then (λ (interface : Interface). option_map (λ (name : List ℕ). i) interface.name)
    (slice_get interfaces i)

-- the interface with a name that stands under a label
abbrev pub implements_interface : List Interface → WorldKey → WorldItem → Option ℕ
implements_interface interfaces (key.Name label)
    (item.Interface i stability docs span external_id) = named_interface interfaces i
implements_interface interfaces k held = None

-- the external id of an entry: its own, or that of its function or type
abbrev pub external_id_value : List TypeDef → WorldItem → Option (List ℕ)
external_id_value types (item.Interface i stability docs span external_id) = external_id
external_id_value types (item.Function f) = f.external_id
external_id_value types (item.Type_ t span) =
    option_and_then (λ (def : TypeDef). def.external_id) (slice_get types t)

-- ---- values

-- the ten number types
abbrev pub is_number : Type_ → Bool
is_number type.U8 = true
is_number type.U16 = true
is_number type.U32 = true
is_number type.U64 = true
is_number type.S8 = true
is_number type.S16 = true
is_number type.S32 = true
is_number type.S64 = true
is_number type.F32 = true
is_number type.F64 = true
is_number _ = false

-- a number, or a type of the list, of which others say whether all its bits are valid
abbrev pub is_number_or_listed : Type_ → Bool
is_number_or_listed (type.Id t) = true
is_number_or_listed other = is_number other

-- do kinds of a variant have all their parts at fixed places? A handle is a number
abbrev pub has_fixed_layout : Variant → Bool
has_fixed_layout variants.Own = true
has_fixed_layout variants.Borrow = true
has_fixed_layout variants.Alias = true
has_fixed_layout variants.FixedLengthList = true
has_fixed_layout variants.Record = true
has_fixed_layout variants.Tuple = true
has_fixed_layout _ = false

-- do values of a kind hold those of its parts in a role? A handle holds nothing more
abbrev pub is_held : PartRole → Bool
is_held Argument = false
is_held _ = true

-- all parts of the kind are at fixed places, and those that its values hold are numbers and types of the list
abbrev pub has_fixed_parts : TypeDefKind → Bool
has_fixed_parts k =
    has_fixed_layout (variant_of k)
    && list_all (λ (p : KindPart).
    if is_held p.role then option_map_or is_number_or_listed p.ty false else true)
    (kind_parts k)

-- as adjacency lists: list t has what the values of type t hold
abbrev pub type_contents : List TypeDef → List (List ℕ)
type_contents types = map (λ (def : TypeDef). referred_in is_held def.kind) types

-- whatever its bits, a value of the type is valid: it is a number, or a type whose values hold nothing
-- but numbers and handles at fixed places
abbrev pub HasAllBitsValid : List TypeDef → Type_ → Type 0
HasAllBitsValid types (type.Id t) =
    (s : ℕ) → Reaches (type_contents types) t s
    → SomeAt types s (λ (def : TypeDef). has_fixed_parts def.kind ≡ true)
HasAllBitsValid types other = is_number other ≡ true

-- the kind is a future or a stream
abbrev pub is_future_kind : TypeDefKind → Bool
is_future_kind (kind.Future ty) = true
is_future_kind (kind.Stream ty) = true
is_future_kind _ = false

-- the futures and streams that the values of a function's parameters and of its result hold, those inside
-- others before them, with repeats
abbrev pub futures_and_streams : List TypeDef → Function → List ℕ
futures_and_streams types f =
    filter (λ t.
    option_map_or (λ (def : TypeDef). is_future_kind def.kind) (slice_get types t) false)
    (flat_map (post_order (type_contents types)) (signature_types f))
