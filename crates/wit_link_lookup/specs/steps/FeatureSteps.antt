-- What the steps of finding what is active, of asking `@since`s, and of looking for what is left out see: for the
-- contracts of this crate's own functions.
use Rattle.std.specs.Prelude.{◌≡◌, ◌≢◌, ◌⊎◌, ◌||◌, ◌&&◌, ◌<◌, ℕ, Bool, true, false, not, List, map, length, nat_eq, slice_get, slice_set, Option, None, Some, [], ◌∷◌, Contains}
use Rattle.std.specs.List.{list_any, range_with_len}
use Rattle.std.specs.Option.{option_map_or}
use Rattle.std.specs.declared.cmp.Ordering.TheVariants.{Less}
use Rattle.wit_values.specs.Version.{Parts, version_cmp}
use Rattle.wit_data.specs.Each.{Each, SomeAt}
use Rattle.wit_data.specs.Entries.{Entry}
use Rattle.wit_data.specs.Foreign.{ForeignItem, interface_id, world_id}
use Rattle.wit_data.specs.Kind.{function_references, named_type}
use Rattle.wit_data.specs.Shape.{IsShaped}
use Rattle.wit_data.specs.declared.unresolved.AstItem.{AstItem}
use Rattle.wit_data.specs.declared.types.Field.{Field}
use Rattle.wit_data.specs.declared.function.Function.{Function}
use Rattle.wit_data.specs.declared.interface.Interface.{Interface}
use Rattle.wit_data.specs.declared.stability.Stability.{Stability}
use Rattle.wit_data.specs.declared.types.TypeDef.{TypeDef}
use Rattle.wit_data.specs.declared.unresolved.UnresolvedPackage.{UnresolvedPackage}
use Rattle.wit_data.specs.declared.world.World.{World}
use Rattle.wit_data.specs.declared.world.WorldInclude.{WorldInclude}
use Rattle.wit_data.specs.declared.world.WorldItem.{WorldItem}
use Rattle.wit_data.specs.declared.stability.Stability.TheVariants.{Unknown, Stable, Unstable}
use Rattle.wit_data.specs.declared.types.TypeDefKind.TheVariants as kind
use Rattle.wit_data.specs.declared.types.TypeOwner.TheVariants as owner
use Rattle.wit_data.specs.declared.unresolved.AstItem.TheVariants as named
use Rattle.wit_data.specs.declared.world.WorldItem.TheVariants as item
use Rattle.wit_graph_data.specs.declared.features.Features.{Features}
use Rattle.wit_graph_data.specs.declared.error_kind.ResolveErrorKind.{ResolveErrorKind}
use Rattle.wit_graph_data.specs.declared.error_kind.ResolveErrorKind.TheVariants.{OutOfMemory}
use Rattle.wit_link_spec.specs.Addition.{Addition}
use Rattle.wit_link_spec.specs.steps.AdditionRefs.{activity_of, addition_of}
use Rattle.wit_link_spec.specs.Cause.{IsAdditionCause}
use Rattle.wit_link_spec.specs.Gates.{HasOwnGate, IsAsked, OptionalSpan, asked_gates, interface_is_active, is_active, is_foreign_interface, is_foreign_world, type_is_active, world_is_active}
use Rattle.wit_link_spec.specs.Reasons.{AType, AWorld, AnInterface, IsActiveFunction, IsExcluded, RefersTo, Thing, kind_references, owner_thing}
use Rattle.wit_link_spec.specs.declared.addition.Activity.{Activity}
use Rattle.wit_link_lookup.specs.declared.checker.Checker.{Checker}
use Rattle.wit_link_lookup.specs.declared.needs.Needed.{Needed}
use Rattle.wit_link_lookup.specs.declared.needs.Needed.TheVariants as needed
use Rattle.wit_link_spec.specs.steps.Parts.{some_active, function_is_active, include_is_active}

-- ---- what is active

-- interface i is the package's own and its gate is active
abbrev pub own_interface_flag : Features → UnresolvedPackage → ℕ → Bool
own_interface_flag features u i =
    not (is_foreign_interface u i)
    && option_map_or (λ (interface : Interface). is_active features interface.stability)
    (slice_get u.interfaces i) false

-- so is world w
abbrev pub own_world_flag : Features → UnresolvedPackage → ℕ → Bool
own_world_flag features u w =
    not (is_foreign_world u w)
    && option_map_or (λ (world : World). is_active features world.stability)
    (slice_get u.worlds w) false

-- what is active where nothing that is named of other packages is
abbrev pub own_activity : Features → UnresolvedPackage → Activity
own_activity features u = record {
  types = map (type_is_active features u.types) (range_with_len 0 (length u.types));
  interfaces = map (own_interface_flag features u) (range_with_len 0 (length u.interfaces));
  worlds = map (own_world_flag features u) (range_with_len 0 (length u.worlds));
}

-- there is a flag for the item
abbrev pub HasFlag : Activity → AstItem → Type 0
HasFlag activity (named.Interface id) = id < length activity.interfaces
HasFlag activity (named.World id) = id < length activity.worlds

-- the item is active
abbrev pub with_item : Activity → AstItem → Activity
with_item activity (named.Interface id) =
    record activity { interfaces = slice_set activity.interfaces id true }
with_item activity (named.World id) = record activity { worlds = slice_set activity.worlds id true }

-- the item is thing i of its sort, and is named under an active gate
abbrev pub is_marked : Features → (AstItem → List ℕ) → ℕ → ForeignItem → Bool
is_marked features id i item = list_any (nat_eq i) (id item.1.0) && some_active features item.1.1

-- flags are as before, and set for what is named under an active gate
abbrev pub AreNamedFlags : Features → (AstItem → List ℕ) → List ForeignItem → List Bool → List Bool
    → Type 0
AreNamedFlags features id items old new =
    (length new ≡ length old)
    × ((i : ℕ) (flag : Bool) → slice_get old i ≡ Some flag
    → slice_get new i ≡ Some (flag || list_any (is_marked features id i) items))

pub record IsMarked (features : Features) (items : List ForeignItem) (old new : Activity) : Type 0
  where
    pub types : new.types ≡ old.types
    pub interfaces : AreNamedFlags features interface_id items old.interfaces new.interfaces
    pub worlds : AreNamedFlags features world_id items old.worlds new.worlds

-- ---- the checker

-- the addition that is looked at
abbrev pub seen : Checker → Addition
seen checker = addition_of checker.addition

-- the package has its shape, and the activity is that of the addition
pub record IsCheckerReady (checker : Checker) : Type 0 where
  pub shaped : IsShaped checker.addition.unresolved.now
  pub activity : checker.activity.now ≡ activity_of (seen checker)

-- a refusal tells a reason, or that memory is wanting
abbrev pub MayRefuse : Checker → ResolveErrorKind → Type 0
MayRefuse checker kind = (kind ≡ OutOfMemory) ⊎ IsAdditionCause (seen checker) kind

-- ---- versions

-- the gate is asked, there
abbrev pub Asks : Checker → Stability → OptionalSpan → Type 0
Asks checker note place =
    IsAsked checker.addition.features.now checker.addition.unresolved.now note place

-- a package of this version, or of none, has what came with another one
abbrev pub HasReached : Option Parts → Parts → Type 0
HasReached None since = ⊥
HasReached (Some version) since = version_cmp version since ≢ Less

-- the package meets the gate
abbrev pub IsMet : Checker → Stability → Type 0
IsMet checker Unknown = Unit {0}
IsMet checker (Stable since deprecated) =
    HasReached checker.addition.unresolved.now.name.version since
IsMet checker (Unstable feature deprecated) = Unit {0}

-- the gate of an entry, where it has one of its own, is asked
abbrev pub AsksItem : Checker → WorldItem → Type 0
AsksItem checker item =
    (note : Stability) (place : OptionalSpan) → HasOwnGate item note place → Asks checker note place

-- the package meets it
abbrev pub MeetsItem : Checker → WorldItem → Type 0
MeetsItem checker item =
    (note : Stability) (place : OptionalSpan) → HasOwnGate item note place → IsMet checker note

-- the item is there
abbrev pub IsThere : Checker → AstItem → Type 0
IsThere checker (named.Interface id) = id < length checker.addition.unresolved.now.interfaces
IsThere checker (named.World id) = id < length checker.addition.unresolved.now.worlds

-- the item is at that place
abbrev pub IsAt : Checker → AstItem → OptionalSpan → Type 0
IsAt checker (named.Interface id) place =
    SomeAt checker.addition.unresolved.now.interfaces id
    (λ (interface : Interface). place ≡ interface.span)
IsAt checker (named.World id) place =
    SomeAt checker.addition.unresolved.now.worlds id (λ (world : World). place ≡ world.span)

-- the package meets those gates of a foreign item that are asked
abbrev pub MeetsForeign : Checker → ForeignItem → Type 0
MeetsForeign checker item =
    Each (IsMet checker) (asked_gates checker.addition.features.now item.1.1)

-- the package meets the gates of the functions of an interface that is active
abbrev pub MeetsFunctions : Checker → ℕ → Interface → Type 0
MeetsFunctions checker i interface =
    interface_is_active checker.addition.features.now checker.addition.unresolved.now i ≡ true
    → Each (λ (e : List ℕ × Function). IsMet checker e.1.stability) interface.functions

-- the package meets the gates of the parts of a world that is active
pub record PartsAreMet (checker : Checker) (world : World) : Type 0 where
  pub imports : Each (λ (e : Entry). MeetsItem checker e.1) world.imports
  pub exports : Each (λ (e : Entry). MeetsItem checker e.1) world.exports
  pub includes : Each (λ (i : WorldInclude). IsMet checker i.stability) world.includes

abbrev pub MeetsParts : Checker → ℕ → World → Type 0
MeetsParts checker w world =
    world_is_active checker.addition.features.now checker.addition.unresolved.now w ≡ true
    → PartsAreMet checker world

-- a thing that is needed, as reasons speak of it
abbrev pub thing_of : Needed → Thing
thing_of (needed.Type t) = AType t
thing_of (needed.Interface i) = AnInterface i
thing_of (needed.World w) = AWorld w

-- the thing is active
abbrev pub thing_is_active : Addition → Thing → Bool
thing_is_active a (AType t) = type_is_active a.features a.unresolved.types t
thing_is_active a (AnInterface i) = interface_is_active a.features a.unresolved i
thing_is_active a (AWorld w) = world_is_active a.features a.unresolved w

-- the thing is not left out
abbrev pub Stays : Checker → Thing → Type 0
Stays checker thing = IsExcluded (seen checker) thing → ⊥

-- the thing is referred to, there
abbrev pub IsReferred : Checker → Thing → OptionalSpan → Type 0
IsReferred checker thing place = RefersTo (seen checker) thing place

-- ---- types

-- the type is active
pub record IsActiveType (checker : Checker) (def : TypeDef) : Type 0 where
  pub t : ℕ
  pub at : slice_get checker.addition.unresolved.now.types t ≡ Some def
  pub active : type_is_active checker.addition.features.now checker.addition.unresolved.now.types t
      ≡ true

-- what its kind names is referred to
abbrev pub KindRefers : Checker → TypeDef → Type 0
KindRefers checker def =
    (t : ℕ) (place : OptionalSpan) → Contains (kind_references def.kind def.span) (t, place)
    → IsReferred checker (AType t) place

-- and is not left out
abbrev pub KindStays : Checker → TypeDef → Type 0
KindStays checker def =
    (t : ℕ) (place : OptionalSpan) → Contains (kind_references def.kind def.span) (t, place)
    → Stays checker (AType t)

-- the interface of a foreign type is not left out
abbrev pub ForeignStays : Checker → TypeDef → Type 0
ForeignStays checker def = (i : ℕ) → def.owner ≡ owner.Interface i → Stays checker (AnInterface i)

-- the owner of any other type isn't
abbrev pub OwnerStays : Checker → TypeDef → Type 0
OwnerStays checker def = (thing : Thing) → owner_thing def.owner ≡ thing ∷ [] → Stays checker thing

-- what a type that is active needs is not left out
pub record TypeStays (checker : Checker) (def : TypeDef) : Type 0 where
  pub refers : KindStays checker def
  pub foreign : def.kind ≡ kind.Unknown → ForeignStays checker def
  pub own : def.kind ≢ kind.Unknown → OwnerStays checker def

abbrev pub TypesStay : Checker → ℕ → TypeDef → Type 0
TypesStay checker t def =
    type_is_active checker.addition.features.now checker.addition.unresolved.now.types t ≡ true
    → TypeStays checker def

-- what a field names is referred to
abbrev pub RefersInField : Checker → Field → Type 0
RefersInField checker field =
    (t : ℕ) → Contains (named_type field.ty) t → IsReferred checker (AType t) field.span

-- and is not left out
abbrev pub FieldStays : Checker → Field → Type 0
FieldStays checker field = (t : ℕ) → Contains (named_type field.ty) t → Stays checker (AType t)

-- ---- functions, entries and includes

-- the function is active where its gate lets it
abbrev pub MayBeActive : Checker → Function → Type 0
MayBeActive checker f =
    function_is_active checker.addition.features.now f ≡ true → IsActiveFunction (seen checker) f

-- what it needs is not left out where it is active
abbrev pub FunctionStays : Checker → Function → Type 0
FunctionStays checker f =
    function_is_active checker.addition.features.now f ≡ true
    → Each (λ t. Stays checker (AType t)) (function_references f)

-- an entry refers to what it holds where its gate lets it
abbrev pub RefersByItem : Checker → WorldItem → Type 0
RefersByItem checker (item.Interface id stability docs span external_id) =
    is_active checker.addition.features.now stability ≡ true
    → IsReferred checker (AnInterface id) span
RefersByItem checker (item.Function f) = MayBeActive checker f
RefersByItem checker (item.Type_ id span) = Unit {0}

-- and that is not left out
abbrev pub ItemStays : Checker → WorldItem → Type 0
ItemStays checker (item.Interface id stability docs span external_id) =
    is_active checker.addition.features.now stability ≡ true → Stays checker (AnInterface id)
ItemStays checker (item.Function f) = FunctionStays checker f
ItemStays checker (item.Type_ id span) = Unit {0}

-- an include refers to its world where its gate lets it
abbrev pub RefersByInclude : Checker → WorldInclude → Type 0
RefersByInclude checker i =
    include_is_active checker.addition.features.now i ≡ true
    → IsReferred checker (AWorld i.id) i.span

-- and that is not left out
abbrev pub IncludeStays : Checker → WorldInclude → Type 0
IncludeStays checker i =
    include_is_active checker.addition.features.now i ≡ true → Stays checker (AWorld i.id)

-- ---- interfaces and worlds

-- what the functions of an interface that is active need is not left out
abbrev pub FunctionsStay : Checker → ℕ → Interface → Type 0
FunctionsStay checker i interface =
    interface_is_active checker.addition.features.now checker.addition.unresolved.now i ≡ true
    → Each (λ (e : List ℕ × Function). FunctionStays checker e.1) interface.functions

-- what the parts of a world need is not left out
pub record PartsAreAccepted (checker : Checker) (world : World) : Type 0 where
  pub imports : Each (λ (e : Entry). ItemStays checker e.1) world.imports
  pub exports : Each (λ (e : Entry). ItemStays checker e.1) world.exports
  pub includes : Each (IncludeStays checker) world.includes

abbrev pub PartsStay : Checker → ℕ → World → Type 0
PartsStay checker w world =
    world_is_active checker.addition.features.now checker.addition.unresolved.now w ≡ true
    → PartsAreAccepted checker world
