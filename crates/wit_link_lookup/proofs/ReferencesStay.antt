-- What is referred to, and isn't left out.
use Rattle.std.proofs.Common.{◌≡◌, ◌≢◌, ℕ, true, false, List, [], ◌∷◌, inl, inr, map, Some, slice_get, refl, sym, subst, Contains}
use Rattle.wit_digraph.specs.facts.MemberFacts.{Contains-flat_map, Contains-flat_map_cases}
use Rattle.wit_sources.specs.Span.{moved_by}
use Rattle.wit_data.specs.Each.{Each, EachAt}
use Rattle.wit_data.specs.Entries.{Entry}
use Rattle.wit_data.specs.Kind.{function_references, named_type, referred}
use Rattle.wit_data.specs.declared.types.Field.{Field}
use Rattle.wit_data.specs.declared.function.Function.{Function}
use Rattle.wit_data.specs.declared.types.TypeDef.{TypeDef}
use Rattle.wit_data.specs.declared.types.TypeDefKind.{TypeDefKind}
use Rattle.wit_data.specs.declared.world.World.{World}
use Rattle.wit_data.specs.declared.world.WorldItem.{WorldItem}
use Rattle.wit_data.specs.declared.world.WorldKey.{WorldKey}
use Rattle.wit_data.specs.declared.types.TypeDefKind.TheVariants as kind
use Rattle.wit_data.specs.declared.world.WorldItem.TheVariants as item
use Rattle.wit_graph_data.specs.declared.cause.Cause.TheVariants as cause
use Rattle.wit_graph_data.specs.declared.error_kind.ResolveErrorKind.{ResolveErrorKind}
use Rattle.wit_graph_data.specs.declared.error_kind.ResolveErrorKind.TheVariants.{Semantic}
use Rattle.wit_graph_theory.specs.facts.ListFacts.{Contains-map, Contains-map_cases, contained_at, place_of}
use Rattle.wit_link_spec.specs.Addition.{Addition}
use Rattle.wit_link_spec.specs.Cause.{IsAdditionCause, excluded_11, excluded_owner_12}
use Rattle.wit_link_spec.specs.CauseText.{excluded_text, excluded_owner_text}
use Rattle.wit_link_spec.specs.Gates.{HasEntry, OptionalSpan, world_is_active}
use Rattle.wit_link_spec.specs.steps.Passed.{NeedsNothingExcluded}
use Rattle.wit_link_spec.specs.Reasons.{AType, AWorld, AnInterface, IsActiveFunction, IsExcluded, Thing, kind_references, of_entry, of_foreign_type, of_function, of_include, of_interface, of_type, of_world, owner_thing, word_of}
use Rattle.wit_link_lookup.specs.steps.FeatureSteps.{FieldStays, FunctionsStay, IsActiveType, IsReferred, ItemStays, KindRefers, KindStays, MayRefuse, PartsStay, RefersByItem, RefersInField, Stays, TypesStay, seen, thing_is_active}
use Rattle.wit_link_lookup.specs.declared.checker.Checker.{Checker}

-- ---- what is active is not left out

pub left-out : (a : Addition) (thing : Thing) → thing_is_active a thing ≡ false → IsExcluded a thing
left-out a (AType t) none = none
left-out a (AnInterface i) none = none
left-out a (AWorld w) none = none

-- ---- refusals

pub told-excluded : (checker : Checker) (thing : Thing) (place : OptionalSpan) (error : ResolveErrorKind) → IsReferred checker thing place → thing_is_active (seen checker) thing ≡ false
    → error ≡ Semantic (moved_by checker.addition.offset place) (excluded_text (word_of thing)) cause.Excluded → MayRefuse checker error
told-excluded checker thing place error refers none is =
    inr (subst (IsAdditionCause (seen checker)) (sym is) (excluded_11 (moved_by checker.addition.offset place) (excluded_text (word_of thing)) (record {
      thing = thing;
      place = place;
      refers = refers;
      excluded = left-out (seen checker) thing none;
      span_is = refl;
      message_is = refl;
    })))

pub told-owner : (checker : Checker) (def : TypeDef) (thing : Thing) (error : ResolveErrorKind) → IsActiveType checker def → def.kind ≢ kind.Unknown → owner_thing def.owner ≡ thing ∷ []
    → thing_is_active (seen checker) thing ≡ false
    → error ≡ Semantic (moved_by checker.addition.offset def.span) (excluded_owner_text (word_of thing)) cause.ExcludedOwner → MayRefuse checker error
told-owner checker def thing error taken own owner none is =
    inr (subst (IsAdditionCause (seen checker)) (sym is) (excluded_owner_12 (moved_by checker.addition.offset def.span) (excluded_owner_text (word_of thing)) (record {
      t = taken.t;
      def = def;
      thing = thing;
      is = taken.at;
      own = own;
      active = taken.active;
      owner = owner;
      excluded = left-out (seen checker) thing none;
      span_is = refl;
      message_is = refl;
    })))

-- ---- types

-- what fields name is what a record refers to
pub fields-refer : (checker : Checker) (def : TypeDef) (fields : List Field) → def.kind ≡ kind.Record fields → KindRefers checker def → Each (RefersInField checker) fields
fields-refer checker def fields is refers i field at t has =
    let named = Contains-map (λ (u : ℕ). (u, field.span)) (named_type field.ty) t has in
    let among : Contains (kind_references (kind.Record fields) def.span) (t, field.span) =
    Contains-flat_map (λ (f : Field). map (λ (u : ℕ). (u, f.span)) (named_type f.ty)) fields field (t, field.span) (contained_at fields i field at) named in
    refers t field.span (subst (λ (k : TypeDefKind). Contains (kind_references k def.span) (t, field.span)) (sym is) among)

pub fields-stay : (checker : Checker) (def : TypeDef) (fields : List Field) → def.kind ≡ kind.Record fields → Each (FieldStays checker) fields → KindStays checker def
fields-stay checker def fields is stay t place has =
    let among : Contains (kind_references (kind.Record fields) def.span) (t, place) = subst (λ (k : TypeDefKind). Contains (kind_references k def.span) (t, place)) is has in
    let from = Contains-flat_map_cases (λ (f : Field). map (λ (u : ℕ). (u, f.span)) (named_type f.ty)) fields (t, place) among in
    let named = Contains-map_cases (λ (u : ℕ). (u, from.0.span)) (named_type from.0.ty) (t, place) from.1.1 in
    let there = place_of fields from.0 from.1.0 in
    subst (λ (p : ℕ × OptionalSpan). Stays checker (AType p.0)) named.2 (stay there.0 from.0 there.1 named.0 named.1)

-- the references of other kinds are at the type's place
placed : (kind' : TypeDefKind) (place : OptionalSpan) → ((fields : List Field) → kind' ≡ kind.Record fields → ⊥) → kind_references kind' place ≡ map (λ (t : ℕ). (t, place)) (referred kind')
placed (kind.Record fields) place other = absurd (other fields refl)
placed _ place other = refl

pub ids-refer : (checker : Checker) (def : TypeDef) (ids : List ℕ) → ((fields : List Field) → def.kind ≡ kind.Record fields → ⊥) → ids ≡ referred def.kind → KindRefers checker def
    → Each (λ t. IsReferred checker (AType t) def.span) ids
ids-refer checker def ids other are refers i t at =
    let among : Contains (referred def.kind) t = subst (λ (l : List ℕ). Contains l t) are (contained_at ids i t at) in
    refers t def.span (subst (λ (l : List (ℕ × OptionalSpan)). Contains l (t, def.span)) (sym (placed def.kind def.span other)) (Contains-map (λ (u : ℕ). (u, def.span)) (referred def.kind) t among))

pub ids-stay : (checker : Checker) (def : TypeDef) (ids : List ℕ) → ((fields : List Field) → def.kind ≡ kind.Record fields → ⊥) → ids ≡ referred def.kind
    → Each (λ t. Stays checker (AType t)) ids → KindStays checker def
ids-stay checker def ids other are stay t place has =
    let among = Contains-map_cases (λ (u : ℕ). (u, def.span)) (referred def.kind) (t, place) (subst (λ (l : List (ℕ × OptionalSpan)). Contains l (t, place)) (placed def.kind def.span other) has) in
    let there = place_of ids among.0 (subst (λ (l : List ℕ). Contains l among.0) (sym are) among.1) in
    subst (λ (p : ℕ × OptionalSpan). Stays checker (AType p.0)) among.2 (stay there.0 among.0 there.1)

-- ---- worlds

-- an entry of a world that is active
pub refers-entry : (checker : Checker) (w : ℕ) (world : World) (k : WorldKey) (i : WorldItem) → slice_get checker.addition.unresolved.now.worlds w ≡ Some world
    → world_is_active checker.addition.features.now checker.addition.unresolved.now w ≡ true → HasEntry world (k, i) → RefersByItem checker i
refers-entry checker w world k (item.Interface id stability docs span external_id) at active has = λ on. of_entry w world k id stability docs span external_id at active has on
refers-entry checker w world k (item.Function f) at active has = λ on. of_world w world k f at active has on
refers-entry checker w world k (item.Type_ id span) at active has = tt

-- ---- all of a package

-- what the steps have seen
pub record AllStay (checker : Checker) : Type 0 where
  pub types : EachAt (TypesStay checker) checker.addition.unresolved.now.types
  pub functions : EachAt (FunctionsStay checker) checker.addition.unresolved.now.interfaces
  pub parts : EachAt (PartsStay checker) checker.addition.unresolved.now.worlds

entry-stays : (checker : Checker) (entries : List Entry) (e : Entry) → Each (λ (d : Entry). ItemStays checker d.1) entries → Contains entries e → ItemStays checker e.1
entry-stays checker entries e each has = let there = place_of entries e has in each there.0 e there.1

held-stays : (checker : Checker) → AllStay checker → (w : ℕ) (world : World) (e : Entry) → slice_get checker.addition.unresolved.now.worlds w ≡ Some world
    → world_is_active checker.addition.features.now checker.addition.unresolved.now w ≡ true → HasEntry world e → ItemStays checker e.1
held-stays checker all w world e at active has =
    let parts = all.parts w world at active in
    elim has [ inl imports ↦ entry-stays checker world.imports e parts.imports imports | inr exports ↦ entry-stays checker world.exports e parts.exports exports ]

function-stays : (checker : Checker) → AllStay checker → (f : Function) → IsActiveFunction (seen checker) f → Each (λ t. Stays checker (AType t)) (function_references f)
function-stays checker all f (of_interface i interface name f' at active has on) =
    let there = place_of interface.functions (name, f') has in
    all.functions i interface at active there.0 (name, f') there.1 on
function-stays checker all f (of_world w world k f' at active has on) = held-stays checker all w world (k, item.Function f') at active has on

all-stays : (checker : Checker) → AllStay checker → (thing : Thing) (place : OptionalSpan) → IsReferred checker thing place → Stays checker thing
all-stays checker all thing place (of_type t def named place' at active has) = (all.types t def at active).refers named place' has
all-stays checker all thing place (of_foreign_type t def i at foreign active owner) = (all.types t def at active).foreign foreign i owner
all-stays checker all thing place (of_function f named active has) =
    let there = place_of (function_references f) named has in
    function-stays checker all f active there.0 named there.1
all-stays checker all thing place (of_entry w world k i note docs place' external_id at active has on) =
    held-stays checker all w world (k, item.Interface i note docs place' external_id) at active has on
all-stays checker all thing place (of_include w world i at active has on) =
    let there = place_of world.includes i has in
    (all.parts w world at active).includes there.0 i there.1 on

pub nothing-left-out : (checker : Checker) → AllStay checker → NeedsNothingExcluded (seen checker)
nothing-left-out checker all = record {
  references = λ span message refers. all-stays checker all refers.thing refers.place refers.refers refers.excluded;
  owners = λ span message owner. (all.types owner.t owner.def owner.is owner.active).own owner.own owner.thing owner.owner owner.excluded;
}
