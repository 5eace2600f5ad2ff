-- A test that computes whether a small package has an image: whether it meets its gates, names nothing that is
-- left out, and finds all that it names.
use Rattle.std.proofs.Common.{◌≡◌, ℕ, Bool, true, false, ◌&&◌, ◌||◌, List, [], ◌∷◌, Option, Some, None, slice_get, sym, ap, subst, inl, inr, Contains}
use Rattle.std.proofs.lemmas.Bool.{and_parts, false≢true, or_cases}
use Rattle.std.specs.Prelude.{is_some, option_and_then}
use Rattle.std.specs.List.{list_all}
use Rattle.std.specs.Map.{lookup}
use Rattle.std.specs.Option.{option_map_or}
use Rattle.std.specs.declared.cmp.Ordering.{Ordering}
use Rattle.std.specs.declared.cmp.Ordering.TheVariants.{Less, Equal, Greater}
use Rattle.wit_values.specs.Version.{Parts, version_cmp}
use Rattle.wit_digraph.specs.facts.MemberFacts.{Contains-here}
use Rattle.wit_data.specs.Entries.{Entry}
use Rattle.wit_data.specs.Foreign.{ForeignItem}
use Rattle.wit_names.specs.facts.PackageNameFacts.{same_name}
use Rattle.wit_names.specs.PackageName.{same_package}
use Rattle.wit_data.specs.Kind.{function_references}
use Rattle.wit_data.specs.declared.unresolved.AstItem.{AstItem}
use Rattle.wit_data.specs.declared.function.Function.{Function}
use Rattle.wit_data.specs.declared.interface.Interface.{Interface}
use Rattle.wit_names.specs.declared.package_name.PackageName.{PackageName}
use Rattle.wit_data.specs.declared.stability.Stability.{Stability}
use Rattle.wit_data.specs.declared.types.TypeDef.{TypeDef}
use Rattle.wit_data.specs.declared.types.TypeOwner.{TypeOwner}
use Rattle.wit_data.specs.declared.world.World.{World}
use Rattle.wit_data.specs.declared.world.WorldInclude.{WorldInclude}
use Rattle.wit_data.specs.declared.world.WorldItem.{WorldItem}
use Rattle.wit_data.specs.declared.stability.Stability.TheVariants.{Unknown, Stable, Unstable}
use Rattle.wit_data.specs.declared.types.TypeOwner.TheVariants as owner
use Rattle.wit_data.specs.declared.unresolved.AstItem.TheVariants as named
use Rattle.wit_data.specs.declared.world.WorldItem.TheVariants as item
use Rattle.wit_graph_theory.specs.facts.ListFacts.{contained_at}
use Rattle.wit_graph_theory.specs.examples.TestFacts.{all_are, all_at, at_are, implied, implies, not_passed}
use Rattle.wit_link_spec.specs.Addition.{Addition}
use Rattle.wit_link_spec.specs.Gates.{HasEntry, HasOwnGate, IsAsked, OptionalSpan, asked_gates, interface_gates, interface_is_active, is_active, type_is_active, world_gates, world_is_active}
use Rattle.wit_link_spec.specs.Gates as asked
use Rattle.wit_link_spec.specs.Lookup.{find_interface, find_world, foreign_interface_id, foreign_type_id, is_foreign_type, named_items, owning_interface}
use Rattle.wit_graph_data.specs.Named.{interface_type}
use Rattle.wit_link_spec.specs.Reasons.{AnInterface, AType, AWorld, IsResolved, IsActiveFunction, IsExcluded, RefersTo, Thing, kind_references, owner_thing}
use Rattle.wit_link_spec.specs.Reasons as reason
use Rattle.wit_link_spec.specs.steps.Parts.{function_is_active, include_is_active}

abbrev is_at_least : Ordering → Bool
is_at_least Less = false
is_at_least Equal = true
is_at_least Greater = true

abbrev reaches : Parts → Option Parts → Bool
reaches since version = option_map_or (λ (v : Parts). is_at_least (version_cmp v since)) version false

module _ (a : Addition) where
  -- ---- the test

  -- the package meets the gate
  abbrev is_met : Stability → Bool
  is_met Unknown = true
  is_met (Unstable feature deprecated) = true
  is_met (Stable since deprecated) = reaches since a.unresolved.name.version

  -- the thing is active
  abbrev takes_part : Thing → Bool
  takes_part (AType t) = type_is_active a.features a.unresolved.types t
  takes_part (AnInterface i) = interface_is_active a.features a.unresolved i
  takes_part (AWorld w) = world_is_active a.features a.unresolved w

  abbrev function_passes : Function → Bool
  function_passes f = is_met f.stability && implies (function_is_active a.features f) (list_all (type_is_active a.features a.unresolved.types) (function_references f))

  abbrev type_passes : ℕ → TypeDef → Bool
  type_passes t def =
      is_met def.stability
      && implies (type_is_active a.features a.unresolved.types t)
      (list_all (λ (r : ℕ × OptionalSpan). type_is_active a.features a.unresolved.types r.0) (kind_references def.kind def.span)
      && (list_all takes_part (owner_thing def.owner) && implies (is_foreign_type a.unresolved t) (is_some (foreign_type_id a.graph a.unresolved t))))

  abbrev interface_passes : ℕ → Interface → Bool
  interface_passes i interface =
      list_all is_met (asked_gates a.features (interface_gates a.unresolved i))
      && implies (interface_is_active a.features a.unresolved i) (list_all (λ (e : List ℕ × Function). function_passes e.1) interface.functions)

  abbrev item_passes : WorldItem → Bool
  item_passes (item.Interface i note docs span external_id) = is_met note && implies (is_active a.features note) (interface_is_active a.features a.unresolved i)
  item_passes (item.Function f) = function_passes f
  item_passes (item.Type_ t span) = true

  abbrev include_passes : WorldInclude → Bool
  include_passes i = is_met i.stability && implies (include_is_active a.features i) (world_is_active a.features a.unresolved i.id)

  abbrev lists_pass : World → Bool
  lists_pass world =
      list_all (λ (e : Entry). item_passes e.1) world.imports && (list_all (λ (e : Entry). item_passes e.1) world.exports && list_all include_passes world.includes)

  abbrev world_passes : ℕ → World → Bool
  world_passes w world = list_all is_met (asked_gates a.features (world_gates a.unresolved w)) && implies (world_is_active a.features a.unresolved w) (lists_pass world)

  abbrev package_passes : PackageName × List ForeignItem → Bool
  package_passes e = same_package e.0 a.unresolved.name || is_some (lookup (same_package e.0) a.graph.package_names)

  abbrev is_found : PackageName → List ℕ → AstItem → Bool
  is_found home name (named.Interface i) = implies (interface_is_active a.features a.unresolved i) (is_some (find_interface a.graph a.unresolved.name home name))
  is_found home name (named.World w) = implies (world_is_active a.features a.unresolved w) (is_some (find_world a.graph a.unresolved.name home name))

  -- the whole package passes
  pub record Passes : Type 0 where
    pub packages : list_all package_passes a.unresolved.foreign_deps ≡ true
    pub items : list_all (λ (e : ℕ × PackageName × ForeignItem). is_found e.1 e.2.0 e.2.1.0) (named_items a.unresolved.foreign_deps) ≡ true
    pub types : all_at type_passes a.unresolved.types ≡ true
    pub interfaces : all_at interface_passes a.unresolved.interfaces ≡ true
    pub worlds : all_at world_passes a.unresolved.worlds ≡ true

  -- ---- what it shows

  module _ (p : Passes) where
    entry_passes : (w : ℕ) (world : World) (e : Entry) → slice_get a.unresolved.worlds w ≡ Some world → world_is_active a.features a.unresolved w ≡ true → HasEntry world e → item_passes e.1 ≡ true
    entry_passes w world e at active (inl import) =
        let lists = implied (world_is_active a.features a.unresolved w) (lists_pass world) (and_parts _ _ (at_are world_passes a.unresolved.worlds p.worlds w world at)).1 active in
        all_are (λ (e : Entry). item_passes e.1) world.imports (and_parts _ _ lists).0 e import
    entry_passes w world e at active (inr export) =
        let lists = implied (world_is_active a.features a.unresolved w) (lists_pass world) (and_parts _ _ (at_are world_passes a.unresolved.worlds p.worlds w world at)).1 active in
        all_are (λ (e : Entry). item_passes e.1) world.exports (and_parts _ _ (and_parts _ _ lists).1).0 e export

    included_passes : (w : ℕ) (world : World) (i : WorldInclude) → slice_get a.unresolved.worlds w ≡ Some world → world_is_active a.features a.unresolved w ≡ true → Contains world.includes i → include_passes i ≡ true
    included_passes w world i at active inside =
        let lists = implied (world_is_active a.features a.unresolved w) (lists_pass world) (and_parts _ _ (at_are world_passes a.unresolved.worlds p.worlds w world at)).1 active in
        all_are include_passes world.includes (and_parts _ _ (and_parts _ _ lists).1).1 i inside

    listed_passes : (i : ℕ) (interface : Interface) (name : List ℕ) (f : Function) → slice_get a.unresolved.interfaces i ≡ Some interface → interface_is_active a.features a.unresolved i ≡ true
        → Contains interface.functions (name, f) → function_passes f ≡ true
    listed_passes i interface name f at active inside =
        let all = implied (interface_is_active a.features a.unresolved i) (list_all (λ (e : List ℕ × Function). function_passes e.1) interface.functions)
        (and_parts _ _ (at_are interface_passes a.unresolved.interfaces p.interfaces i interface at)).1 active in
        all_are (λ (e : List ℕ × Function). function_passes e.1) interface.functions all (name, f) inside

    -- ---- gates

    note_of : (held : WorldItem) (note : Stability) (place : OptionalSpan) → item_passes held ≡ true → HasOwnGate held note place → is_met note ≡ true
    note_of (item.Interface i gate docs span external_id) note place passes noted = subst (λ (n : Stability). is_met n ≡ true) (sym noted.0) (and_parts _ _ passes).0
    note_of (item.Function f) note place passes noted = subst (λ (n : Stability). is_met n ≡ true) (sym noted.0) (and_parts _ _ passes).0
    note_of (item.Type_ t span) note place passes noted = absurd noted

    met : (note : Stability) (place : OptionalSpan) → IsAsked a.features a.unresolved note place → is_met note ≡ true
    met _ _ (asked.of_type t def at) = (and_parts _ _ (at_are type_passes a.unresolved.types p.types t def at)).0
    met _ _ (asked.of_interface i interface note at inside) =
        all_are is_met (asked_gates a.features (interface_gates a.unresolved i)) (and_parts _ _ (at_are interface_passes a.unresolved.interfaces p.interfaces i interface at)).0 note inside
    met _ _ (asked.of_world w world note at inside) =
        all_are is_met (asked_gates a.features (world_gates a.unresolved w)) (and_parts _ _ (at_are world_passes a.unresolved.worlds p.worlds w world at)).0 note inside
    met _ _ (asked.of_function i interface name f at active inside) = (and_parts _ _ (listed_passes i interface name f at active inside)).0
    met _ _ (asked.of_entry w world e note place at active has noted) = note_of e.1 note place (entry_passes w world e at active has) noted
    met _ _ (asked.of_include w world i at active inside) = (and_parts _ _ (included_passes w world i at active inside)).0

    unversioned : (since : Parts) → a.unresolved.name.version ≡ None → reaches since a.unresolved.name.version ≡ true → ⊥
    unversioned since none on = false≢true (subst (λ (v : Option Parts). reaches since v ≡ true) none on)

    below : (since version : Parts) → a.unresolved.name.version ≡ Some version → version_cmp version since ≡ Less → reaches since a.unresolved.name.version ≡ true → ⊥
    below since version has less on =
        let at : is_at_least (version_cmp version since) ≡ true = subst (λ (v : Option Parts). reaches since v ≡ true) has on in
        false≢true (subst (λ (o : Ordering). is_at_least o ≡ true) less at)

    -- ---- references

    refers_within : (f : Function) → IsActiveFunction a f → list_all (type_is_active a.features a.unresolved.types) (function_references f) ≡ true
    refers_within f (reason.of_interface i interface name _ at active inside on) = implied _ _ (and_parts _ _ (listed_passes i interface name f at active inside)).1 on
    refers_within f (reason.of_world w world k _ at active has on) = implied _ _ (and_parts _ _ (entry_passes w world (k, item.Function f) at active has)).1 on

    of_type : (t : ℕ) (def : TypeDef) → slice_get a.unresolved.types t ≡ Some def → type_is_active a.features a.unresolved.types t ≡ true
        → (list_all (λ (r : ℕ × OptionalSpan). type_is_active a.features a.unresolved.types r.0) (kind_references def.kind def.span)
        && (list_all takes_part (owner_thing def.owner) && implies (is_foreign_type a.unresolved t) (is_some (foreign_type_id a.graph a.unresolved t)))) ≡ true
    of_type t def at active = implied _ _ (and_parts _ _ (at_are type_passes a.unresolved.types p.types t def at)).1 active

    owner_passes : (t : ℕ) (def : TypeDef) (thing : Thing) → slice_get a.unresolved.types t ≡ Some def → type_is_active a.features a.unresolved.types t ≡ true → owner_thing def.owner ≡ thing ∷ [] → takes_part thing ≡ true
    owner_passes t def thing at active by =
        all_are takes_part (owner_thing def.owner) (and_parts _ _ (and_parts _ _ (of_type t def at active)).1).0 thing (subst (λ (things : List Thing). Contains things thing) (sym by) (Contains-here thing []))

    referred_passes : (thing : Thing) (place : OptionalSpan) → RefersTo a thing place → takes_part thing ≡ true
    referred_passes _ _ (reason.of_type t def id place at active inside) =
        all_are (λ (r : ℕ × OptionalSpan). type_is_active a.features a.unresolved.types r.0) (kind_references def.kind def.span) (and_parts _ _ (of_type t def at active)).0 (id, place) inside
    referred_passes _ _ (reason.of_foreign_type t def i at foreign active by) = owner_passes t def (AnInterface i) at active (ap owner_thing by)
    referred_passes _ _ (reason.of_function f id active inside) = all_are (type_is_active a.features a.unresolved.types) (function_references f) (refers_within f active) id inside
    referred_passes _ _ (reason.of_entry w world k i note docs place external_id at active has on) =
        implied _ _ (and_parts _ _ (entry_passes w world (k, item.Interface i note docs place external_id) at active has)).1 on
    referred_passes _ _ (reason.of_include w world i at active inside on) = implied _ _ (and_parts _ _ (included_passes w world i at active inside)).1 on

    kept : (thing : Thing) → takes_part thing ≡ true → IsExcluded a thing → ⊥
    kept (AType t) on off = not_passed off on
    kept (AnInterface i) on off = not_passed off on
    kept (AWorld w) on off = not_passed off on

    -- ---- what is named

    found_named : Option (List ℕ) → Option ℕ → Option ℕ
    found_named name i = option_and_then (λ (n : List ℕ). option_and_then (λ (j : ℕ). option_and_then (interface_type a.graph n) (foreign_interface_id a.graph a.unresolved j)) i) name

    found_in : Option TypeDef → Option ℕ
    found_in def = option_and_then (λ (d : TypeDef). found_named d.name (owning_interface d.owner)) def

    type_there : (t : ℕ) (def : TypeDef) (name : List ℕ) (i i' : ℕ) → slice_get a.unresolved.types t ≡ Some def → def.name ≡ Some name → def.owner ≡ owner.Interface i
        → foreign_interface_id a.graph a.unresolved i ≡ Some i' → interface_type a.graph name i' ≡ None → is_some (foreign_type_id a.graph a.unresolved t) ≡ true → ⊥
    unfolding found_named found_in
    type_there t def name i i' at called by found absent there =
        let here : is_some (found_named def.name (owning_interface def.owner)) ≡ true = subst (λ (d : Option TypeDef). is_some (found_in d) ≡ true) at there in
        let so_called : is_some (found_named (Some name) (owning_interface def.owner)) ≡ true = subst (λ (n : Option (List ℕ)). is_some (found_named n (owning_interface def.owner)) ≡ true) called here in
        let owned : is_some (option_and_then (interface_type a.graph name) (foreign_interface_id a.graph a.unresolved i)) ≡ true = subst (λ (o : TypeOwner). is_some (found_named (Some name) (owning_interface o)) ≡ true) by so_called in
        let listed : is_some (interface_type a.graph name i') ≡ true = subst (λ (j : Option ℕ). is_some (option_and_then (interface_type a.graph name) j) ≡ true) found owned in
        false≢true (subst (λ (o : Option ℕ). is_some o ≡ true) absent listed)

    -- such a package has an image
    pub image : IsResolved a
    image = record {
      packages = λ span requested known c.
          elim (or_cases _ _ (all_are package_passes a.unresolved.foreign_deps p.packages (requested, c.items) (contained_at a.unresolved.foreign_deps c.at (requested, c.items) c.names))) [
            | inl own ↦ c.other (same_name _ _ own)
            | inr there ↦ c.absent there
          ];
      worlds = λ span requested home c.
          let there : is_some (find_world a.graph a.unresolved.name home requested) ≡ true =
          implied _ _ (all_are (λ (e : ℕ × PackageName × ForeignItem). is_found e.1 e.2.0 e.2.1.0) (named_items a.unresolved.foreign_deps) p.items (c.at, home, (requested, (named.World c.w, c.notes))) c.names) c.active in
          false≢true (subst (λ (o : Option ℕ). is_some o ≡ true) c.absent there);
      interfaces = λ span requested home c.
          let there : is_some (find_interface a.graph a.unresolved.name home requested) ≡ true =
          implied _ _ (all_are (λ (e : ℕ × PackageName × ForeignItem). is_found e.1 e.2.0 e.2.1.0) (named_items a.unresolved.foreign_deps) p.items (c.at, home, (requested, (named.Interface c.i, c.notes))) c.names) c.active in
          false≢true (subst (λ (o : Option ℕ). is_some o ≡ true) c.absent there);
      version = λ span message c. unversioned c.since c.no_version (met (Stable c.since c.deprecated) c.place c.asked);
      released = λ span message c. below c.since c.version c.has_version c.below (met (Stable c.since c.deprecated) c.place c.asked);
      references = λ span message c. kept c.thing (referred_passes c.thing c.place c.refers) c.excluded;
      owners = λ span message c. kept c.thing (owner_passes c.t c.def c.thing c.is c.active c.owner) c.excluded;
      types = λ span message c.
          type_there c.t c.def c.name c.i c.i' c.is c.called c.owner c.found c.absent
          (implied _ _ (and_parts _ _ (and_parts _ _ (of_type c.t c.def c.is c.active)).1).1 c.foreign);
    }
