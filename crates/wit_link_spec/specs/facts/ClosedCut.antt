-- Where no cause holds against an addition, what is active of its package refers to what is active alone.
use Rattle.std.proofs.Common.{◌≡◌, ◌∙◌, ◌≢◌, ℕ, ◌<◌, ◌≤◌, ◌&&◌, nat_eq, Bool, true, false, not, List, [], ◌∷◌, ◌⊎◌, inl, inr, map, length, Option, None, Some, slice_get, refl, sym, ap, subst, arith, Contains, if◌then◌else◌}
use Rattle.std.specs.List.{AllByRecursion, flat_map, list_any}
use Rattle.std.specs.Option.{option_map_or}
use Rattle.std.proofs.lemmas.Bool.{cases_Bool, eqb-true, false≢true, ltb-true}
use Rattle.std.proofs.lemmas.Map.Keys.{IsDistinct-cons}
use Rattle.std.proofs.lemmas.Map.Steps.{length-le_from_distinct_below}
use Rattle.std.proofs.lemmas.Option.{slice_get_within}
use Rattle.wit_digraph.specs.facts.MemberFacts.{Contains-cons_cases, Contains-flat_map, Contains-flat_map_cases, Contains-here, Contains-nil, Contains-there}
use Rattle.wit_digraph.specs.facts.FreshFacts.{any_from_contains, contains_from_any}
use Rattle.wit_data.specs.Each.{Each, SomeAt}
use Rattle.wit_data.specs.Entries.{Entry}
use Rattle.wit_data.specs.Foreign.{AreFirst, ForeignItem, IsForeign, IsForeignType, foreign_interfaces, foreign_worlds, interface_id, world_id}
use Rattle.wit_data.specs.Ownership.{IsListed, entry_type, world_types}
use Rattle.wit_data.specs.Kind.{function_references, named_type, referred}
use Rattle.wit_data.specs.facts.ReferenceFacts.{record_refers}
use Rattle.wit_data.specs.Shape.{IsShaped}
use Rattle.wit_data.specs.declared.types.Field.{Field}
use Rattle.wit_data.specs.declared.function.Function.{Function}
use Rattle.wit_data.specs.declared.interface.Interface.{Interface}
use Rattle.wit_names.specs.declared.package_name.PackageName.{PackageName}
use Rattle.wit_data.specs.declared.types.TypeDef.{TypeDef}
use Rattle.wit_data.specs.declared.types.TypeDefKind.{TypeDefKind}
use Rattle.wit_data.specs.declared.types.TypeOwner.{TypeOwner}
use Rattle.wit_data.specs.declared.world.World.{World}
use Rattle.wit_data.specs.declared.types.TypeDefKind.TheVariants as kind
use Rattle.wit_data.specs.declared.types.TypeOwner.TheVariants as owner
use Rattle.wit_data.specs.declared.unresolved.AstItem.TheVariants as named
use Rattle.wit_data.specs.declared.world.WorldItem.TheVariants as item
use Rattle.wit_graph_theory.specs.Cut.{IsClosedCut, ItemIsKept, OwnerIsKept}
use Rattle.wit_graph_theory.specs.facts.ListFacts.{Contains-map, contained_at, found_at, place_of, same_at, some_at}
use Rattle.wit_link_spec.specs.Addition.{Addition, own_world}
use Rattle.wit_link_spec.specs.facts.ActivePart.{part}
use Rattle.wit_link_spec.specs.Gates.{HasEntry, OptionalSpan, foreign_gates, interface_is_active, is_active, is_foreign_interface, is_foreign_world, item_is_active, type_is_active, world_is_active}
use Rattle.wit_link_spec.specs.Reasons.{IsResolved, IsActiveFunction, IsExcluded, RefersTo, Thing, AType, AnInterface, AWorld, kind_references, of_entry, of_foreign_type, of_function, of_interface, of_type, of_world, owner_thing}
use Rattle.wit_data.specs.steps.Parts.{IsNameOnlyWorld}
use Rattle.wit_link_spec.specs.steps.Parts.{some_active, function_is_active}

-- what a test that is true of nothing where nothing is there tells
pub there_where : {X : Type 0} (f : X → Bool) (o : Option X) → option_map_or f o false ≡ true → (x : X) × (o ≡ Some x) × (f x ≡ true)
there_where f None h = cc
there_where f (Some x) h = (x, refl, h)

-- a reference has a place
reference_place : (k : TypeDefKind) (span : OptionalSpan) (t : ℕ) → Contains (referred k) t → (place : OptionalSpan) × Contains (kind_references k span) (t, place)
reference_place (kind.Record fields) span t has =
    let from = Contains-flat_map_cases (λ (f : Field). named_type f.ty) fields t (subst (λ (ids : List ℕ). Contains ids t) (record_refers fields) has) in (
      from.0.span,
      Contains-flat_map (λ (f : Field). map (λ (u : ℕ). (u, f.span)) (named_type f.ty)) fields from.0 (t, from.0.span) from.1.0
          (Contains-map (λ (u : ℕ). (u, from.0.span)) (named_type from.0.ty) t from.1.1),
    )
reference_place other span t has = (span, Contains-map (λ (u : ℕ). (u, span)) (referred other) t has)

-- a kind is known or not
known_or : (k : TypeDefKind) → (k ≡ kind.Unknown) ⊎ (k ≢ kind.Unknown)
known_or kind.Unknown = inl refl
known_or other = inr (λ h. cc)

-- of so many ids, each once and each below their number, every number below is one
differs : (w : ℕ) (xs : List ℕ) → ((y : ℕ) → Contains xs y → nat_eq w y ≡ false) → AllByRecursion (λ y. nat_eq w y ≡ false) xs
differs w [] apart = tt
differs w (y ∷ ys) apart = (apart y (Contains-here y ys), differs w ys (λ z has. apart z (Contains-there y z ys has)))

pub member_of_first : (ids : List ℕ) (count w : ℕ) → AreFirst ids count → w < length ids → Contains ids w
member_of_first ids count w first below =
    let apart : list_any (nat_eq w) ids ≡ false → (y : ℕ) → Contains ids y → nat_eq w y ≡ false =
    λ none y has. elim (cases_Bool (nat_eq w y)) [
      | inl same ↦ absurd (false≢true (sym none ∙ any_from_contains w ids (subst (λ (k : ℕ). Contains ids k) (sym (eqb-true w y same)) has)))
      | inr other ↦ other
    ] in
    let all_below : (q : ℕ) → list_any (nat_eq q) (w ∷ ids) ≡ true → q < length ids =
    λ q there. elim (Contains-cons_cases w q ids (contains_from_any q (w ∷ ids) there)) [
      | inl same ↦ subst (λ (k : ℕ). k < length ids) same below
      | inr has ↦ let place = place_of ids q has in first.first place.0 q place.1
    ] in
    elim (cases_Bool (list_any (nat_eq w) ids)) [
      | inl there ↦ contains_from_any w ids there
      | inr none ↦
          let more : length (w ∷ ids) ≤ length ids = length-le_from_distinct_below (w ∷ ids) (length ids) (IsDistinct-cons nat_eq w ids (differs w ids (apart none)) first.once) all_below in
          absurd (omega arith)
    ]

-- a world that is named of another package is bare
bare_world : (interfaces : List Interface) (worlds : List World) (w : ℕ) (named : ForeignItem) → Contains (world_id named.1.0) w → IsForeign interfaces worlds named
    → SomeAt worlds w (λ (world : World). world.imports ≡ [])
bare_world interfaces worlds w (name, (named.World v, notes)) has is =
    elim (Contains-cons_cases v w [] has) [
      | inl same ↦
          let found = found_at (IsNameOnlyWorld name) worlds v is.0 in
          subst (λ (k : ℕ). SomeAt worlds k (λ (world : World). world.imports ≡ [])) same
          (some_at (λ (world : World). world.imports ≡ []) worlds v found.0 found.1 found.2.1)
      | inr none ↦ absurd (Contains-nil none)
    ]
bare_world interfaces worlds w (name, (named.Interface i, notes)) has is = absurd (Contains-nil has)

module _ (a : Addition) (shaped : IsShaped a.unresolved) (image : IsResolved a) where
  -- what is active refers to what isn't left out
  pub kept_type : (t : ℕ) (place : OptionalSpan) → RefersTo a (AType t) place → type_is_active a.features a.unresolved.types t ≡ true
  kept_type t place h = elim (cases_Bool (type_is_active a.features a.unresolved.types t)) [
    | inl is_on ↦ is_on
    | inr left ↦ absurd (image.references _ _ (record { thing = AType t; place = place; refers = h; excluded = left; span_is = refl; message_is = refl }))
  ]

  pub kept_interface : (i : ℕ) (place : OptionalSpan) → RefersTo a (AnInterface i) place → interface_is_active a.features a.unresolved i ≡ true
  kept_interface i place h = elim (cases_Bool (interface_is_active a.features a.unresolved i)) [
    | inl is_on ↦ is_on
    | inr left ↦ absurd (image.references _ _ (record { thing = AnInterface i; place = place; refers = h; excluded = left; span_is = refl; message_is = refl }))
  ]

  pub kept_world : (w : ℕ) (place : OptionalSpan) → RefersTo a (AWorld w) place → world_is_active a.features a.unresolved w ≡ true
  kept_world w place h = elim (cases_Bool (world_is_active a.features a.unresolved w)) [
    | inl is_on ↦ is_on
    | inr left ↦ absurd (image.references _ _ (record { thing = AWorld w; place = place; refers = h; excluded = left; span_is = refl; message_is = refl }))
  ]

  -- and its owner isn't left out
  kept_owner : (t : ℕ) (def : TypeDef) (thing : Thing) → slice_get a.unresolved.types t ≡ Some def → type_is_active a.features a.unresolved.types t ≡ true → def.kind ≢ kind.Unknown
      → owner_thing def.owner ≡ thing ∷ [] → IsExcluded a thing → ⊥
  kept_owner t def thing at active known is left =
      image.owners _ _ (record { t = t; def = def; thing = thing; is = at; own = known; active = active; owner = is; excluded = left; span_is = refl; message_is = refl })

  pub references_kept : (t : ℕ) (def : TypeDef) → slice_get a.unresolved.types t ≡ Some def → type_is_active a.features a.unresolved.types t ≡ true
      → Each (λ u. type_is_active a.features a.unresolved.types u ≡ true) (referred def.kind)
  references_kept t def at active k u there =
      let place = reference_place def.kind def.span u (contained_at (referred def.kind) k u there) in
      kept_type u place.0 (of_type t def u place.0 at active place.1)

  -- a function that is active
  pub function_kept : (f : Function) → IsActiveFunction a f → Each (λ t. type_is_active a.features a.unresolved.types t ≡ true) (function_references f)
  function_kept f is k t there = kept_type t f.span (of_function f t is (contained_at (function_references f) k t there))

  -- an entry that is active
  entry_kept : (w : ℕ) (world : World) (e : Entry) → slice_get a.unresolved.worlds w ≡ Some world → world_is_active a.features a.unresolved w ≡ true → HasEntry world e
      → item_is_active a.features a.unresolved.types e.1 ≡ true → ItemIsKept (part a) e.1
  entry_kept w world (k, item.Interface i stability docs span external_id) at active has takes = kept_interface i span (of_entry w world k i stability docs span external_id at active has takes)
  entry_kept w world (k, item.Function f) at active has takes = function_kept f (of_world w world k f at active has takes)
  entry_kept w world (k, item.Type_ t span) at active has takes = takes

  -- what is kept of functions and entries
  function_of : (f : ℕ) (interface : Interface) (e : List ℕ × Function) → slice_get a.unresolved.interfaces f ≡ Some interface → interface_is_active a.features a.unresolved f ≡ true
      → Contains interface.functions e → function_is_active a.features e.1 ≡ true → Each (λ t. type_is_active a.features a.unresolved.types t ≡ true) (function_references e.1)
  function_of f interface e at active has takes = function_kept e.1 (of_interface f interface e.0 e.1 at active has takes)

  -- an owner that is active: an interface
  interface_owner : (t : ℕ) (def : TypeDef) (f : ℕ) → slice_get a.unresolved.types t ≡ Some def → type_is_active a.features a.unresolved.types t ≡ true → def.owner ≡ owner.Interface f
      → (def.kind ≡ kind.Unknown) ⊎ (def.kind ≢ kind.Unknown) → interface_is_active a.features a.unresolved f ≡ true
  interface_owner t def f at active is (inl unknown) = kept_interface f None (of_foreign_type t def f at unknown active is)
  interface_owner t def f at active is (inr known) = elim (cases_Bool (interface_is_active a.features a.unresolved f)) [
    | inl is_on ↦ is_on
    | inr left ↦ absurd (kept_owner t def (AnInterface f) at active known (ap owner_thing is) left)
  ]

  -- or a world, which is the package's own, since a world of another package lists nothing
  world_owner : (t : ℕ) (def : TypeDef) (w : ℕ) → slice_get a.unresolved.types t ≡ Some def → type_is_active a.features a.unresolved.types t ≡ true → def.owner ≡ owner.World w
      → def.kind ≢ kind.Unknown → world_is_active a.features a.unresolved w ≡ true
  world_owner t def w at active is known = elim (cases_Bool (world_is_active a.features a.unresolved w)) [
    | inl is_on ↦ is_on
    | inr left ↦ absurd (kept_owner t def (AWorld w) at active known (ap owner_thing is) left)
  ]

  -- the first worlds are bare
  foreign_is_name_only : (w : ℕ) → w < length (foreign_worlds a.unresolved.foreign_deps) → SomeAt a.unresolved.worlds w (λ (world : World). world.imports ≡ [])
  foreign_is_name_only w below =
      let has = member_of_first (foreign_worlds a.unresolved.foreign_deps) (length a.unresolved.worlds) w shaped.foreign.worlds below in
      let home = Contains-flat_map_cases (λ (e : PackageName × List ForeignItem). flat_map (λ (named : ForeignItem). world_id named.1.0) e.1) a.unresolved.foreign_deps w has in
      let named = Contains-flat_map_cases (λ (named : ForeignItem). world_id named.1.0) home.0.1 w home.1.1 in
      let at = place_of a.unresolved.foreign_deps home.0 home.1.0 in
      let inner = place_of home.0.1 named.0 named.1.0 in
      bare_world a.unresolved.interfaces a.unresolved.worlds w named.0 named.1.1 (shaped.foreign.bare at.0 home.0 at.1 inner.0 named.0 inner.1)

  -- so a world that owns a type is the package's own
  owning_world : (t : ℕ) (def : TypeDef) (w : ℕ) → slice_get a.unresolved.types t ≡ Some def → def.owner ≡ owner.World w → is_foreign_world a.unresolved w ≡ false
  owning_world t def w at is = elim (cases_Bool (is_foreign_world a.unresolved w)) [
    | inl foreign ↦
        let below : w < length (foreign_worlds a.unresolved.foreign_deps) = ltb-true w (length (foreign_worlds a.unresolved.foreign_deps)) foreign in
        let listed : IsListed a.unresolved.interfaces a.unresolved.worlds t def.name (owner.World w) = subst (λ (o : TypeOwner). IsListed a.unresolved.interfaces a.unresolved.worlds t def.name o) is (shaped.owners.listed t def at) in
        absurd (lists_nothing t w def.name listed (foreign_is_name_only w below))
    | inr own ↦ own
  ]
    where
      lists_nothing : (t w : ℕ) (name : Option (List ℕ)) → IsListed a.unresolved.interfaces a.unresolved.worlds t name (owner.World w)
          → SomeAt a.unresolved.worlds w (λ (world : World). world.imports ≡ []) → ⊥
      lists_nothing t w None listed bare = listed
      lists_nothing t w (Some name) listed bare =
          let found = found_at (λ (world : World). Contains (world_types world) (name, t)) a.unresolved.worlds w listed in
          let empty = found_at (λ (world : World). world.imports ≡ []) a.unresolved.worlds w bare in
          let same : found.0 ≡ empty.0 = same_at a.unresolved.worlds w w found.0 empty.0 refl found.1 empty.1 in
          let none : found.0.imports ≡ [] = ap (λ (world : World). world.imports) same ∙ empty.2 in
          let from = Contains-flat_map_cases (λ (e : Entry). entry_type e.0 e.1) found.0.imports (name, t) found.2 in
          Contains-nil (subst (λ (es : List Entry). Contains es from.0) none from.1.0)

  -- what is active of a world's test: that it is active, and no world of another package
  own_is_active : (w : ℕ) → own_world a w ≡ true → world_is_active a.features a.unresolved w ≡ true
  own_is_active w takes = second (is_foreign_world a.unresolved w) (world_is_active a.features a.unresolved w) takes
    where
      second : (b c : Bool) → not b && c ≡ true → c ≡ true
      second true c h = cc
      second false c h = h

  owned_by : (t : ℕ) (def : TypeDef) (by : TypeOwner) → slice_get a.unresolved.types t ≡ Some def → type_is_active a.features a.unresolved.types t ≡ true → def.owner ≡ by → OwnerIsKept (part a) by
  owned_by t def (owner.Interface f) at active is = interface_owner t def f at active is (known_or def.kind)
  owned_by t def (owner.World w) at active is = elim (known_or def.kind) [
    | inl unknown ↦ absurd (subst (λ (o : TypeOwner). IsForeignType (length (foreign_interfaces a.unresolved.foreign_deps)) (record def { owner = o })) is (shaped.unknown.foreign t def at ((shaped.unknown.first.1 t def at).0 unknown))).1
    | inr known ↦ both (is_foreign_world a.unresolved w) (world_is_active a.features a.unresolved w) (owning_world t def w at is) (world_owner t def w at active is known)
  ]
    where
      both : (b c : Bool) → b ≡ false → c ≡ true → not b && c ≡ true
      both true c h k = cc
      both false c h k = k
  owned_by t def owner.None at active is = tt

  interface_there : (f : ℕ) → interface_is_active a.features a.unresolved f ≡ true → f < length a.unresolved.interfaces
  interface_there f takes = elim (cases_Bool (is_foreign_interface a.unresolved f)) [
    | inl foreign ↦
        let below : f < length (foreign_interfaces a.unresolved.foreign_deps) = ltb-true f (length (foreign_interfaces a.unresolved.foreign_deps)) foreign in
        let there = shaped.foreign.interfaces.there in
        omega arith
    | inr own ↦
        let notes = ap (λ (b : Bool). some_active a.features (if b then foreign_gates interface_id a.unresolved.foreign_deps f else option_map_or (λ (interface : Interface). interface.stability ∷ []) (slice_get a.unresolved.interfaces f) [])) own in
        within (slice_get a.unresolved.interfaces f) refl (sym notes ∙ takes)
  ]
    where
      within : (o : Option Interface) → slice_get a.unresolved.interfaces f ≡ o → some_active a.features (option_map_or (λ (interface : Interface). interface.stability ∷ []) o []) ≡ true → f < length a.unresolved.interfaces
      within None at h = cc
      within (Some interface) at h = slice_get_within a.unresolved.interfaces f interface at

  -- what is active of the package refers to what is active alone
  pub closed_part : IsClosedCut (part a) a.unresolved.types a.unresolved.interfaces a.unresolved.worlds
  closed_part = record {
    in_range = λ t takes. let there = there_where (λ (def : TypeDef). is_active a.features def.stability) (slice_get a.unresolved.types t) takes in slice_get_within a.unresolved.types t there.0 there.1;
    interfaces_in_range = interface_there;
    references = λ t def at takes. references_kept t def at takes;
    owners = λ t def at takes. owned_by t def def.owner at takes refl;
    functions = λ f interface at takes k e there active. function_of f interface e at takes (contained_at interface.functions k e there) active;
    imports = λ w world at takes k e there active. entry_kept w world e at (own_is_active w takes) (inl (contained_at world.imports k e there)) active;
    exports = λ w world at takes k e there active. entry_kept w world e at (own_is_active w takes) (inr (contained_at world.exports k e there)) active;
    type_items = λ t span. refl;
  }
