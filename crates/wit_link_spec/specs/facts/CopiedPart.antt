-- What of a partially linked graph is active where a world of it is included: the world, what its entries mention, the
-- interfaces that go with it, and those that have names. That is closed, so it is a good source of copies.
use Rattle.std.proofs.Common.{◌≡◌, ◌∙◌, ◌⊎◌, ◌||◌, inl, inr, ℕ, ◌<◌, Bool, true, false, not, List, [], ◌∷◌, ◌++◌, Option, None, Some, slice_get, refl, sym, ap, subst, Contains, IsSome, length, map, is_some, nat_eq, if◌then◌else◌}
use Rattle.std.specs.List.{flat_map, list_all, list_any}
use Rattle.std.specs.Option.{option_map_or}
use Rattle.std.proofs.lemmas.Bool.{eqb-true}
use Rattle.std.proofs.lemmas.List.Elements.{Contains-append_cases, Contains-append_left, Contains-append_right}
use Rattle.std.proofs.lemmas.Option.{slice_get_within}
use Rattle.wit_digraph.specs.facts.FreshFacts.{any_from_contains, contains_from_any}
use Rattle.wit_digraph.specs.facts.MemberFacts.{Contains-cons_cases, Contains-flat_map, Contains-flat_map_cases, Contains-here, Contains-nil}
use Rattle.wit_data.specs.Entries.{Entry, IsImport, interfaces_in_worlds, interfaces_of_entries, is_unnamed, item_interface}
use Rattle.wit_data.specs.Ownership.{IsListed, IsNamed, entry_type, world_types}
use Rattle.wit_elaboration.specs.facts.SoundFacts.{named_within}
use Rattle.wit_data.specs.Kind.{function_references, referred}
use Rattle.wit_data.specs.declared.function.Function.{Function}
use Rattle.wit_data.specs.declared.interface.Interface.{Interface}
use Rattle.wit_data.specs.declared.types.TypeDef.{TypeDef}
use Rattle.wit_data.specs.declared.types.TypeOwner.{TypeOwner}
use Rattle.wit_data.specs.declared.world.World.{World}
use Rattle.wit_data.specs.declared.world.WorldItem.{WorldItem}
use Rattle.wit_data.specs.declared.world.WorldKey.{WorldKey}
use Rattle.wit_data.specs.declared.types.TypeOwner.TheVariants as owner
use Rattle.wit_data.specs.declared.world.WorldItem.TheVariants as item
use Rattle.wit_data.specs.declared.world.WorldKey.TheVariants as key
use Rattle.wit_graph_data.specs.declared.graph.Graph.{Graph}
use Rattle.wit_graph_theory.specs.Cut.{IsClosedCut, IsGoodWhere, ItemIsKept, OwnerIsKept}
use Rattle.wit_graph_theory.specs.facts.CutIsGood.{cut_is_good}
use Rattle.wit_remap_spec.specs.Image.{Maps}
use Rattle.wit_remap_spec.specs.Kept.{KeptIds}
use Rattle.wit_graph_theory.specs.facts.ListFacts.{Contains-map, contained_at, found_at, get_at, same_at, some_at}
use Rattle.wit_graph_theory.specs.Operations.{include_source}
use Rattle.wit_graph_theory.specs.steps.Sources.{IsGoodSource}
use Rattle.wit_link_spec.specs.Include.{belongs_to, entry_mentions, is_owned_within, named_types, owner_belongs_to}
use Rattle.wit_link_spec.specs.facts.Among.{owner_of_own}
use Rattle.wit_link_spec.specs.facts.Mentioned.{BelongsOrNamed, entry_is, entry_mentioned, mentioned_refers, mentioned_with, owned_has}
use Rattle.wit_link_spec.specs.facts.PartiallyLinked.{IsSoundSoFar}
use Rattle.wit_link_spec.specs.facts.Truth.{all_pass, and_both, and_parts, or_cases, or_left, or_right, passes}
use Rattle.wit_link_spec.specs.steps.Parts.{interface_mentions}

-- is type t mentioned?
abbrev pub is_mentioned : Graph → World → ℕ → Bool
is_mentioned g world t = list_any (nat_eq t) (named_types g world)

-- has interface f a name?
abbrev pub has_name : List Interface → ℕ → Bool
has_name interfaces f =
    option_map_or (λ (interface : Interface). is_some interface.name) (slice_get interfaces f) false

-- an entry that is a type is mentioned where the type is
abbrev pub item_mentioned : Graph → World → WorldItem → Bool
item_mentioned g world (item.Interface i stability docs span external_id) = true
item_mentioned g world (item.Function f) = true
item_mentioned g world (item.Type_ t span) = is_mentioned g world t

abbrev pub copied_part : Graph → ℕ → World → KeptIds
copied_part g from world = record {
  types = is_mentioned g world;
  interfaces = λ f. belongs_to g world f || has_name g.interfaces f;
  worlds = λ w. nat_eq w from;
  functions = λ f. list_all (is_mentioned g world) (function_references f);
  items = item_mentioned g world;
}

-- ---- interfaces

pub named_is : (interfaces : List Interface) (f : ℕ) → has_name interfaces f ≡ true → IsNamed interfaces f
named_is interfaces f h = by (slice_get interfaces f) refl h
  where
    by : (o : Option Interface) → slice_get interfaces f ≡ o → option_map_or (λ (interface : Interface). is_some interface.name) o false ≡ true → IsNamed interfaces f
    by None at h = cc
    by (Some interface) at h = some_at (λ (interface : Interface). IsSome interface.name) interfaces f interface at h

pub is_named : (interfaces : List Interface) (f : ℕ) → IsNamed interfaces f → has_name interfaces f ≡ true
is_named interfaces f named =
    let found = found_at (λ (interface : Interface). IsSome interface.name) interfaces f named in
    ap (λ (o : Option Interface). option_map_or (λ (interface : Interface). is_some interface.name) o false) found.1 ∙ found.2

-- one that is there has a name or none
pub named_or_not : (interfaces : List Interface) (f : ℕ) → f < length interfaces → (has_name interfaces f ≡ true) ⊎ (is_unnamed interfaces f ≡ true)
named_or_not interfaces f within =
    let there = get_at interfaces f within in
    elim (some_or_not there.0.name) [
      | inl some ↦ inl (ap (λ (o : Option Interface). option_map_or (λ (interface : Interface). is_some interface.name) o false) there.1 ∙ some)
      | inr none ↦ inr (ap (λ (o : Option Interface). option_map_or (λ (interface : Interface). not (is_some interface.name)) o false) there.1 ∙ none)
    ]
  where
    some_or_not : (o : Option (List ℕ)) → (is_some o ≡ true) ⊎ (not (is_some o) ≡ true)
    some_or_not None = inr refl
    some_or_not (Some x) = inl refl

unnamed_within : (interfaces : List Interface) (f : ℕ) → is_unnamed interfaces f ≡ true → f < length interfaces
unnamed_within interfaces f h = by (slice_get interfaces f) refl h
  where
    by : (o : Option Interface) → slice_get interfaces f ≡ o → option_map_or (λ (interface : Interface). not (is_some interface.name)) o false ≡ true → f < length interfaces
    by None at h = cc
    by (Some interface) at h = slice_get_within interfaces f interface at

pub goes_parts : (g : Graph) (old : World) (f : ℕ) → belongs_to g old f ≡ true → (is_unnamed g.interfaces f ≡ true) × (list_any (nat_eq f) (interfaces_in_worlds (old ∷ [])) ≡ true)
goes_parts g old f goes = and_parts (is_unnamed g.interfaces f) (list_any (nat_eq f) (interfaces_in_worlds (old ∷ []))) goes

pub goes_within : (g : Graph) (old : World) (f : ℕ) → belongs_to g old f ≡ true → f < length g.interfaces
goes_within g old f goes = unnamed_within g.interfaces f (goes_parts g old f goes).0

-- an interface without a name that stands in the world goes with it
placed_goes : (g : Graph) (old : World) (e : Entry) (f : ℕ) → Contains (old.imports ++ old.exports) e → item_interface e.1 ≡ f ∷ [] → is_unnamed g.interfaces f ≡ true → belongs_to g old f ≡ true
placed_goes g old e f has held unnamed =
    and_both (is_unnamed g.interfaces f) (list_any (nat_eq f) (interfaces_in_worlds (old ∷ []))) unnamed (any_from_contains f (interfaces_in_worlds (old ∷ [])) placed)
  where
    here : Contains (item_interface e.1) f
    here = subst (λ (l : List ℕ). Contains l f) (sym held) (Contains-here f [])

    in_lists : Contains (interfaces_of_entries old.imports ++ interfaces_of_entries old.exports) f
    in_lists = elim (Contains-append_cases old.imports old.exports e has) [
      | inl among ↦ Contains-append_left (interfaces_of_entries old.imports) (interfaces_of_entries old.exports) f (Contains-flat_map (λ (d : Entry). item_interface d.1) old.imports e f among here)
      | inr among ↦ Contains-append_right (interfaces_of_entries old.imports) (interfaces_of_entries old.exports) f (Contains-flat_map (λ (d : Entry). item_interface d.1) old.exports e f among here)
    ]

    placed : Contains (interfaces_in_worlds (old ∷ [])) f
    placed = Contains-append_left (interfaces_of_entries old.imports ++ interfaces_of_entries old.exports) [] f in_lists

-- ---- the cut is closed

module _ (g : Graph) (stands : IsSoundSoFar g) (from : ℕ) (old : World) (there : slice_get g.worlds from ≡ Some old) where
  abbrev kept : KeptIds
  kept = copied_part g from old

  pub mentioned_by_active : (t : ℕ) → Contains (named_types g old) t → kept.types t ≡ true
  mentioned_by_active t has = any_from_contains t (named_types g old) has

  pub active_by_mentioned : (t : ℕ) → kept.types t ≡ true → Contains (named_types g old) t
  active_by_mentioned t takes = contains_from_any t (named_types g old) takes

  owner_kept : (by : TypeOwner) → BelongsOrNamed g stands from old by → OwnerIsKept kept by
  owner_kept (owner.World w) (inl goes) = goes
  owner_kept (owner.World w) (inr named) = absurd named
  owner_kept (owner.Interface f) (inl goes) = or_left (belongs_to g old f) (has_name g.interfaces f) goes
  owner_kept (owner.Interface f) (inr named) = or_right (belongs_to g old f) (has_name g.interfaces f) (is_named g.interfaces f named)
  owner_kept owner.None is = tt

  type_owner_kept : (t : ℕ) (def : TypeDef) → slice_get g.types t ≡ Some def → kept.types t ≡ true → OwnerIsKept kept def.owner
  type_owner_kept t def at takes = by def.name refl
    where
      unowned : (name : Option (List ℕ)) (o : TypeOwner) → name ≡ None → IsListed g.interfaces g.worlds t name o → OwnerIsKept kept o
      unowned None owner.None none listed = tt
      unowned None (owner.Interface f) none listed = absurd listed
      unowned None (owner.World w) none listed = absurd listed
      unowned (Some n) o none listed = cc

      by : (name : Option (List ℕ)) → def.name ≡ name → OwnerIsKept kept def.owner
      by None is = unowned def.name def.owner is (stands.items.types t def at).listed
      by (Some n) is =
          let among = mentioned_with g stands from old there t (active_by_mentioned t takes) in
          let same = owner_of_own g stands t def among.by at (ap is_some is) among.own in
          subst (OwnerIsKept kept) (sym same) (owner_kept among.by among.is)

  entry_kept : (e : Entry) → Contains (old.imports ++ old.exports) e → kept.items e.1 ≡ true → ItemIsKept kept e.1
  entry_kept e has takes = by e.0 e.1 refl (entry_is g stands from old there e has).0 has takes
    where
      named_or_goes : (k : WorldKey) (i : ℕ) (held : WorldItem) → item_interface held ≡ i ∷ [] → Contains (old.imports ++ old.exports) (k, held) → i < length g.interfaces → kept.interfaces i ≡ true
      named_or_goes k i held is has within = elim (named_or_not g.interfaces i within) [
        | inl named ↦ or_right (belongs_to g old i) (has_name g.interfaces i) named
        | inr unnamed ↦ or_left (belongs_to g old i) (has_name g.interfaces i) (placed_goes g old (k, held) i has is unnamed)
      ]

      by : (k : WorldKey) (held : WorldItem) → e ≡ (k, held) → IsImport g.interfaces g.types from k held → Contains (old.imports ++ old.exports) (k, held) → kept.items held ≡ true → ItemIsKept kept held
      by (key.Interface f) (item.Interface i stability docs span external_id) same is has takes =
          or_right (belongs_to g old i) (has_name g.interfaces i) (subst (λ (x : ℕ). has_name g.interfaces x ≡ true) (sym is.0) (is_named g.interfaces f is.1))
      by (key.Name name) (item.Interface i stability docs span external_id) same is has takes = named_or_goes (key.Name name) i (item.Interface i stability docs span external_id) refl has is
      by k (item.Function f) same is has takes = λ j t on. mentioned_by_active t (entry_mentioned g stands from old there (k, item.Function f) t has (contained_at (function_references f) j t on))
      by k (item.Type_ t span) same is has takes = takes

  pub part_is_closed : IsClosedCut kept g.types g.interfaces g.worlds
  part_is_closed = record {
    in_range = λ t takes. (mentioned_with g stands from old there t (active_by_mentioned t takes)).own.there;
    interfaces_in_range = λ f takes. elim (or_cases (belongs_to g old f) (has_name g.interfaces f) takes) [
      | inl goes ↦ goes_within g old f goes
      | inr named ↦ named_within g.interfaces f (named_is g.interfaces f named)
    ];
    references = λ t def at takes i u on. mentioned_by_active u (mentioned_refers g stands from old there t u def at (active_by_mentioned t takes) (contained_at (referred def.kind) i u on));
    owners = type_owner_kept;
    functions = λ f interface at takes i e on used j t reads. passes (is_mentioned g old) (function_references e.1) used t (contained_at (function_references e.1) j t reads);
    imports = λ w world at takes i e on keeps. let is = same_world w world at takes in entry_kept e (subst (λ (x : World). Contains (x.imports ++ x.exports) e) is (Contains-append_left world.imports world.exports e (contained_at world.imports i e on))) keeps;
    exports = λ w world at takes i e on keeps. let is = same_world w world at takes in entry_kept e (subst (λ (x : World). Contains (x.imports ++ x.exports) e) is (Contains-append_right world.imports world.exports e (contained_at world.exports i e on))) keeps;
    type_items = λ t span. refl;
  }
    where
      same_world : (w : ℕ) (world : World) → slice_get g.worlds w ≡ Some world → nat_eq w from ≡ true → world ≡ old
      same_world w world at takes = same_at g.worlds w from world old (eqb-true w from takes) at there

  part_is_good : IsGoodWhere kept g.types g.interfaces g.worlds
  part_is_good = record {
    types_are = λ t def at takes. stands.items.types t def at;
    interfaces_are = λ f interface at takes. stands.items.interfaces f interface at;
    imports_are = λ w world at takes. (stands.items.worlds w world at).imports;
    exports_are = λ w world at takes. (stands.items.worlds w world at).exports;
  }

  -- so it is a good source, under whatever maps
  pub part_good : (m : Maps) → IsGoodSource (include_source kept g m)
  part_good m = cut_is_good kept g.types g.interfaces g.worlds m part_is_closed part_is_good

  -- what an interface that goes with it mentions is mentioned
  of_going : (f : ℕ) (interface : Interface) (t : ℕ) → slice_get g.interfaces f ≡ Some interface → belongs_to g old f ≡ true → Contains (interface_mentions interface) t → Contains (named_types g old) t
  of_going f interface t at goes has =
      let placed = contains_from_any f (interfaces_in_worlds (old ∷ [])) (goes_parts g old f goes).1 in
      let e = holder f placed in
      entry_mentioned g stands from old there e.0 t e.1 (names e.0.0 e.0.1 e.2)
    where
      names : (k : WorldKey) (held : WorldItem) → Contains (item_interface held) f → Contains (entry_mentions g old (k, held)) t
      names k (item.Interface i stability docs span external_id) held =
          elim (Contains-cons_cases i f [] held) [
            | inl same ↦
                let goes_i : belongs_to g old i ≡ true = subst (λ (x : ℕ). belongs_to g old x ≡ true) (sym same) goes in
                let at_i : slice_get g.interfaces i ≡ Some interface = subst (λ (x : ℕ). slice_get g.interfaces x ≡ Some interface) (sym same) at in
                subst (λ (b : Bool). Contains (if b then option_map_or interface_mentions (slice_get g.interfaces i) [] else []) t) (sym goes_i)
                (subst (λ (o : Option Interface). Contains (option_map_or interface_mentions o []) t) (sym at_i) has)
            | inr none ↦ absurd (Contains-nil none)
          ]
      names k (item.Function fn) held = absurd (Contains-nil held)
      names k (item.Type_ u span) held = absurd (Contains-nil held)

      holder : (f : ℕ) → Contains (interfaces_in_worlds (old ∷ [])) f → (e : Entry) × Contains (old.imports ++ old.exports) e × Contains (item_interface e.1) f
      holder f placed =
          elim (Contains-append_cases (interfaces_of_entries old.imports ++ interfaces_of_entries old.exports) [] f placed) [
            | inl lists ↦ elim (Contains-append_cases (interfaces_of_entries old.imports) (interfaces_of_entries old.exports) f lists) [
              | inl among ↦ let e = Contains-flat_map_cases (λ (d : Entry). item_interface d.1) old.imports f among in (e.0, Contains-append_left old.imports old.exports e.0 e.1.0, e.1.1)
              | inr among ↦ let e = Contains-flat_map_cases (λ (d : Entry). item_interface d.1) old.exports f among in (e.0, Contains-append_right old.imports old.exports e.0 e.1.0, e.1.1)
            ]
            | inr none ↦ absurd (Contains-nil none)
          ]

  -- all of an interface that goes with the world is active
  pub belonging_types : (f : ℕ) (interface : Interface) (e : List ℕ × ℕ) → slice_get g.interfaces f ≡ Some interface → belongs_to g old f ≡ true → Contains interface.types e → kept.types e.1 ≡ true
  belonging_types f interface e at goes has =
      mentioned_by_active e.1
      (of_going f interface e.1 at goes
      (Contains-append_left (map (λ (d : List ℕ × ℕ). d.1) interface.types) (flat_map (λ (d : List ℕ × Function). function_references d.1) interface.functions) e.1
      (Contains-map (λ (d : List ℕ × ℕ). d.1) interface.types e has)))

  pub belonging_functions : (f : ℕ) (interface : Interface) (e : List ℕ × Function) → slice_get g.interfaces f ≡ Some interface → belongs_to g old f ≡ true → Contains interface.functions e → kept.functions e.1 ≡ true
  belonging_functions f interface e at goes has = all_pass (is_mentioned g old) (function_references e.1) (λ t uses.
      mentioned_by_active t
      (of_going f interface t at goes
      (Contains-append_right (map (λ (d : List ℕ × ℕ). d.1) interface.types) (flat_map (λ (d : List ℕ × Function). function_references d.1) interface.functions) t
      (Contains-flat_map (λ (d : List ℕ × Function). function_references d.1) interface.functions e t has uses))))

  -- what belongs to the world is mentioned
  pub belonging_mentioned : (t : ℕ) → is_owned_within g from old t ≡ true → Contains (named_types g old) t
  belonging_mentioned t owned =
      let is = owned_has g stands from old t owned in
      by is.0.name is.0.owner (stands.items.types t is.0 is.1).listed is.2
    where
      of_import : (name : List ℕ) (k : WorldKey) (held : WorldItem) → Contains old.imports (k, held) → Contains (entry_type k held) (name, t) → Contains (named_types g old) t
      of_import name (key.Interface f) held has among = absurd (Contains-nil among)
      of_import name (key.Name label) (item.Interface i stability docs span external_id) has among = absurd (Contains-nil among)
      of_import name (key.Name label) (item.Function fn) has among = absurd (Contains-nil among)
      of_import name (key.Name label) (item.Type_ u span) has among =
          let listed : List ℕ × ℕ = (label, u) in
          let one : List ℕ × ℕ = (name, t) in
          elim (Contains-cons_cases listed one [] among) [
            | inl same ↦
                let same_type : u ≡ t = ap (λ (e : List ℕ × ℕ). e.1) same in
                entry_mentioned g stands from old there (key.Name label, item.Type_ u span) t (Contains-append_left old.imports old.exports (key.Name label, item.Type_ u span) has)
                (subst (λ (x : ℕ). Contains (u ∷ []) x) same_type (Contains-here u []))
            | inr none ↦ absurd (Contains-nil none)
          ]

      by : (name : Option (List ℕ)) (o : TypeOwner) → IsListed g.interfaces g.worlds t name o → owner_belongs_to g from old o ≡ true → Contains (named_types g old) t
      by name owner.None listed goes = cc
      by None (owner.Interface f) listed goes = absurd listed
      by None (owner.World w) listed goes = absurd listed
      by (Some name) (owner.Interface f) listed goes =
          let found = found_at (λ (interface : Interface). Contains interface.types (name, t)) g.interfaces f listed in
          active_by_mentioned t (belonging_types f found.0 (name, t) found.1 goes found.2)
      by (Some name) (owner.World w) listed goes =
          let found = found_at (λ (world : World). Contains (world_types world) (name, t)) g.worlds w listed in
          let same : found.0 ≡ old = same_at g.worlds w from found.0 old (eqb-true w from goes) found.1 there in
          let e = Contains-flat_map_cases (λ (e : WorldKey × WorldItem). entry_type e.0 e.1) old.imports (name, t) (subst (λ (world : World). Contains (world_types world) (name, t)) same found.2) in
          of_import name e.0.0 e.0.1 e.1.0 e.1.1
