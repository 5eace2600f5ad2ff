-- A package that begins is sound: what its lines mention of other packages is added to it, one mention after another.
use Rattle.std.proofs.Common.{◌≡◌, ◌∙◌, ℕ, ◌<◌, ◌+◌, Bool, true, false, cond, List, [], ◌∷◌, ◌++◌, length, map, Option, Some, None, is_some, IsSome, slice_get, slice_set, length-append, length-set, refl, sym, ap, subst, arith, Contains, Decides, bytes_eq, drop_of_length-le, flat_map, fold, option_and_then, option_map, option_to_list}
use Rattle.std.proofs.lemmas.List.{append-nil}
use Rattle.std.proofs.lemmas.List.Elements.{Contains-append_left, Contains-append_right}
use Rattle.std.proofs.lemmas.Option.{slice_get_within}
use Rattle.std.proofs.lemmas.Slice.Eq.{bytes_eq-Decides}
use Rattle.std.specs.Cmp.{IsEquivalence}
use Rattle.std.specs.Cmp.Lexicographic.{nat_list_eq_equiv}
use Rattle.std.specs.List.{AllByRecursion, IsDistinct}
use Rattle.std.specs.Map.{keys_of, lookup}
use Rattle.std.specs.Option.{option_map_or}
use Rattle.wit_values.specs.Table.{HasDistinctKeys}
use Rattle.wit_values.specs.facts.Lists.{AllByRecursion-at, HasDistinctKeys-from_test, HasDistinctKeys-nil, slice_get-append, slice_get-push, slice_get-set}
use Rattle.wit_digraph.specs.facts.MemberFacts.{Contains-here}
use Rattle.wit_data.specs.Each.{Each, EachAt, SomeAt}
use Rattle.wit_data.specs.facts.EachFacts.{EachAt-nil, SomeAt-of}
use Rattle.wit_names.specs.facts.PackageNameFacts.{own_name, same_name, same_package-Decides}
use Rattle.wit_data.specs.Entries.{IsExport, IsImport, ItemUsesOwn}
use Rattle.wit_data.specs.Foreign.{ForeignItem, ForeignItems, IsForeign, IsForeignType, IsNameOnly, foreign_interfaces, foreign_worlds, interface_id, world_id}
use Rattle.wit_data.specs.Ownership.{IsListed, IsOwn, IsTypeOf, UsesOwn}
use Rattle.wit_names.specs.PackageName.{HasValidVersion, same_package}
use Rattle.wit_data.specs.Kind.{referred}
use Rattle.wit_data.specs.Uses.{alias_target}
use Rattle.wit_data.specs.declared.unresolved.AstItem.{AstItem}
use Rattle.wit_data.specs.declared.function.Function.{Function}
use Rattle.wit_data.specs.declared.interface.Interface.{Interface}
use Rattle.wit_names.specs.declared.package_name.PackageName.{PackageName}
use Rattle.wit_data.specs.declared.stability.Stability.{Stability}
use Rattle.wit_data.specs.declared.types.TypeDef.{TypeDef}
use Rattle.wit_data.specs.declared.types.TypeDefKind.{TypeDefKind}
use Rattle.wit_data.specs.declared.types.TypeOwner.{TypeOwner}
use Rattle.wit_data.specs.declared.world.World.{World}
use Rattle.wit_data.specs.declared.world.WorldItem.{WorldItem}
use Rattle.wit_data.specs.declared.world.WorldKey.{WorldKey}
use Rattle.wit_data.specs.declared.types.TypeDefKind.TheVariants as kind
use Rattle.wit_data.specs.declared.types.TypeOwner.TheVariants as owner
use Rattle.wit_data.specs.declared.unresolved.AstItem.TheVariants as item
use Rattle.wit_script_package.specs.Adding.{empty_interface, empty_world, type_with, with_interface_type, with_type}
use Rattle.wit_script_package.proofs.Parts.{with_type_name_in}
use Rattle.wit_script_package.specs.Draft.{new_draft, new_draft_at, span_after}
use Rattle.wit_script_package.specs.Mention.{known_mentions, mentioned_at}
use Rattle.wit_script_package.specs.Naming.{OptionalSpan, foreign_named}
use Rattle.wit_script_package.specs.steps.Mentioning.{fits, with_counted, with_dep_span, with_foreign, with_foreign_as, with_foreign_gate, with_foreign_type, with_gate, with_item_gate, with_mention, with_mention_of, with_package_gate, with_type_span, with_use_as}
use Rattle.wit_script_package.specs.declared.draft.Draft.{Draft}
use Rattle.wit_script_package.specs.declared.draft.Foreign.{Foreign}
use Rattle.wit_script_package.specs.declared.draft.LineContext.{LineContext}
use Rattle.wit_script_package.specs.declared.draft.Scope.{Scope}
use Rattle.wit_script_package.specs.declared.draft.Scope.TheVariants as scope
use Rattle.wit_script_package.specs.declared.mention.Mention.{Mention}
use Rattle.wit_script_package.specs.declared.mention.MentionKind.{MentionKind}
use Rattle.wit_script_package.specs.declared.mention.MentionKind.TheVariants as taken
use Rattle.wit_script_package.proofs.Keyed.{AreAll, IsInserted, all-inserted, all-same, inserted-nothing, keyed-distinct, keyed-each, keyed-length, keyed-told}
use Rattle.wit_script_package.proofs.Mentions.{all-mentions}
use Rattle.wit_script_package.proofs.Owned.{no_name}
use Rattle.wit_script_package.proofs.Places.{Each-from_all, Each-nil, EachAt-push, EachAt-set, SomeAt-moved, distinct-push, lookup-at, new-is, set-moves, some-within}
use Rattle.wit_script_package.proofs.Sound.{IsOpenOwn, IsSound, interface_count, things, world_count}
use Rattle.wit_script_package.proofs.Things.{IsGoodInterface, IsGoodType, IsGoodWorld, dep-is}
use Rattle.wit_script_lines.specs.facts.OptionFacts.{map-of, step-of}
use Rattle.wit_data.specs.steps.Parts.{parts, IsNameOnlyInterface, IsNameOnlyWorld}
use Rattle.wit_script_package.specs.steps.Parts.{with_type_name}

-- ---- what holds while mentions are added

-- a type of a foreign interface
record IsForeignDef (interfaces : List Interface) (i : ℕ) (def : TypeDef) : Type 0 where
  unknown : def.kind ≡ kind.Unknown
  name : List ℕ
  named : def.name ≡ Some name
  by : ℕ
  owned : def.owner ≡ owner.Interface by
  listed : SomeAt interfaces by (λ (interface : Interface). Contains interface.types (name, i))

record IsForeignInterface (types : List TypeDef) (f : ℕ) (interface : Interface) : Type 0 where
  types_differ : HasDistinctKeys interface.types
  no_functions : interface.functions ≡ []
  unplaced : interface.package ≡ None
  named : IsSome interface.name
  own_types : Each (λ (e : List ℕ × ℕ). IsTypeOf types (owner.Interface f) e.0 e.1) interface.types

record IsForeignWorld (world : World) : Type 0 where
  no_imports : world.imports ≡ []
  no_exports : world.exports ≡ []
  unplaced : world.package ≡ None

-- what is known of other packages, and nothing else is there
record AreKnown (deps : ForeignItems) (places : List OptionalSpan) (interfaces : List Interface) (worlds : List World) : Type 0 where
  spans : length places ≡ length deps
  packages : IsDistinct same_package (keys_of deps)
  items : AllByRecursion (λ (e : PackageName × List ForeignItem). IsDistinct bytes_eq (keys_of e.1)) deps
  all_interfaces : AreAll (foreign_interfaces deps) (length interfaces)
  all_worlds : AreAll (foreign_worlds deps) (length worlds)
  bare : AllByRecursion (λ (e : PackageName × List ForeignItem). AllByRecursion (IsForeign interfaces worlds) e.1) deps

record IsBegunAs (types : List TypeDef) (interfaces : List Interface) (worlds : List World) (foreign : Foreign) : Type 0 where
  all_types : EachAt (IsForeignDef interfaces) types
  all_interfaces : EachAt (IsForeignInterface types) interfaces
  all_worlds : Each IsForeignWorld worlds
  unknown : length foreign.type_spans ≡ length types
  known : AreKnown foreign.deps foreign.dep_spans interfaces worlds

abbrev IsBegun : Draft → Type 0
IsBegun p = IsBegunAs p.types p.interfaces p.worlds p.foreign

-- ---- lists that grow

abbrev BareMore : Interface → Interface → Type 0
BareMore old new = (new.name ≡ old.name) × (new.functions ≡ old.functions) × ((e : List ℕ × ℕ) → Contains old.types e → Contains new.types e)

bare_more-same : (interface : Interface) → BareMore interface interface
bare_more-same interface = (refl, refl, λ e has. has)

record BareGrows (old new : List Interface) (worlds more : List World) : Type 0 where
  interfaces_stay : (f : ℕ) (interface : Interface) → slice_get old f ≡ Some interface → (x : Interface) × (slice_get new f ≡ Some x) × BareMore interface x
  worlds_stay : (w : ℕ) (world : World) → slice_get worlds w ≡ Some world → slice_get more w ≡ Some world

module _ (old new : List Interface) (worlds more : List World) (grows : BareGrows old new worlds more) where
  name_only-stays : (name : List ℕ) (it : AstItem) → IsNameOnly old worlds name it → IsNameOnly new more name it
  name_only-stays name (item.Interface id) some =
      SomeAt-moved (IsNameOnlyInterface name) (IsNameOnlyInterface name) old new id
      (λ x at h. let moved = grows.interfaces_stay id x at in (moved.0, moved.1, (moved.2.0 ∙ h.0, moved.2.1 ∙ h.1))) some
  name_only-stays name (item.World id) some = SomeAt-moved (IsNameOnlyWorld name) (IsNameOnlyWorld name) worlds more id (λ x at h. (x, grows.worlds_stay id x at, h)) some

  items-stay : (items : List ForeignItem) → AllByRecursion (IsForeign old worlds) items → AllByRecursion (IsForeign new more) items
  items-stay [] all = tt
  items-stay (named ∷ items) all = ((name_only-stays named.0 named.1.0 all.0.0, all.0.1), items-stay items all.1)

  deps-stay : (deps : ForeignItems) → AllByRecursion (λ (e : PackageName × List ForeignItem). AllByRecursion (IsForeign old worlds) e.1) deps → AllByRecursion (λ (e : PackageName × List ForeignItem). AllByRecursion (IsForeign new more) e.1) deps
  deps-stay [] all = tt
  deps-stay (e ∷ deps) all = (items-stay e.1 all.0, deps-stay deps all.1)

  defs-stay : (types : List TypeDef) → EachAt (IsForeignDef old) types → EachAt (IsForeignDef new) types
  defs-stay types each i def at =
      let was = each i def at in
      record {
        unknown = was.unknown;
        name = was.name;
        named = was.named;
        by = was.by;
        owned = was.owned;
        listed = SomeAt-moved (λ (x : Interface). Contains x.types (was.name, i)) (λ (x : Interface). Contains x.types (was.name, i)) old new was.by
            (λ x there has. let moved = grows.interfaces_stay was.by x there in (moved.0, moved.1, moved.2.2 (was.name, i) has)) was.listed;
      }

-- ---- what is known with one gate more

packages_turn : (a b : PackageName) → same_package a b ≡ same_package b a
packages_turn a b = by (same_package a b) (same_package b a) (same_package-Decides a b) (same_package-Decides b a) where
  by : (c d : Bool) → Decides c (a ≡ b) → Decides d (b ≡ a) → c ≡ d
  by true true there back = refl
  by true false there back = let wrong : false ≡ true = back.1 (sym (there.0 refl)) in cc
  by false true there back = let wrong : false ≡ true = there.1 (sym (back.0 refl)) in cc
  by false false there back = refl

not_empty : (xs : List Stability) (x : Stability) → (xs ++ x ∷ [] ≡ []) → ⊥
not_empty [] x is = cc
not_empty (y ∷ xs) x is = cc

no_keys : IsDistinct bytes_eq []
unfolding IsDistinct
no_keys = tt

-- what is named in the items of packages
abbrev found_in : ForeignItems → PackageName → List ℕ → Option AstItem
found_in deps parent name = option_and_then (λ (items : List ForeignItem). option_map (λ (noted : AstItem × List Stability). noted.0) (lookup (bytes_eq name) items)) (lookup (same_package parent) deps)

module _ (told : AstItem → List ℕ) (deps : ForeignItems) (parent : PackageName) (name : List ℕ) (it : AstItem) (gate : Stability) where
  abbrev item_told : ForeignItem → List ℕ
  item_told named = told named.1.0

  abbrev all_told : PackageName × List ForeignItem → List ℕ
  all_told e = flat_map item_told e.1

  abbrev gated : ForeignItems
  gated = with_package_gate parent name it gate deps

  -- of a new item
  told-new : found_in deps parent name ≡ None → IsInserted (flat_map all_told deps) (told it) (flat_map all_told gated)
  told-new none =
      keyed-told same_package parent [] (with_item_gate name it gate) all_told (told it) deps (λ no. append-nil (told it))
      (λ k items found. keyed-told bytes_eq name (it, []) (with_gate gate) item_told (told it) items (λ no. refl)
      (λ l noted has.
      let there : found_in deps parent name ≡ Some noted.0 =
      ap (option_and_then (λ (es : List ForeignItem). option_map (λ (n : AstItem × List Stability). n.0) (lookup (bytes_eq name) es))) found
      ∙ ap (option_map (λ (n : AstItem × List Stability). n.0)) has in
      cc))

  -- of one that is there
  told-same : (was : AstItem) → found_in deps parent name ≡ Some was → IsInserted (flat_map all_told deps) [] (flat_map all_told gated)
  told-same was there =
      keyed-told same_package parent [] (with_item_gate name it gate) all_told [] deps
      (λ no.
      let none : found_in deps parent name ≡ None = ap (option_and_then (λ (es : List ForeignItem). option_map (λ (n : AstItem × List Stability). n.0) (lookup (bytes_eq name) es))) no in
      cc)
      (λ k items found. keyed-told bytes_eq name (it, []) (with_gate gate) item_told [] items
      (λ no.
      let none : found_in deps parent name ≡ None =
      ap (option_and_then (λ (es : List ForeignItem). option_map (λ (n : AstItem × List Stability). n.0) (lookup (bytes_eq name) es))) found
      ∙ ap (option_map (λ (n : AstItem × List Stability). n.0)) no in
      cc)
      (λ l noted has. inserted-nothing (told noted.0)))

module _ (deps : ForeignItems) (places : List OptionalSpan) (interfaces : List Interface) (worlds : List World) (parent : PackageName) (name : List ℕ) (it : AstItem) (gate : Stability) (span : OptionalSpan) where
  abbrev now : ForeignItems
  now = with_package_gate parent name it gate deps

  spans-fit : length places ≡ length deps → length (with_dep_span deps parent span places) ≡ length now
  spans-fit same = by (is_some (lookup (same_package parent) deps)) (keyed-length same_package parent [] (with_item_gate name it gate) deps) where
    by : (b : Bool) → length now ≡ length deps + cond b 0 1 → length (cond b places (places ++ span ∷ [])) ≡ length now
    by true is = omega (arith, is, same)
    by false is = omega (arith, is, same, length-append places (span ∷ []))

  -- what is known with one gate more of an item that is bare
  gate-known : IsNameOnly interfaces worlds name it → length places ≡ length deps → IsDistinct same_package (keys_of deps)
      → AllByRecursion (λ (e : PackageName × List ForeignItem). IsDistinct bytes_eq (keys_of e.1)) deps
      → AllByRecursion (λ (e : PackageName × List ForeignItem). AllByRecursion (IsForeign interfaces worlds) e.1) deps
      → AreAll (foreign_interfaces now) (length interfaces) → AreAll (foreign_worlds now) (length worlds)
      → AreKnown now (with_dep_span deps parent span places) interfaces worlds
  gate-known only same packages items bare of_interfaces of_worlds = record {
    spans = spans-fit same;
    packages = keyed-distinct same_package parent [] (with_item_gate name it gate) packages_turn deps packages;
    items = keyed-each same_package parent [] (with_item_gate name it gate) (λ (e : PackageName × List ForeignItem). IsDistinct bytes_eq (keys_of e.1)) deps items
        (keyed-distinct bytes_eq name (it, []) (with_gate gate) nat_list_eq_equiv.symm [] no_keys)
        (λ k v distinct. keyed-distinct bytes_eq name (it, []) (with_gate gate) nat_list_eq_equiv.symm v distinct);
    all_interfaces = of_interfaces;
    all_worlds = of_worlds;
    bare = keyed-each same_package parent [] (with_item_gate name it gate) (λ (e : PackageName × List ForeignItem). AllByRecursion (IsForeign interfaces worlds) e.1) deps bare
        (keyed-each bytes_eq name (it, []) (with_gate gate) (IsForeign interfaces worlds) [] tt (only, not_empty [] gate) (λ k v has. (has.0, not_empty v.1 gate)))
        (λ k v all. keyed-each bytes_eq name (it, []) (with_gate gate) (IsForeign interfaces worlds) v all (only, not_empty [] gate) (λ l w has. (has.0, not_empty w.1 gate)));
  }

-- ---- mentions

module _ (p : Draft) (begun : IsBegun p) (m : Mention) where
  -- a gate more of an item that is there
  gate-more : (it : AstItem) → foreign_named p m.parent m.name ≡ Some it → IsBegun (with_foreign_gate p m it)
  gate-more it there =
      let items = step-of (λ (es : List ForeignItem). option_map (λ (n : AstItem × List Stability). n.0) (lookup (bytes_eq m.name) es)) (lookup (same_package m.parent) p.foreign.deps) it there in
      let noted = map-of (λ (n : AstItem × List Stability). n.0) (lookup (bytes_eq m.name) items.0) it items.2 in
      let in_deps = lookup-at (same_package m.parent) p.foreign.deps items.0 items.1 in
      let in_items = lookup-at (bytes_eq m.name) items.0 noted.0 noted.1 in
      let of_package : AllByRecursion (IsForeign p.interfaces p.worlds) items.0 =
      AllByRecursion-at (λ (e : PackageName × List ForeignItem). AllByRecursion (IsForeign p.interfaces p.worlds) e.1) p.foreign.deps in_deps.0 (in_deps.1, items.0) begun.known.bare in_deps.2 in
      let bare : IsForeign p.interfaces p.worlds (in_items.1, noted.0) = AllByRecursion-at (IsForeign p.interfaces p.worlds) items.0 in_items.0 (in_items.1, noted.0) of_package in_items.2 in
      let same : m.name ≡ in_items.1 = (bytes_eq-Decides m.name in_items.1).0 in_items.3 in
      let named : IsNameOnly p.interfaces p.worlds m.name noted.0.0 = subst (λ (n : List ℕ). IsNameOnly p.interfaces p.worlds n noted.0.0) (sym same) bare.0 in
      let only : IsNameOnly p.interfaces p.worlds m.name it = subst (IsNameOnly p.interfaces p.worlds m.name) noted.2 named in
      record {
        all_types = begun.all_types;
        all_interfaces = begun.all_interfaces;
        all_worlds = begun.all_worlds;
        unknown = begun.unknown;
        known = gate-known p.foreign.deps p.foreign.dep_spans p.interfaces p.worlds m.parent m.name it m.gate m.span only begun.known.spans begun.known.packages begun.known.items begun.known.bare
            (all-same (length p.interfaces) _ _ begun.known.all_interfaces (told-same interface_id p.foreign.deps m.parent m.name it m.gate it there))
            (all-same (length p.worlds) _ _ begun.known.all_worlds (told-same world_id p.foreign.deps m.parent m.name it m.gate it there));
      }

  abbrev new_interface : Interface
  new_interface = empty_interface m.name (mentioned_at m)

  abbrev with_new_interface : Draft
  with_new_interface = record p { interfaces = p.interfaces ++ new_interface ∷ [] }

  -- a first mention of an interface
  interface-more : foreign_named p m.parent m.name ≡ None → IsBegun (with_foreign_gate with_new_interface m (item.Interface (length p.interfaces)))
  interface-more none =
      let grows : BareGrows p.interfaces with_new_interface.interfaces p.worlds p.worlds = record {
        interfaces_stay = λ f x at. (x, slice_get-append p.interfaces (new_interface ∷ []) f x at, bare_more-same x);
        worlds_stay = λ w x at. at;
      } in
      let it : AstItem = item.Interface (length p.interfaces) in
      record {
        all_types = defs-stay p.interfaces with_new_interface.interfaces p.worlds p.worlds grows p.types begun.all_types;
        all_interfaces = EachAt-push (IsForeignInterface p.types) p.interfaces new_interface begun.all_interfaces (record {
          types_differ = HasDistinctKeys-nil;
          no_functions = refl;
          unplaced = refl;
          named = refl;
          own_types = Each-nil (λ (e : List ℕ × ℕ). IsTypeOf p.types (owner.Interface (length p.interfaces)) e.0 e.1);
        });
        all_worlds = begun.all_worlds;
        unknown = begun.unknown;
        known = gate-known p.foreign.deps p.foreign.dep_spans with_new_interface.interfaces p.worlds m.parent m.name it m.gate m.span
            (SomeAt-of (IsNameOnlyInterface m.name) with_new_interface.interfaces (length p.interfaces) new_interface (slice_get-push p.interfaces new_interface) (refl, refl))
            begun.known.spans begun.known.packages begun.known.items
            (deps-stay p.interfaces with_new_interface.interfaces p.worlds p.worlds grows p.foreign.deps begun.known.bare)
            (subst (AreAll (foreign_interfaces (with_package_gate m.parent m.name it m.gate p.foreign.deps))) (sym (length-append p.interfaces (new_interface ∷ [])))
            (all-inserted (length p.interfaces) _ _ begun.known.all_interfaces (told-new interface_id p.foreign.deps m.parent m.name it m.gate none)))
            (all-same (length p.worlds) _ _ begun.known.all_worlds (told-new world_id p.foreign.deps m.parent m.name it m.gate none));
      }

  abbrev new_world : World
  new_world = empty_world m.name (mentioned_at m)

  abbrev with_new_world : Draft
  with_new_world = record p { worlds = p.worlds ++ new_world ∷ [] }

  -- a first mention of a world
  world-more : foreign_named p m.parent m.name ≡ None → IsBegun (with_foreign_gate with_new_world m (item.World (length p.worlds)))
  world-more none =
      let grows : BareGrows p.interfaces p.interfaces p.worlds with_new_world.worlds = record {
        interfaces_stay = λ f x at. (x, at, bare_more-same x);
        worlds_stay = slice_get-append p.worlds (new_world ∷ []);
      } in
      let it : AstItem = item.World (length p.worlds) in
      record {
        all_types = begun.all_types;
        all_interfaces = begun.all_interfaces;
        all_worlds = EachAt-push (λ _ (w : World). IsForeignWorld w) p.worlds new_world begun.all_worlds (record { no_imports = refl; no_exports = refl; unplaced = refl });
        unknown = begun.unknown;
        known = gate-known p.foreign.deps p.foreign.dep_spans p.interfaces with_new_world.worlds m.parent m.name it m.gate m.span
            (SomeAt-of (IsNameOnlyWorld m.name) with_new_world.worlds (length p.worlds) new_world (slice_get-push p.worlds new_world) (refl, refl, refl, refl))
            begun.known.spans begun.known.packages begun.known.items
            (deps-stay p.interfaces p.interfaces p.worlds with_new_world.worlds grows p.foreign.deps begun.known.bare)
            (all-same (length p.interfaces) _ _ begun.known.all_interfaces (told-new interface_id p.foreign.deps m.parent m.name it m.gate none))
            (subst (AreAll (foreign_worlds (with_package_gate m.parent m.name it m.gate p.foreign.deps))) (sym (length-append p.worlds (new_world ∷ [])))
            (all-inserted (length p.worlds) _ _ begun.known.all_worlds (told-new world_id p.foreign.deps m.parent m.name it m.gate none)));
      }

module _ (p : Draft) (begun : IsBegun p) (name : List ℕ) (here : LineContext) (at : ℕ) where
  -- a type of a foreign interface
  type-more : with_foreign_type p name here at ≡ with_foreign_type p name here at → IsBegun (with_foreign_type p name here at)
  type-more same = by (with_interface_type p name kind.Unknown here at) refl where
    by : (o : Option Draft) → with_interface_type p name kind.Unknown here at ≡ o → IsBegun (option_map_or (with_type_span here.span) o p)
    by None is = begun
    by (Some q) is =
        let def : TypeDef = type_with (Some name) kind.Unknown (owner.Interface at) here in
        let half = map-of (λ (r : Draft). with_type r def) (with_type_name p name at) q is in
        let to = step-of (with_type_name_in p name at) (slice_get p.interfaces at) half.0 half.1 in
        let new = new-is (lookup (bytes_eq name) to.0.types) _ half.0 to.2 in
        let held : Interface = record to.0 { types = to.0.types ++ (name, length p.types) ∷ [] } in
        let whole : with_type (record p { interfaces = slice_set p.interfaces at held }) def ≡ q = ap (λ (r : Draft). with_type r def) new.1 ∙ half.2 in
        let was = begun.all_interfaces at to.0 to.1 in
        let grows : BareGrows p.interfaces (slice_set p.interfaces at held) p.worlds p.worlds = record {
          interfaces_stay = set-moves BareMore bare_more-same p.interfaces at to.0 held to.1 (refl, refl, Contains-append_left to.0.types ((name, length p.types) ∷ []));
          worlds_stay = λ w x there. there;
        } in
        let last : slice_get (p.types ++ def ∷ []) (length p.types) ≡ Some def = slice_get-push p.types def in
        let types_stay : (by_type : TypeOwner) (n : List ℕ) (id : ℕ) → IsTypeOf p.types by_type n id → IsTypeOf (p.types ++ def ∷ []) by_type n id =
        λ by_type n id some. SomeAt-moved (λ (d : TypeDef). (d.name ≡ Some n) × (d.owner ≡ by_type)) (λ (d : TypeDef). (d.name ≡ Some n) × (d.owner ≡ by_type)) p.types (p.types ++ def ∷ []) id
        (λ x there h. (x, slice_get-append p.types (def ∷ []) id x there, h)) some in
        subst (λ (r : Draft). IsBegun (with_type_span here.span r)) whole (record {
          all_types = EachAt-push (IsForeignDef (slice_set p.interfaces at held)) p.types def (defs-stay p.interfaces (slice_set p.interfaces at held) p.worlds p.worlds grows p.types begun.all_types) (record {
            unknown = refl;
            name = name;
            named = refl;
            by = at;
            owned = refl;
            listed = SomeAt-of (λ (x : Interface). Contains x.types (name, length p.types)) (slice_set p.interfaces at held) at held (slice_get-set p.interfaces at to.0 held to.1)
                (Contains-append_right to.0.types ((name, length p.types) ∷ []) (name, length p.types) (Contains-here (name, length p.types) []));
          });
          all_interfaces = EachAt-set (IsForeignInterface (p.types ++ def ∷ [])) p.interfaces at held
              (λ f x there. let old = begun.all_interfaces f x there in record {
                types_differ = old.types_differ;
                no_functions = old.no_functions;
                unplaced = old.unplaced;
                named = old.named;
                own_types = λ i e entry. types_stay (owner.Interface f) e.0 e.1 (old.own_types i e entry);
              })
              (record {
                types_differ = distinct-push bytes_eq bytes_eq-Decides to.0.types name (length p.types) was.types_differ new.0;
                no_functions = was.no_functions;
                unplaced = was.unplaced;
                named = was.named;
                own_types = EachAt-push (λ _ (e : List ℕ × ℕ). IsTypeOf (p.types ++ def ∷ []) (owner.Interface at) e.0 e.1) to.0.types (name, length p.types)
                    (λ i e entry. types_stay (owner.Interface at) e.0 e.1 (was.own_types i e entry))
                    (SomeAt-of (λ (d : TypeDef). (d.name ≡ Some name) × (d.owner ≡ owner.Interface at)) (p.types ++ def ∷ []) (length p.types) def last (refl, refl));
              });
          all_worlds = begun.all_worlds;
          unknown = omega (arith, begun.unknown, length-append p.foreign.type_spans (here.span ∷ []), length-append p.types (def ∷ []));
          known = record {
            spans = begun.known.spans;
            packages = begun.known.packages;
            items = begun.known.items;
            all_interfaces = subst (AreAll (foreign_interfaces p.foreign.deps)) (sym (length-set p.interfaces at held)) begun.known.all_interfaces;
            all_worlds = begun.known.all_worlds;
            bare = deps-stay p.interfaces (slice_set p.interfaces at held) p.worlds p.worlds grows p.foreign.deps begun.known.bare;
          };
        })

use-more : (p : Draft) → IsBegun p → (m : Mention) (it : AstItem) (k : MentionKind) → IsBegun (with_use_as p m it k)
use-more p begun m it taken.Interface = begun
use-more p begun m (item.Interface id) (taken.Type_ name) = type-more p begun name (record { gate = m.gate; span = m.span }) id refl
use-more p begun m (item.World id) (taken.Type_ name) = begun
use-more p begun m it taken.World = begun

-- the item of a first mention
first-more : (p : Draft) → IsBegun p → (m : Mention) (k : MentionKind) → foreign_named p m.parent m.name ≡ None → IsBegun (with_foreign_gate (with_foreign_as p m k).1 m (with_foreign_as p m k).0)
first-more p begun m taken.Interface none = interface-more p begun m none
first-more p begun m (taken.Type_ name) none = interface-more p begun m none
first-more p begun m taken.World none = world-more p begun m none

mention-more : (p : Draft) → IsBegun p → (m : Mention) → IsBegun (with_mention p m)
mention-more p begun m = by (foreign_named p m.parent m.name) refl where
  by : (o : Option AstItem) → foreign_named p m.parent m.name ≡ o → IsBegun (with_mention_of p m o)
  by None none = use-more _ (first-more p begun m m.kind none) m (with_foreign p m).0 m.kind
  by (Some it) there = counted (fits m.kind it) where
    counted : (b : Bool) → IsBegun (cond b (with_counted p m it) p)
    counted true = use-more (with_foreign_gate p m it) (gate-more p begun m it there) m it m.kind
    counted false = begun

mentions-more : (ms : List Mention) (p : Draft) → IsBegun p → IsBegun (fold with_mention p ms)
mentions-more [] p begun = begun
mentions-more (m ∷ ms) p begun = mentions-more ms (with_mention p m) (mention-more p begun m)

-- ---- the package that begins

module _ (name : PackageName) (line : List ℕ) (span : OptionalSpan) where
  nothing-begun : IsBegun (new_draft_at name line [] span)
  unfolding IsDistinct
  nothing-begun = record {
    all_types = EachAt-nil (IsForeignDef []);
    all_interfaces = EachAt-nil (IsForeignInterface []);
    all_worlds = EachAt-nil (λ _ (w : World). IsForeignWorld w);
    unknown = refl;
    known = record {
      spans = refl;
      packages = tt;
      items = tt;
      all_interfaces = record { once = tt; below = tt; all = refl };
      all_worlds = record { once = tt; below = tt; all = refl };
      bare = tt;
    };
  }

  all-begun : (ms : List Mention) → IsBegun (new_draft_at name line (known_mentions ms) span)
  all-begun ms = subst IsBegun (all-mentions ms name line span) (mentions-more ms (new_draft_at name line [] span) nothing-begun)

packages_equal : IsEquivalence same_package
packages_equal = record {
  refl = own_name;
  symm = packages_turn;
  congr = λ a b c same. ap (λ (d : PackageName). same_package d c) (same_name a b same);
}

names_differ : (items : List ForeignItem) → IsDistinct bytes_eq (keys_of items) → HasDistinctKeys items
names_differ items distinct = HasDistinctKeys-from_test nat_list_eq_equiv items distinct

module _ (p : Draft) (begun : IsBegun p) (required : p.required ≡ []) (interface_ids : p.interface_ids ≡ []) (world_ids : p.world_ids ≡ []) (into : p.scope ≡ scope.Package) where
  abbrev nf : ℕ
  nf = interface_count p.foreign.deps

  abbrev nw : ℕ
  nw = world_count p.foreign.deps

  abbrev nu : ℕ
  nu = length p.foreign.type_spans

  no_target : (def : TypeDef) → def.kind ≡ kind.Unknown → alias_target def.kind ≡ None
  no_target def unknown = ap alias_target unknown

  good_type : (i : ℕ) (def : TypeDef) → slice_get p.types i ≡ Some def → IsGoodType nf nu (things p) i def
  good_type i def at =
      let was = begun.all_types i def at in
      let below : i < length p.types = slice_get_within p.types i def at in
      let within : was.by < length p.interfaces = some-within (λ (x : Interface). Contains x.types (was.name, i)) p.interfaces was.by was.listed in
      let first : was.by < nf = omega (arith, within, begun.known.all_interfaces.all) in
      let named : IsSome def.name = subst IsSome (sym was.named) refl in
      record {
        listed = subst (λ (n : Option (List ℕ)). IsListed p.interfaces p.worlds i n def.owner) (sym was.named)
            (subst (λ (o : TypeOwner). IsListed p.interfaces p.worlds i (Some was.name) o) (sym was.owned) was.listed);
        earlier = subst (λ (k : TypeDefKind). Each (λ id. id < i) (referred k)) (sym was.unknown) (Each-nil (λ id. id < i));
        aliases = rw (no_target def was.unknown) tt;
        unnamed = λ none. absurd (no_name def.name none named);
        own = λ some. subst (λ (k : TypeDefKind). Each (IsOwn p.types def.owner) (parts k)) (sym was.unknown) (Each-nil (IsOwn p.types def.owner));
        unknown_first = (λ is. omega (arith, below, begun.unknown), λ low. was.unknown);
        of_foreign = λ low. subst (λ (o : TypeOwner). IsForeignType nf (record def { owner = o })) (sym was.owned) (named, first);
        uses = λ f j owned dep.
            let it = dep-is p.types i def j at dep in
            let none : alias_target def.kind ≡ None = no_target def was.unknown in
            let some : alias_target def.kind ≡ Some it.target = it.alias in
            cc;
      }

  good_interface : (f : ℕ) (interface : Interface) → slice_get p.interfaces f ≡ Some interface → IsGoodInterface nf nu (things p) f interface
  good_interface f interface at =
      let was = begun.all_interfaces f interface at in
      record {
        types_differ = was.types_differ;
        functions_differ = subst (λ (fs : List (List ℕ × Function)). HasDistinctKeys fs) (sym was.no_functions) HasDistinctKeys-nil;
        unplaced = was.unplaced;
        named = was.named;
        own_types = was.own_types;
        functions = subst (λ (fs : List (List ℕ × Function)). Each (λ (e : List ℕ × Function). e.1.name ≡ e.0) fs) (sym was.no_functions) (Each-nil (λ (e : List ℕ × Function). e.1.name ≡ e.0));
        own = subst (λ (fs : List (List ℕ × Function)). Each (λ (e : List ℕ × Function). UsesOwn p.types (owner.Interface f) e.1) fs) (sym was.no_functions)
            (Each-nil (λ (e : List ℕ × Function). UsesOwn p.types (owner.Interface f) e.1));
        alone = λ low. λ i e entry.
            let within = some-within (λ (d : TypeDef). (d.name ≡ Some e.0) × (d.owner ≡ owner.Interface f)) p.types e.1 (was.own_types i e entry) in
            omega (arith, within, begun.unknown);
      }

  good_world : (w : ℕ) (world : World) → slice_get p.worlds w ≡ Some world → IsGoodWorld (things p) w world
  good_world w world at =
      let was = begun.all_worlds w world at in
      record {
        imports_differ = subst (λ (es : List (WorldKey × WorldItem)). HasDistinctKeys es) (sym was.no_imports) HasDistinctKeys-nil;
        exports_differ = subst (λ (es : List (WorldKey × WorldItem)). HasDistinctKeys es) (sym was.no_exports) HasDistinctKeys-nil;
        unplaced = was.unplaced;
        imports = subst (λ (es : List (WorldKey × WorldItem)). Each (λ (e : WorldKey × WorldItem). IsImport p.interfaces p.types w e.0 e.1) es) (sym was.no_imports)
            (Each-nil (λ (e : WorldKey × WorldItem). IsImport p.interfaces p.types w e.0 e.1));
        exports = subst (λ (es : List (WorldKey × WorldItem)). Each (λ (e : WorldKey × WorldItem). IsExport p.interfaces e.0 e.1) es) (sym was.no_exports)
            (Each-nil (λ (e : WorldKey × WorldItem). IsExport p.interfaces e.0 e.1));
        imports_own = subst (λ (es : List (WorldKey × WorldItem)). Each (λ (e : WorldKey × WorldItem). ItemUsesOwn p.types w e.1) es) (sym was.no_imports)
            (Each-nil (λ (e : WorldKey × WorldItem). ItemUsesOwn p.types w e.1));
        exports_own = subst (λ (es : List (WorldKey × WorldItem)). Each (λ (e : WorldKey × WorldItem). ItemUsesOwn p.types w e.1) es) (sym was.no_exports)
            (Each-nil (λ (e : WorldKey × WorldItem). ItemUsesOwn p.types w e.1));
      }

  -- what has only what is foreign is sound
  begun-sound : HasValidVersion p.name → IsSound p
  unfolding IsDistinct
  begun-sound valid = record {
    version = valid;
    good = record {
      types = good_type;
      interfaces = good_interface;
      worlds = good_world;
      first_types = omega (arith, begun.unknown);
      first_interfaces = omega (arith, begun.known.all_interfaces.all);
      first_worlds = omega (arith, begun.known.all_worlds.all);
    };
    known = record {
      spans = begun.known.spans;
      packages = HasDistinctKeys-from_test packages_equal p.foreign.deps begun.known.packages;
      items = λ i e at. names_differ e.1 (AllByRecursion-at (λ (d : PackageName × List ForeignItem). IsDistinct bytes_eq (keys_of d.1)) p.foreign.deps i e begun.known.items at);
      interfaces_once = begun.known.all_interfaces.once;
      interfaces_first = λ i id at.
          let low = AllByRecursion-at (λ n. n < length p.interfaces) (foreign_interfaces p.foreign.deps) i id begun.known.all_interfaces.below at in omega (arith, low, begun.known.all_interfaces.all);
      worlds_once = begun.known.all_worlds.once;
      worlds_first = λ i id at.
          let low = AllByRecursion-at (λ n. n < length p.worlds) (foreign_worlds p.foreign.deps) i id begun.known.all_worlds.below at in omega (arith, low, begun.known.all_worlds.all);
      bare = λ i e at.
          Each-from_all (IsForeign p.interfaces p.worlds) e.1
          (AllByRecursion-at (λ (d : PackageName × List ForeignItem). AllByRecursion (IsForeign p.interfaces p.worlds) d.1) p.foreign.deps i e begun.known.bare at);
    };
    required = subst (λ (rs : List (ℕ × OptionalSpan)). Each (λ (r : ℕ × OptionalSpan). SomeAt p.types r.0 (λ (def : TypeDef). def.kind ≡ kind.Unknown)) rs) (sym required)
        (Each-nil (λ (r : ℕ × OptionalSpan). SomeAt p.types r.0 (λ (def : TypeDef). def.kind ≡ kind.Unknown)));
    interfaces_named = ap (flat_map (λ (interface : Interface). option_to_list interface.name)) (drop_of_length-le p.interfaces {i = nf} (omega (arith, begun.known.all_interfaces.all))) ∙ sym (ap keys_of interface_ids);
    interfaces_differ = subst (λ (ids : List (List ℕ × ℕ)). IsDistinct bytes_eq (keys_of ids)) (sym interface_ids) tt;
    interfaces_there = subst (λ (ids : List (List ℕ × ℕ)). Each (λ (e : List ℕ × ℕ). e.1 < length p.interfaces) ids) (sym interface_ids) (Each-nil (λ (e : List ℕ × ℕ). e.1 < length p.interfaces));
    worlds_named = ap (map (λ (world : World). world.name)) (drop_of_length-le p.worlds {i = nw} (omega (arith, begun.known.all_worlds.all))) ∙ sym (ap keys_of world_ids);
    worlds_differ = subst (λ (ids : List (List ℕ × ℕ)). IsDistinct bytes_eq (keys_of ids)) (sym world_ids) tt;
    open_own = subst (λ (s : Scope). IsOpenOwn s nf (length p.interfaces) nw (length p.worlds)) (sym into) tt;
  }

-- a package that begins is sound
pub begin-sound : (name : PackageName) (line : List ℕ) (ms : List Mention) (p : Draft) → HasValidVersion name → new_draft name line ms ≡ Some p → IsSound p
begin-sound name line ms p valid made =
    let span = map-of (new_draft_at name line (known_mentions ms)) (span_after 0 line) p made in
    subst IsSound span.2 (begun-sound (new_draft_at name line (known_mentions ms) span.0) (all-begun name line span.0 ms) refl refl refl refl valid)
