-- A type, an interface, a world, a function or an entry more: all is good that was, and the new one is.
use Rattle.std.proofs.Common.{◌≡◌, ◌≢◌, ◌⊎◌, ℕ, ◌<◌, ◌≤◌, ◌++◌, List, [], ◌∷◌, length, Some, None, IfSome, IsSome, slice_get, slice_set, length-append, length-set, refl, arith, Contains, bytes_eq, flat_map}
use Rattle.std.proofs.lemmas.Grind.{flat_map-append}
use Rattle.std.proofs.lemmas.List.Elements.{Contains-append_left, Contains-append_right}
use Rattle.std.proofs.lemmas.Slice.Eq.{bytes_eq-Decides}
use Rattle.std.specs.Map.{lookup}
use Rattle.wit_values.specs.facts.Lists.{HasDistinctKeys-nil, slice_get-append, slice_get-push, slice_get-set}
use Rattle.wit_digraph.specs.facts.MemberFacts.{Contains-here}
use Rattle.wit_data.specs.Each.{Each, SomeAt}
use Rattle.wit_data.specs.facts.EachFacts.{SomeAt-of}
use Rattle.wit_data.specs.facts.WorldKeyFacts.{key_is, same_key}
use Rattle.wit_data.specs.Entries.{IsExport, IsImport, ItemUsesOwn}
use Rattle.wit_data.specs.Ownership.{IsListed, IsNamedInterface, IsOwn, IsPlain, IsTypeOf, UsesOwn, entry_type, world_types}
use Rattle.wit_data.specs.Kind.{referred}
use Rattle.wit_data.specs.Uses.{alias_target, other_owner}
use Rattle.wit_data.specs.declared.function.Function.{Function}
use Rattle.wit_data.specs.declared.interface.Interface.{Interface}
use Rattle.wit_data.specs.declared.types.TypeDef.{TypeDef}
use Rattle.wit_data.specs.declared.types.TypeDefKind.{TypeDefKind}
use Rattle.wit_data.specs.declared.types.TypeOwner.{TypeOwner}
use Rattle.wit_data.specs.declared.world.World.{World}
use Rattle.wit_data.specs.declared.world.WorldInclude.{WorldInclude}
use Rattle.wit_data.specs.declared.world.WorldItem.{WorldItem}
use Rattle.wit_data.specs.declared.world.WorldKey.{WorldKey}
use Rattle.wit_data.specs.declared.types.TypeDefKind.TheVariants as kind
use Rattle.wit_data.specs.declared.types.TypeOwner.TheVariants as owner
use Rattle.wit_data.specs.declared.world.WorldItem.TheVariants as item
use Rattle.wit_data.specs.declared.world.WorldKey.TheVariants as key
use Rattle.wit_script_package.specs.Adding.{empty_interface, empty_world, type_with}
use Rattle.wit_script_package.specs.declared.draft.LineContext.{LineContext}
use Rattle.wit_script_package.proofs.Places.{Each-nil, EachAt-push, EachAt-set, append_other, at_old, distinct-push, if-some-at, set-moves, set_other, some-within}
use Rattle.wit_script_package.proofs.Things.{AreGood, Grows, IsGoodInterface, IsGoodType, IsGoodWorld, IsUse, ListsMore, MayName, Things, WorldListsMore, aliases-stay, all_interfaces-stay, all_types-stay, all_worlds-stay, good-earlier, good_interface-stays, good_world-stays, owns-stay, plain_alias, dep-is}
use Rattle.wit_data.specs.steps.Parts.{parts}

-- what the kind of a type with a name may be, whose owner is this
pub record IsNamedKind (s : Things) (by : TypeOwner) (k : TypeDefKind) : Type 0 where
  pub known : k ≢ kind.Unknown
  pub earlier : Each (λ id. id < length s.types) (referred k)
  pub alias : IfSome (alias_target k) (λ target. SomeAt s.types target (λ (named : TypeDef). IsSome named.name × ((named.owner ≡ by) ⊎ IsNamedInterface s.interfaces named.owner)))
  pub own : Each (IsOwn s.types by) (parts k)
  pub uses : (f target j : ℕ) (named : TypeDef) → by ≡ owner.Interface f → alias_target k ≡ Some target → slice_get s.types target ≡ Some named → other_owner by named.owner ≡ Some j → j < f

lists_more-same : (interface : Interface) → ListsMore interface interface
lists_more-same interface = (refl, λ e has. has)

world_lists_more-same : (world : World) → WorldListsMore world world
world_lists_more-same world e has = has

abbrev entries_type : WorldKey × WorldItem → List (List ℕ × ℕ)
entries_type e = entry_type e.0 e.1

module _ (foreign foreign_worlds unknown : ℕ) (s : Things) (good : AreGood foreign foreign_worlds unknown s) where
  -- ---- a type without a name

  module _ (k : TypeDefKind) (here : LineContext) where
    abbrev unnamed_def : TypeDef
    unnamed_def = type_with None k owner.None here

    abbrev pub with_unnamed : Things
    with_unnamed = record s { types = s.types ++ unnamed_def ∷ [] }

    pub grows-unnamed : Grows foreign foreign_worlds s with_unnamed
    grows-unnamed = record {
      types = slice_get-append s.types (unnamed_def ∷ []);
      interfaces = λ f interface at. (interface, at, lists_more-same interface);
      worlds = λ w world at. (world, at, world_lists_more-same world);
      foreign_same = λ f below. refl;
      foreign_worlds_same = λ w below. refl;
    }

    pub good-unnamed : IsPlain k → k ≢ kind.Unknown → Each (λ id. id < length s.types) (referred k) → AreGood foreign foreign_worlds unknown with_unnamed
    good-unnamed plain known earlier = record {
      types = EachAt-push (IsGoodType foreign unknown with_unnamed) s.types unnamed_def (all_types-stay foreign foreign_worlds s with_unnamed grows-unnamed (good-earlier foreign foreign_worlds unknown s good) unknown good.types) (record {
        listed = refl;
        earlier = earlier;
        aliases = rw (plain_alias k plain) tt;
        unnamed = λ none. plain;
        own = λ named. cc;
        unknown_first = (λ is. absurd (known is), λ below. absurd (omega (arith, below, good.first_types)));
        of_foreign = λ below. absurd (omega (arith, below, good.first_types));
        uses = λ f j owned dep. cc;
      });
      interfaces = all_interfaces-stay foreign foreign_worlds s with_unnamed grows-unnamed (good-earlier foreign foreign_worlds unknown s good) unknown good.interfaces;
      worlds = all_worlds-stay foreign foreign_worlds s with_unnamed grows-unnamed (good-earlier foreign foreign_worlds unknown s good) good.worlds;
      first_types = omega (arith, good.first_types, length-append s.types (unnamed_def ∷ []));
      first_interfaces = good.first_interfaces;
      first_worlds = good.first_worlds;
    }

  -- ---- a type with a name

  module _ (by : TypeOwner) (name : List ℕ) (k : TypeDefKind) (here : LineContext) (named : IsNamedKind s by k) (t : Things) (grows : Grows foreign foreign_worlds s t) where
    abbrev named_def : TypeDef
    named_def = type_with (Some name) k by here

    -- what holds of it once it is listed
    good-named : slice_get t.types (length s.types) ≡ Some named_def → ((target : ℕ) (d : TypeDef) → target < length s.types → slice_get t.types target ≡ Some d → slice_get s.types target ≡ Some d)
        → IsListed t.interfaces t.worlds (length s.types) (Some name) by → IsGoodType foreign unknown t (length s.types) named_def
    good-named last old listed = record {
      listed = listed;
      earlier = named.earlier;
      aliases = aliases-stay foreign foreign_worlds s t grows (good-earlier foreign foreign_worlds unknown s good) by (alias_target k) named.alias;
      unnamed = λ none. cc;
      own = λ some. owns-stay foreign foreign_worlds s t grows (good-earlier foreign foreign_worlds unknown s good) by (parts k) named.own;
      unknown_first = (λ is. absurd (named.known is), λ below. absurd (omega (arith, below, good.first_types)));
      of_foreign = λ below. absurd (omega (arith, below, good.first_types));
      uses = λ f j owned dep.
          let it : IsUse t.types named_def j = dep-is t.types (length s.types) named_def j last dep in
          let within = some-within (MayName foreign foreign_worlds s t grows (good-earlier foreign foreign_worlds unknown s good) by) s.types it.target (if-some-at (λ (target : ℕ). SomeAt s.types target (MayName foreign foreign_worlds s t grows (good-earlier foreign foreign_worlds unknown s good) by)) (alias_target k) it.target it.alias named.alias) in
          named.uses f it.target j it.named owned it.alias (old it.target it.named within it.there) it.uses;
    }

  -- ---- a type of an interface

  module _ (at : ℕ) (interface : Interface) (there : slice_get s.interfaces at ≡ Some interface) (own : foreign ≤ at) where
    module _ (name : List ℕ) (k : TypeDefKind) (here : LineContext) where
      abbrev interface_def : TypeDef
      interface_def = type_with (Some name) k (owner.Interface at) here

      abbrev with_listed : Interface
      with_listed = record interface { types = interface.types ++ (name, length s.types) ∷ [] }

      abbrev pub with_owned : Things
      with_owned = record { types = s.types ++ interface_def ∷ []; interfaces = slice_set s.interfaces at with_listed; worlds = s.worlds }

      pub grows-owned : Grows foreign foreign_worlds s with_owned
      grows-owned = record {
        types = slice_get-append s.types (interface_def ∷ []);
        interfaces = set-moves ListsMore lists_more-same s.interfaces at interface with_listed there (refl, Contains-append_left interface.types ((name, length s.types) ∷ []));
        worlds = λ w world found. (world, found, world_lists_more-same world);
        foreign_same = λ f below. set_other s.interfaces at f with_listed (omega (arith, below, own));
        foreign_worlds_same = λ w below. refl;
      }

      pub good-owned : lookup (bytes_eq name) interface.types ≡ None → IsNamedKind s (owner.Interface at) k → AreGood foreign foreign_worlds unknown with_owned
      good-owned none named =
          let earlier = good-earlier foreign foreign_worlds unknown s good in
          let before = good_interface-stays foreign foreign_worlds s with_owned grows-owned earlier unknown at interface (good.interfaces at interface there) in
          let new : slice_get with_owned.interfaces at ≡ Some with_listed = slice_get-set s.interfaces at interface with_listed there in
          let last : slice_get with_owned.types (length s.types) ≡ Some interface_def = slice_get-push s.types interface_def in
          record {
            types = EachAt-push (IsGoodType foreign unknown with_owned) s.types interface_def (all_types-stay foreign foreign_worlds s with_owned grows-owned earlier unknown good.types)
                (good-named (owner.Interface at) name k here named with_owned grows-owned last (at_old s.types (interface_def ∷ []))
                (SomeAt-of (λ (i : Interface). Contains i.types (name, length s.types)) with_owned.interfaces at with_listed new
                (Contains-append_right interface.types ((name, length s.types) ∷ []) (name, length s.types) (Contains-here (name, length s.types) []))));
            interfaces = EachAt-set (IsGoodInterface foreign unknown with_owned) s.interfaces at with_listed (all_interfaces-stay foreign foreign_worlds s with_owned grows-owned earlier unknown good.interfaces) (record {
              types_differ = distinct-push bytes_eq bytes_eq-Decides interface.types name (length s.types) before.types_differ none;
              functions_differ = before.functions_differ;
              unplaced = before.unplaced;
              named = before.named;
              own_types = EachAt-push (λ _ (e : List ℕ × ℕ). IsTypeOf with_owned.types (owner.Interface at) e.0 e.1) interface.types (name, length s.types) before.own_types
                  (SomeAt-of (λ (def : TypeDef). (def.name ≡ Some name) × (def.owner ≡ owner.Interface at)) with_owned.types (length s.types) interface_def last (refl, refl));
              functions = before.functions;
              own = before.own;
              alone = λ below. absurd (omega (arith, below, own));
            });
            worlds = all_worlds-stay foreign foreign_worlds s with_owned grows-owned earlier good.worlds;
            first_types = omega (arith, good.first_types, length-append s.types (interface_def ∷ []));
            first_interfaces = omega (arith, good.first_interfaces, length-set s.interfaces at with_listed);
            first_worlds = good.first_worlds;
          }

    -- ---- a function of an interface

    module _ (f : Function) where
      abbrev with_held : Interface
      with_held = record interface { functions = interface.functions ++ (f.name, f) ∷ [] }

      abbrev pub with_called : Things
      with_called = record s { interfaces = slice_set s.interfaces at with_held }

      pub grows-called : Grows foreign foreign_worlds s with_called
      grows-called = record {
        types = λ i def found. found;
        interfaces = set-moves ListsMore lists_more-same s.interfaces at interface with_held there (refl, λ e has. has);
        worlds = λ w world found. (world, found, world_lists_more-same world);
        foreign_same = λ i below. set_other s.interfaces at i with_held (omega (arith, below, own));
        foreign_worlds_same = λ w below. refl;
      }

      pub good-called : lookup (bytes_eq f.name) interface.functions ≡ None → UsesOwn s.types (owner.Interface at) f → AreGood foreign foreign_worlds unknown with_called
      good-called none uses =
          let earlier = good-earlier foreign foreign_worlds unknown s good in
          let before = good_interface-stays foreign foreign_worlds s with_called grows-called earlier unknown at interface (good.interfaces at interface there) in
          record {
            types = all_types-stay foreign foreign_worlds s with_called grows-called earlier unknown good.types;
            interfaces = EachAt-set (IsGoodInterface foreign unknown with_called) s.interfaces at with_held (all_interfaces-stay foreign foreign_worlds s with_called grows-called earlier unknown good.interfaces) (record {
              types_differ = before.types_differ;
              functions_differ = distinct-push bytes_eq bytes_eq-Decides interface.functions f.name f before.functions_differ none;
              unplaced = before.unplaced;
              named = before.named;
              own_types = before.own_types;
              functions = EachAt-push (λ _ (e : List ℕ × Function). e.1.name ≡ e.0) interface.functions (f.name, f) before.functions refl;
              own = EachAt-push (λ _ (e : List ℕ × Function). UsesOwn s.types (owner.Interface at) e.1) interface.functions (f.name, f) before.own uses;
              alone = before.alone;
            });
            worlds = all_worlds-stay foreign foreign_worlds s with_called grows-called earlier good.worlds;
            first_types = good.first_types;
            first_interfaces = omega (arith, good.first_interfaces, length-set s.interfaces at with_held);
            first_worlds = good.first_worlds;
          }

  -- ---- an interface, a world

  module _ (name : List ℕ) (here : LineContext) where
    abbrev pub with_begun : Things
    with_begun = record s { interfaces = s.interfaces ++ empty_interface name here ∷ [] }

    pub grows-begun : Grows foreign foreign_worlds s with_begun
    grows-begun = record {
      types = λ i def found. found;
      interfaces = λ f interface at. (interface, slice_get-append s.interfaces (empty_interface name here ∷ []) f interface at, lists_more-same interface);
      worlds = λ w world at. (world, at, world_lists_more-same world);
      foreign_same = λ f below. append_other s.interfaces (empty_interface name here ∷ []) f (omega (arith, below, good.first_interfaces));
      foreign_worlds_same = λ w below. refl;
    }

    pub good-begun : AreGood foreign foreign_worlds unknown with_begun
    good-begun =
        let earlier = good-earlier foreign foreign_worlds unknown s good in
        record {
          types = all_types-stay foreign foreign_worlds s with_begun grows-begun earlier unknown good.types;
          interfaces = EachAt-push (IsGoodInterface foreign unknown with_begun) s.interfaces (empty_interface name here) (all_interfaces-stay foreign foreign_worlds s with_begun grows-begun earlier unknown good.interfaces) (record {
            types_differ = HasDistinctKeys-nil;
            functions_differ = HasDistinctKeys-nil;
            unplaced = refl;
            named = refl;
            own_types = Each-nil (λ (e : List ℕ × ℕ). IsTypeOf s.types (owner.Interface (length s.interfaces)) e.0 e.1);
            functions = Each-nil (λ (e : List ℕ × Function). e.1.name ≡ e.0);
            own = Each-nil (λ (e : List ℕ × Function). UsesOwn s.types (owner.Interface (length s.interfaces)) e.1);
            alone = λ below. Each-nil (λ (e : List ℕ × ℕ). e.1 < unknown);
          });
          worlds = all_worlds-stay foreign foreign_worlds s with_begun grows-begun earlier good.worlds;
          first_types = good.first_types;
          first_interfaces = omega (arith, good.first_interfaces, length-append s.interfaces (empty_interface name here ∷ []));
          first_worlds = good.first_worlds;
        }

    abbrev pub with_opened : Things
    with_opened = record s { worlds = s.worlds ++ empty_world name here ∷ [] }

    pub grows-opened : Grows foreign foreign_worlds s with_opened
    grows-opened = record {
      types = λ i def found. found;
      interfaces = λ f interface at. (interface, at, lists_more-same interface);
      worlds = λ w world at. (world, slice_get-append s.worlds (empty_world name here ∷ []) w world at, world_lists_more-same world);
      foreign_same = λ f below. refl;
      foreign_worlds_same = λ w below. append_other s.worlds (empty_world name here ∷ []) w (omega (arith, below, good.first_worlds));
    }

    pub good-opened : AreGood foreign foreign_worlds unknown with_opened
    good-opened =
        let earlier = good-earlier foreign foreign_worlds unknown s good in
        record {
          types = all_types-stay foreign foreign_worlds s with_opened grows-opened earlier unknown good.types;
          interfaces = all_interfaces-stay foreign foreign_worlds s with_opened grows-opened earlier unknown good.interfaces;
          worlds = EachAt-push (IsGoodWorld with_opened) s.worlds (empty_world name here) (all_worlds-stay foreign foreign_worlds s with_opened grows-opened earlier good.worlds) (record {
            imports_differ = HasDistinctKeys-nil;
            exports_differ = HasDistinctKeys-nil;
            unplaced = refl;
            imports = Each-nil (λ (e : WorldKey × WorldItem). IsImport s.interfaces s.types (length s.worlds) e.0 e.1);
            exports = Each-nil (λ (e : WorldKey × WorldItem). IsExport s.interfaces e.0 e.1);
            imports_own = Each-nil (λ (e : WorldKey × WorldItem). ItemUsesOwn s.types (length s.worlds) e.1);
            exports_own = Each-nil (λ (e : WorldKey × WorldItem). ItemUsesOwn s.types (length s.worlds) e.1);
          });
          first_types = good.first_types;
          first_interfaces = good.first_interfaces;
          first_worlds = omega (arith, good.first_worlds, length-append s.worlds (empty_world name here ∷ []));
        }

  -- ---- entries and includes of a world

  module _ (w : ℕ) (world : World) (there : slice_get s.worlds w ≡ Some world) (own : foreign_worlds ≤ w) where
    -- a world that lists more types
    module _ (new : World) (more : WorldListsMore world new) where
      abbrev with_world_set : Things
      with_world_set = record s { worlds = slice_set s.worlds w new }

      grows-set : Grows foreign foreign_worlds s with_world_set
      grows-set = record {
        types = λ i def found. found;
        interfaces = λ f interface at. (interface, at, lists_more-same interface);
        worlds = set-moves WorldListsMore world_lists_more-same s.worlds w world new there more;
        foreign_same = λ f below. refl;
        foreign_worlds_same = λ v below. set_other s.worlds w v new (omega (arith, below, own));
      }

      good-set : (IsGoodWorld with_world_set w world → IsGoodWorld with_world_set w new) → AreGood foreign foreign_worlds unknown with_world_set
      good-set changes =
          let earlier = good-earlier foreign foreign_worlds unknown s good in
          let before = good_world-stays foreign foreign_worlds s with_world_set grows-set earlier w world (good.worlds w world there) in
          record {
            types = all_types-stay foreign foreign_worlds s with_world_set grows-set earlier unknown good.types;
            interfaces = all_interfaces-stay foreign foreign_worlds s with_world_set grows-set earlier unknown good.interfaces;
            worlds = EachAt-set (IsGoodWorld with_world_set) s.worlds w new (all_worlds-stay foreign foreign_worlds s with_world_set grows-set earlier good.worlds) (changes before);
            first_types = good.first_types;
            first_interfaces = good.first_interfaces;
            first_worlds = omega (arith, good.first_worlds, length-set s.worlds w new);
          }

    module _ (k : WorldKey) (e : WorldItem) where
      abbrev importing : World
      importing = record world { imports = world.imports ++ (k, e) ∷ [] }

      imports_more : WorldListsMore world importing
      imports_more x has =
          rw (flat_map-append entries_type world.imports ((k, e) ∷ [])) (Contains-append_left (world_types world) (flat_map entries_type ((k, e) ∷ [])) x has)

      abbrev pub with_imported : Things
      with_imported = record s { worlds = slice_set s.worlds w importing }

      pub grows-imported : Grows foreign foreign_worlds s with_imported
      grows-imported = grows-set importing imports_more

      pub good-imported : lookup (same_key k) world.imports ≡ None → IsImport s.interfaces s.types w k e → ItemUsesOwn s.types w e → AreGood foreign foreign_worlds unknown with_imported
      good-imported none allowed uses = good-set importing imports_more (λ before. record {
        imports_differ = distinct-push same_key key_is world.imports k e before.imports_differ none;
        exports_differ = before.exports_differ;
        unplaced = before.unplaced;
        imports = EachAt-push (λ _ (x : WorldKey × WorldItem). IsImport s.interfaces s.types w x.0 x.1) world.imports (k, e) before.imports allowed;
        exports = before.exports;
        imports_own = EachAt-push (λ _ (x : WorldKey × WorldItem). ItemUsesOwn s.types w x.1) world.imports (k, e) before.imports_own uses;
        exports_own = before.exports_own;
      })

      abbrev exporting : World
      exporting = record world { exports = world.exports ++ (k, e) ∷ [] }

      abbrev pub with_exported : Things
      with_exported = record s { worlds = slice_set s.worlds w exporting }

      pub grows-exported : Grows foreign foreign_worlds s with_exported
      grows-exported = grows-set exporting (λ x has. has)

      pub good-exported : lookup (same_key k) world.exports ≡ None → IsExport s.interfaces k e → ItemUsesOwn s.types w e → AreGood foreign foreign_worlds unknown with_exported
      good-exported none allowed uses = good-set exporting (λ x has. has) (λ before. record {
        imports_differ = before.imports_differ;
        exports_differ = distinct-push same_key key_is world.exports k e before.exports_differ none;
        unplaced = before.unplaced;
        imports = before.imports;
        exports = EachAt-push (λ _ (x : WorldKey × WorldItem). IsExport s.interfaces x.0 x.1) world.exports (k, e) before.exports allowed;
        imports_own = before.imports_own;
        exports_own = EachAt-push (λ _ (x : WorldKey × WorldItem). ItemUsesOwn s.types w x.1) world.exports (k, e) before.exports_own uses;
      })

    module _ (i : WorldInclude) where
      abbrev including : World
      including = record world { includes = world.includes ++ i ∷ [] }

      abbrev pub with_included : Things
      with_included = record s { worlds = slice_set s.worlds w including }

      pub grows-included : Grows foreign foreign_worlds s with_included
      grows-included = grows-set including (λ x has. has)

      pub good-included : AreGood foreign foreign_worlds unknown with_included
      good-included = good-set including (λ x has. has) (λ before. record {
        imports_differ = before.imports_differ;
        exports_differ = before.exports_differ;
        unplaced = before.unplaced;
        imports = before.imports;
        exports = before.exports;
        imports_own = before.imports_own;
        exports_own = before.exports_own;
      })

    -- ---- a type of a world

    module _ (name : List ℕ) (k : TypeDefKind) (here : LineContext) where
      abbrev world_def : TypeDef
      world_def = type_with (Some name) k (owner.World w) here

      abbrev typed : World
      typed = importing (key.Name name) (item.Type_ (length s.types) here.span)

      abbrev pub with_world_owned : Things
      with_world_owned = record { types = s.types ++ world_def ∷ []; interfaces = s.interfaces; worlds = slice_set s.worlds w typed }

      pub grows-world_owned : Grows foreign foreign_worlds s with_world_owned
      grows-world_owned = record {
        types = slice_get-append s.types (world_def ∷ []);
        interfaces = λ f interface at. (interface, at, lists_more-same interface);
        worlds = set-moves WorldListsMore world_lists_more-same s.worlds w world typed there (imports_more (key.Name name) (item.Type_ (length s.types) here.span));
        foreign_same = λ f below. refl;
        foreign_worlds_same = λ v below. set_other s.worlds w v typed (omega (arith, below, own));
      }

      lists_it : Contains (world_types typed) (name, length s.types)
      lists_it =
          rw (flat_map-append entries_type world.imports ((key.Name name, item.Type_ (length s.types) here.span) ∷ []))
          (Contains-append_right (world_types world) ((name, length s.types) ∷ []) (name, length s.types) (Contains-here (name, length s.types) []))

      pub good-world_owned : lookup (same_key (key.Name name)) world.imports ≡ None → IsNamedKind s (owner.World w) k → AreGood foreign foreign_worlds unknown with_world_owned
      good-world_owned none named =
          let earlier = good-earlier foreign foreign_worlds unknown s good in
          let before = good_world-stays foreign foreign_worlds s with_world_owned grows-world_owned earlier w world (good.worlds w world there) in
          let new : slice_get with_world_owned.worlds w ≡ Some typed = slice_get-set s.worlds w world typed there in
          let last : slice_get with_world_owned.types (length s.types) ≡ Some world_def = slice_get-push s.types world_def in
          record {
            types = EachAt-push (IsGoodType foreign unknown with_world_owned) s.types world_def (all_types-stay foreign foreign_worlds s with_world_owned grows-world_owned earlier unknown good.types)
                (good-named (owner.World w) name k here named with_world_owned grows-world_owned last (at_old s.types (world_def ∷ []))
                (SomeAt-of (λ (v : World). Contains (world_types v) (name, length s.types)) with_world_owned.worlds w typed new lists_it));
            interfaces = all_interfaces-stay foreign foreign_worlds s with_world_owned grows-world_owned earlier unknown good.interfaces;
            worlds = EachAt-set (IsGoodWorld with_world_owned) s.worlds w typed (all_worlds-stay foreign foreign_worlds s with_world_owned grows-world_owned earlier good.worlds) (record {
              imports_differ = distinct-push same_key key_is world.imports (key.Name name) (item.Type_ (length s.types) here.span) before.imports_differ none;
              exports_differ = before.exports_differ;
              unplaced = before.unplaced;
              imports = EachAt-push (λ _ (x : WorldKey × WorldItem). IsImport s.interfaces with_world_owned.types w x.0 x.1) world.imports (key.Name name, item.Type_ (length s.types) here.span) before.imports
                  (SomeAt-of (λ (def : TypeDef). (def.name ≡ Some name) × (def.owner ≡ owner.World w)) with_world_owned.types (length s.types) world_def last (refl, refl));
              exports = before.exports;
              imports_own = EachAt-push (λ _ (x : WorldKey × WorldItem). ItemUsesOwn with_world_owned.types w x.1) world.imports (key.Name name, item.Type_ (length s.types) here.span) before.imports_own tt;
              exports_own = before.exports_own;
            });
            first_types = omega (arith, good.first_types, length-append s.types (world_def ∷ []));
            first_interfaces = good.first_interfaces;
            first_worlds = omega (arith, good.first_worlds, length-set s.worlds w typed);
          }
