-- Behind an include the partially linked graph still stands, and so do the copies of what is active of it.
use Rattle.std.proofs.Common.{◌≡◌, ◌∙◌, ◌⊎◌, inl, inr, ℕ, Bool, true, false, List, map, Option, None, Some, option_map, slice_get, refl, sym, ap, subst, Contains, IsSome, is_some, nat_eq, if◌then◌else◌}
use Rattle.std.proofs.lemmas.Bool.{cases_Bool, eq-eqb, eqb-true, false≢true}
use Rattle.std.proofs.lemmas.List.Elements.{Contains-append_left}
use Rattle.wit_digraph.specs.facts.MemberFacts.{Contains-flat_map, Contains-flat_map_cases}
use Rattle.wit_data.specs.Each.{SomeAt}
use Rattle.wit_data.specs.Entries.{Entry, IsExport, IsImport}
use Rattle.wit_sources.specs.Span.{moved_by}
use Rattle.wit_data.specs.Ownership.{IsNamed, entry_type, world_types}
use Rattle.wit_data.specs.declared.interface.Interface.{Interface}
use Rattle.wit_data.specs.declared.types.TypeDef.{TypeDef}
use Rattle.wit_data.specs.declared.types.TypeOwner.{TypeOwner}
use Rattle.wit_data.specs.declared.world.World.{World}
use Rattle.wit_data.specs.declared.world.WorldItem.{WorldItem}
use Rattle.wit_data.specs.declared.world.WorldKey.{WorldKey}
use Rattle.wit_data.specs.declared.types.TypeOwner.TheVariants as owner
use Rattle.wit_data.specs.declared.world.WorldItem.TheVariants as item
use Rattle.wit_data.specs.declared.world.WorldKey.TheVariants as key
use Rattle.std.specs.Option.{option_map_or}
use Rattle.std.specs.Map.{lookup}
use Rattle.wit_elaboration.specs.facts.Filters.{Contains-filter}
use Rattle.wit_elaboration.specs.Entries.{same_key}
use Rattle.wit_graph_data.specs.declared.graph.Graph.{Graph}
use Rattle.wit_graph_theory.specs.facts.CarriedImages.{image_stands}
use Rattle.wit_graph_theory.specs.Cut.{StaysIn}
use Rattle.wit_remap_spec.specs.Kept.{cut_interface, cut_world}
use Rattle.wit_remap_spec.specs.Image.{entry_image, interface_image, item_image, key_image, name_image, owner_image, type_image}
use Rattle.wit_graph_theory.specs.facts.ListFacts.{Contains-map, found_at, from_map, place_of, same_at, some_at}
use Rattle.wit_graph_theory.specs.Operations.{include_source}
use Rattle.wit_graph_theory.specs.steps.Sources.{Carries, InterfaceStands, Source, Stands, WorldStands}
use Rattle.wit_link_spec.specs.Include.{belongs_to, is_copied, owner_belongs_to, type_copy}
use Rattle.wit_remap_spec.specs.Joined.{joined_entry, joined_item}
use Rattle.wit_link_spec.specs.WorldReasons.{IsShadowed, renamed_key}
use Rattle.wit_link_spec.specs.facts.Copies.{copy_at, interface_copy_at, interface_stays, left_owner, left_refers, named_copied, named_left, old_interface_at, old_type_at, type_stays}
use Rattle.wit_link_spec.specs.facts.CopiedPart.{copied_part, has_name, is_mentioned, named_is}
use Rattle.wit_link_spec.specs.facts.IncludedWorld.{Including, IsIncluded, brought, is_other, joined_world, maps}
use Rattle.wit_link_spec.specs.facts.JoinedFacts.{JoinsList, label_comes}
use Rattle.wit_link_spec.specs.facts.ListedTypes.{ListsType, lists_type, type_listed}
use Rattle.wit_link_spec.specs.facts.Mentioned.{owned_is}
use Rattle.wit_link_spec.specs.facts.PartiallyLinked.{IsSoundSoFar}
use Rattle.wit_link_spec.specs.facts.Truth.{or_cases}
use Rattle.wit_link_spec.specs.steps.Parts.{interface_copy}

-- nothing is shadowed
pub record IsUnshadowed (g : Graph) (i : Including g) : Type 0 where
  pub imports : (n : List ℕ)
      → IsShadowed i.host.imports (map (λ (e : Entry). renamed_key i.names e.0) i.old.imports) n → ⊥
  pub exports : (n : List ℕ)
      → IsShadowed i.host.exports (map (λ (e : Entry). renamed_key i.names e.0) i.old.exports) n → ⊥

-- a type that is there stays as it is where a list is joined
joined_type : (other : Bool) (brought : List Entry) (e : Entry) (name : List ℕ) (t : ℕ) → ListsType e name t → joined_entry other brought e ≡ e
joined_type other brought e name t is = λ j. (e.0, stays (lookup (same_key e.0) brought) j)
  where
    one : (from : WorldItem) → joined_item other from e.1 ≡ e.1
    one from = subst (λ (held : WorldItem). joined_item other from held ≡ held) (sym is.held_is) (by from)
      where
        by : (from : WorldItem) → joined_item other from (item.Type_ t is.span) ≡ item.Type_ t is.span
        by (item.Interface i stability docs span external_id) = refl
        by (item.Function f) = refl
        by (item.Type_ u span) = refl

    stays : (o : Option WorldItem) → option_map_or (λ (from : WorldItem). joined_item other from e.1) o e.1 ≡ e.1
    stays None = refl
    stays (Some from) = one from

module _ (g : Graph) (stands : IsSoundSoFar g) (i : Including g) where
  -- the world that is included goes to the one that includes it
  pub world_goes_into : (maps g i).worlds i.from ≡ i.into
  world_goes_into = by (nat_eq i.from i.from) (eq-eqb i.from i.from refl)
    where
      by : (b : Bool) → b ≡ true → (if b then i.into else i.from) ≡ i.into
      by true h = refl
      by false h = cc

  -- the lists that are joined
  import_named : (w : ℕ) (world : World) → slice_get g.worlds w ≡ Some world → (e : Entry) (f : ℕ) → Contains world.imports e → e.0 ≡ key.Interface f → IsNamed g.interfaces f
  import_named w world at e f has is =
      let place = place_of world.imports e has in
      let good = ((stands.items.worlds w world at).imports place.0 e place.1).is in
      key_named e.1 (subst (λ (k : WorldKey). IsImport g.interfaces g.types w k e.1) is good)
    where
      key_named : (held : WorldItem) → IsImport g.interfaces g.types w (key.Interface f) held → IsNamed g.interfaces f
      key_named (item.Interface j stability docs span external_id) is = is.1
      key_named (item.Function fn) is = absurd is
      key_named (item.Type_ t span) is = absurd is

  export_named : (w : ℕ) (world : World) → slice_get g.worlds w ≡ Some world → (e : Entry) (f : ℕ) → Contains world.exports e → e.0 ≡ key.Interface f → IsNamed g.interfaces f
  export_named w world at e f has is =
      let place = place_of world.exports e has in
      let good = ((stands.items.worlds w world at).exports place.0 e place.1).is in
      key_named e.1 (subst (λ (k : WorldKey). IsExport g.interfaces k e.1) is good)
    where
      key_named : (held : WorldItem) → IsExport g.interfaces (key.Interface f) held → IsNamed g.interfaces f
      key_named (item.Interface j stability docs span external_id) is = is.1
      key_named (item.Function fn) is = absurd is
      key_named (item.Type_ t span) is = absurd is

  pub joins_imports : IsUnshadowed g i → JoinsList g i i.host.imports i.old.imports
  joins_imports free = record {
    distinct_current = (stands.items.worlds i.into i.host i.host_at).distinct_imports;
    distinct_entries = (stands.items.worlds i.from i.old i.old_at).distinct_imports;
    named = import_named i.from i.old i.old_at;
    unshadowed = free.imports;
  }

  pub joins_exports : IsUnshadowed g i → JoinsList g i i.host.exports i.old.exports
  joins_exports free = record {
    distinct_current = (stands.items.worlds i.into i.host i.host_at).distinct_exports;
    distinct_entries = (stands.items.worlds i.from i.old i.old_at).distinct_exports;
    named = export_named i.from i.old i.old_at;
    unshadowed = free.exports;
  }

  -- the graph as a source of copies
  abbrev pub copy_source : Source
  copy_source = include_source (copied_part g i.from i.old) g (maps g i)

  module _ (new : Graph) (are : IsIncluded g i new) where
    -- the graph stays
    pub graph_stays : StaysIn g new
    graph_stays = record {
      types = λ t def at. some_at (λ (there : TypeDef). (there.name ≡ def.name) × (there.owner ≡ def.owner) × ((def.name ≡ None) → there.kind ≡ def.kind)) new.types t def (old_type_at g stands i new are t def at) (refl, refl, λ none. refl);
      interfaces = λ f interface at.
          some_at (λ (there : Interface). (there.name ≡ interface.name) × (there.package ≡ interface.package) × ((e : List ℕ × ℕ) → Contains interface.types e → Contains there.types e)) new.interfaces f interface
          (old_interface_at g stands i new are f interface at) (refl, refl, λ e has. has);
      worlds = world_stays;
    }
      where
        host_types : (e : List ℕ × ℕ) → Contains (world_types i.host) e → Contains (world_types (joined_world g i)) e
        host_types e has =
            let d = Contains-flat_map_cases (λ (d : Entry). entry_type d.0 d.1) i.host.imports e has in
            let lists = lists_type d.0 e.0 e.1 d.1.1 in
            let news = brought g i i.old.imports in
            let among : Contains (map (joined_entry (is_other g i) news) i.host.imports) d.0 =
            subst (Contains (map (joined_entry (is_other g i) news) i.host.imports)) (joined_type (is_other g i) news d.0 e.0 e.1 lists) (Contains-map (joined_entry (is_other g i) news) i.host.imports d.0 d.1.0) in
            Contains-flat_map (λ (d : Entry). entry_type d.0 d.1) (joined_world g i).imports d.0 e (Contains-append_left (map (joined_entry (is_other g i) news) i.host.imports) _ d.0 among) d.1.1

        Stays : World → World → Type 0
        Stays world there = (there.package ≡ world.package) × ((e : List ℕ × ℕ) → Contains (world_types world) e → Contains (world_types there) e)

        world_stays : (w : ℕ) (world : World) → slice_get g.worlds w ≡ Some world → SomeAt new.worlds w (λ (there : World). (there.package ≡ world.package) × ((e : List ℕ × ℕ) → Contains (world_types world) e → Contains (world_types there) e))
        world_stays w world at = elim (cases_Bool (nat_eq w i.into)) [
          | inl same ↦
              let place = eqb-true w i.into same in
              let is : world ≡ i.host = same_at g.worlds w i.into world i.host place at i.host_at in
              subst (λ (x : World). SomeAt new.worlds w (Stays x)) (sym is)
              (subst (λ (v : ℕ). SomeAt new.worlds v (Stays i.host)) (sym place) (some_at (Stays i.host) new.worlds i.into (joined_world g i) are.joined_at (refl, host_types)))
          | inr other ↦
              let apart : w ≡ i.into → ⊥ = (λ same. absurd (false≢true (sym other ∙ eq-eqb w i.into same))) in
              some_at (Stays world) new.worlds w world (are.others w apart ∙ at) (refl, λ e has. has)
        ]

    -- ---- what is copied stands

    same_owner : (o : TypeOwner) → (o ≡ owner.None) ⊎ ((f : ℕ) × (o ≡ owner.Interface f) × IsNamed g.interfaces f) → (owner_image (maps g i) o ≡ o) × ((name : Option (List ℕ)) → option_map (name_image (maps g i) o) name ≡ name)
    same_owner (owner.World w) (inl none) = cc
    same_owner (owner.World w) (inr is) = let never = is.1 in cc
    same_owner owner.None is = (refl, same_name)
      where
        same_name : (name : Option (List ℕ)) → option_map (name_image (maps g i) owner.None) name ≡ name
        same_name None = refl
        same_name (Some n) = refl
    same_owner (owner.Interface f) (inl none) = cc
    same_owner (owner.Interface f) (inr is) = (ap owner.Interface (interface_stays g stands i f (named_left g stands i f named)), same_name)
      where
        named : IsNamed g.interfaces f
        named = let same : is.0 ≡ f = inside is.0 f (sym is.1) in subst (IsNamed g.interfaces) same is.2
          where
            inside : (a b : ℕ) → owner.Interface a ≡ owner.Interface b → a ≡ b
            inside a b h = cc

        same_name : (name : Option (List ℕ)) → option_map (name_image (maps g i) (owner.Interface f)) name ≡ name
        same_name None = refl
        same_name (Some n) = refl

    left_stands : (t : ℕ) (def : TypeDef) → slice_get g.types t ≡ Some def → is_mentioned g i.old t ≡ true → is_copied g i.from i.old t ≡ false → Stands (maps g i) def def
    left_stands t def at has left =
        let same = same_owner def.owner (left_owner g stands i t def at has left) in
        record {
          name = sym (same.1 def.name);
          owner = sym same.0;
          through = λ none u refers. (u, refers, inl (sym (type_stays g stands i u (left_refers g stands i t u def at has none left refers))));
        }

    types_stand : (t : ℕ) (def : TypeDef) → slice_get g.types t ≡ Some def → is_mentioned g i.old t ≡ true → SomeAt new.types (type_copy g i.from i.old t) (Stands (maps g i) def)
    types_stand t def at has = elim (cases_Bool (is_copied g i.from i.old t)) [
      | inl copied ↦ some_at (Stands (maps g i) def) new.types (type_copy g i.from i.old t) (type_image (maps g i) def) (copy_at g stands i new are t def at copied) (image_stands (maps g i) def)
      | inr left ↦
          subst (λ (u : ℕ). SomeAt new.types u (Stands (maps g i) def)) (sym (type_stays g stands i t left))
          (some_at (Stands (maps g i) def) new.types t def (old_type_at g stands i new are t def at) (left_stands t def at has left))
    ]

    -- a type that an interface with a name lists isn't copied
    named_keeps : (f : ℕ) (interface : Interface) (name : List ℕ) (t : ℕ) → slice_get g.interfaces f ≡ Some interface → IsNamed g.interfaces f → Contains interface.types (name, t) → is_copied g i.from i.old t ≡ false
    named_keeps f interface name t at named has = elim (cases_Bool (is_copied g i.from i.old t)) [
      | inr left ↦ left
      | inl copied ↦
          let place = place_of interface.types (name, t) has in
          let own = found_at (λ (def : TypeDef). (def.name ≡ Some name) × (def.owner ≡ owner.Interface f)) g.types t ((stands.items.interfaces f interface at).own_types place.0 (name, t) place.1) in
          let goes = named_copied g stands i t own.0 own.1 (ap is_some own.2.0) copied in
          absurd (false≢true (sym (named_left g stands i f named) ∙ ap (owner_belongs_to g i.from i.old) (sym own.2.1) ∙ sym (owned_is g stands i.from i.old t own.0 own.1) ∙ goes))
    ]

    interfaces_stand : (f : ℕ) (interface : Interface) → slice_get copy_source.graph.interfaces f ≡ Some interface → copy_source.interfaces f ≡ true → SomeAt new.interfaces (interface_copy g i.old f) (InterfaceStands copy_source interface)
    interfaces_stand f interface at takes =
        let kept = copied_part g i.from i.old in
        let whole = from_map (cut_interface kept) g.interfaces f interface at in
        subst (λ (x : Interface). SomeAt new.interfaces (interface_copy g i.old f) (InterfaceStands copy_source x)) whole.2
        (elim (or_cases (belongs_to g i.old f) (has_name g.interfaces f) takes) [
          | inl goes ↦
              some_at (InterfaceStands copy_source (cut_interface kept whole.0)) new.interfaces (interface_copy g i.old f) (interface_image (maps g i) whole.0) (interface_copy_at g stands i new are f whole.0 whole.1 goes) (record {
                name = refl;
                types = λ name t has taken. Contains-map (λ (e : List ℕ × ℕ). let r : List ℕ × ℕ = (e.0, type_copy g i.from i.old e.1) in r) whole.0.types (name, t) (Contains-filter (λ (e : List ℕ × ℕ). kept.types e.1) whole.0.types (name, t) has).0;
                home = λ none. refl;
              })
          | inr named ↦
              let is = named_is g.interfaces f named in
              subst (λ (u : ℕ). SomeAt new.interfaces u (InterfaceStands copy_source (cut_interface kept whole.0))) (sym (interface_stays g stands i f (named_left g stands i f is)))
              (some_at (InterfaceStands copy_source (cut_interface kept whole.0)) new.interfaces f whole.0 (old_interface_at g stands i new are f whole.0 whole.1) (record {
                name = refl;
                types = λ name t has taken.
                    let listed = (Contains-filter (λ (e : List ℕ × ℕ). kept.types e.1) whole.0.types (name, t) has).0 in
                    subst (λ (u : ℕ). Contains whole.0.types (name, u)) (sym (type_stays g stands i t (named_keeps f whole.0 name t whole.1 is listed))) listed;
                home = λ none. absurd (nameless f whole.0 whole.1 is none);
              }))
        ])
      where
        nameless : (f : ℕ) (x : Interface) → slice_get g.interfaces f ≡ Some x → IsNamed g.interfaces f → x.name ≡ None → ⊥
        nameless f x at named none =
            let found = found_at (λ (interface : Interface). IsSome interface.name) g.interfaces f named in
            let same = same_at g.interfaces f f found.0 x refl found.1 at in
            let some : is_some x.name ≡ true = subst (λ (y : Interface). IsSome y.name) same found.2 in
            absurd (false≢true (sym (ap is_some none) ∙ some))

    module _ (free : IsUnshadowed g i) where
      worlds_stand : (w : ℕ) (world : World) → slice_get copy_source.graph.worlds w ≡ Some world → copy_source.worlds w ≡ true → SomeAt new.worlds ((maps g i).worlds w) (WorldStands copy_source w world)
      worlds_stand w world at takes =
          let kept = copied_part g i.from i.old in
          let whole = from_map (cut_world kept) g.worlds w world at in
          let place : w ≡ i.from = eqb-true w i.from takes in
          let same : whole.0 ≡ i.old = same_at g.worlds w i.from whole.0 i.old place whole.1 i.old_at in
          subst (λ (x : World). SomeAt new.worlds ((maps g i).worlds w) (WorldStands copy_source w x)) (ap (cut_world kept) (sym same) ∙ whole.2)
          (subst (λ (v : ℕ). SomeAt new.worlds ((maps g i).worlds v) (WorldStands copy_source v (cut_world kept i.old))) (sym place) included_stands)
        where
          included_stands : SomeAt new.worlds ((maps g i).worlds i.from) (WorldStands copy_source i.from (cut_world (copied_part g i.from i.old) i.old))
          included_stands =
              let kept = copied_part g i.from i.old in
              subst (λ (v : ℕ). SomeAt new.worlds v (WorldStands copy_source i.from (cut_world kept i.old))) (sym world_goes_into)
              (some_at (WorldStands copy_source i.from (cut_world kept i.old)) new.worlds i.into (joined_world g i) are.joined_at (record {
                types = λ name t has taken.
                    let d = Contains-flat_map_cases (λ (d : Entry). entry_type d.0 d.1) (cut_world kept i.old).imports (name, t) has in
                    let listed = (Contains-filter (λ (e : Entry). kept.items e.1) i.old.imports d.0 d.1.0).0 in
                    let lists = lists_type d.0 name t d.1.1 in
                    let image = entry_image (maps g i) i.from d.0 in
                    let keyed : image.0 ≡ key.Name ((maps g i).labels i.from name) = ap (key_image (maps g i) i.from) lists.key_is in
                    let among = label_comes g stands i i.host.imports i.old.imports (joins_imports free) (is_other g i) d.0 ((maps g i).labels i.from name) listed keyed in
                    let holds : image.1 ≡ item.Type_ (type_copy g i.from i.old t) (moved_by 0 lists.span) = ap (item_image (maps g i) i.from) lists.held_is in
                    Contains-flat_map (λ (d : Entry). entry_type d.0 d.1) (joined_world g i).imports image ((maps g i).labels i.from name, type_copy g i.from i.old t) among
                    (type_listed image ((maps g i).labels i.from name) (type_copy g i.from i.old t) (record { span = moved_by 0 lists.span; key_is = keyed; held_is = holds }));
                home = i.host_home;
              }))

      -- what is active stands under the maps of the copies
      pub copies_stand : Carries copy_source new
      copies_stand = record {
        types = λ t def at takes. types_stand t def at takes;
        values = λ t def at takes. inl refl;
        interfaces = interfaces_stand;
        worlds = worlds_stand;
      }
