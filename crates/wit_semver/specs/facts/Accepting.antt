-- A merge of a valid graph against which no cause holds: no interface uses itself after it, and no world is in conflict.
use Rattle.std.proofs.Common.{◌≡◌, ◌∙◌, ◌⊎◌, inl, inr, ℕ, true, List, [], ◌∷◌, Option, None, Some, IfSome, IsSome, IsSomeAnd, option_and_then, option_map, get_or, length, slice_get, slice_set, refl, sym, ap, subst, arith, Contains}
use Rattle.std.specs.Option.{option_map_or}
use Rattle.std.proofs.lemmas.List.{length-map}
use Rattle.std.proofs.lemmas.List.Elements.{Contains-get_or}
use Rattle.wit_values.specs.facts.Lists.{slice_get-set}
use Rattle.wit_digraph.specs.Relation.{IsAcyclic, IsPath, direct}
use Rattle.wit_data.specs.Each.{Each, SomeAt}
use Rattle.wit_data.specs.Entries.{ExportsAreAllowed, ImportsAreAllowed, IsImport}
use Rattle.wit_data.specs.Ownership.{AliasesNamed, IsNamed, IsNamedInterface}
use Rattle.wit_data.specs.Uses.{alias_target, interface_uses, uses_of}
use Rattle.wit_data.specs.declared.interface.Interface.{Interface}
use Rattle.wit_names.specs.declared.package_name.PackageName.{PackageName}
use Rattle.wit_names.specs.declared.track.TrackRule.{TrackRule}
use Rattle.wit_data.specs.declared.types.TypeDef.{TypeDef}
use Rattle.wit_data.specs.declared.types.TypeOwner.{TypeOwner}
use Rattle.wit_data.specs.declared.world.World.{World}
use Rattle.wit_data.specs.declared.world.WorldItem.{WorldItem}
use Rattle.wit_data.specs.declared.world.WorldKey.{WorldKey}
use Rattle.wit_data.specs.declared.types.TypeOwner.TheVariants as owner
use Rattle.wit_data.specs.declared.world.WorldItem.TheVariants as item
use Rattle.wit_data.specs.declared.world.WorldKey.TheVariants as key
use Rattle.wit_elaboration.specs.facts.Filters.{Contains-filter}
use Rattle.wit_elaboration.specs.Elaborated.{Elaborated}
use Rattle.wit_elaboration.specs.laws.ElaborationLaws.{ConflictsAreRefused}
use Rattle.wit_elaboration.specs.Entries.{Entry}
use Rattle.wit_graph_data.specs.IdText.{id_text, interface_id_at, key_text}
use Rattle.wit_elaboration.specs.Imported.{HasTransitiveConflict}
use Rattle.wit_elaboration.specs.Sound.{HasSoundEntries}
use Rattle.wit_elaboration.specs.facts.SoundFacts.{lists_in_order, named_within}
use Rattle.wit_elaboration.specs.Valid.{IsValid}
use Rattle.wit_graph_data.specs.declared.cause.Cause.TheVariants as cause
use Rattle.wit_graph_data.specs.declared.error_kind.ResolveErrorKind.TheVariants.{InvalidTransitiveDependency, PackageCycle, Semantic}
use Rattle.wit_graph_data.specs.declared.graph.Graph.{Graph}
use Rattle.wit_graph_theory.specs.facts.EntryFacts.{key_entry}
use Rattle.wit_graph_theory.specs.facts.ListFacts.{at_map, contained_at, found_at, place_of, some_at}
use Rattle.wit_graph_theory.specs.facts.NamedUses.{used_is_named}
use Rattle.wit_transform.specs.facts.UnnamedOnceTransformed.{set_split}
use Rattle.wit_elaboration.specs.AllElaborated.{DependsOnItself, RefersToItself, UsesItself, all_elaborated, elaborated_world}
use Rattle.wit_graph_theory.specs.facts.OptionFacts.{some_same, some_there}
use Rattle.wit_semver.specs.SemverMerged.{semver_merged, types_with_new_targets, with_new_entries_at, SemverMerge, is_replaced, newest, IsComplete, SemverMergeIsAccepted, conflict_4, interface_cycle_22, package_cycle_6, type_cycle_23, type_missing_25}
use Rattle.wit_semver.specs.facts.Greatest.{newest_stays}
use Rattle.wit_semver.specs.facts.TypesAfter.{retargeted_from, retargeted_name, retargeted_owner, retargeted_type, type_after, type_into}
use Rattle.wit_graph_data.specs.steps.Parts.{interface_id_text}
use Rattle.wit_elaboration.specs.steps.Parts.{interface_cycle_text}
use Rattle.wit_semver.specs.steps.Parts.{listed_world, retargeted, new_target}

some_and : (P : ℕ → Type 0) (o : Option ℕ) → IsSomeAnd o P → (p : ℕ) × (o ≡ Some p)
some_and P None h = absurd h
some_and P (Some p) h = (p, refl)

if_some : (P Q : ℕ → Type 0) (o : Option ℕ) → ((t : ℕ) → P t → Q t) → IfSome o P → IfSome o Q
if_some P Q None weaker h = h
if_some P Q (Some t) weaker h = weaker t h

key_named : (interfaces : List Interface) (types : List TypeDef) (w : ℕ) (k : WorldKey) (held : WorldItem) (i : ℕ) → k ≡ key.Interface i → IsImport interfaces types w k held → IsNamed interfaces i
key_named interfaces types w (key.Name name) held i same is = cc
key_named interfaces types w (key.Interface f) (item.Interface id stability docs span external_id) i same is = let one : f ≡ i = cc in subst (IsNamed interfaces) one is.1
key_named interfaces types w (key.Interface f) (item.Function fn) i same is = absurd is
key_named interfaces types w (key.Interface f) (item.Type_ t span) i same is = absurd is

module _ (u : SemverMerge) (valid : IsValid u.graph) (w : ℕ) (there : slice_get u.graph.worlds w ≡ Some u.world) where
  abbrev types : List TypeDef
  types = u.graph.types

  abbrev interfaces : List Interface
  interfaces = u.graph.interfaces

  abbrev pub new_types : List TypeDef
  new_types = types_with_new_targets u

  abbrev pub new_uses : List (List ℕ)
  new_uses = uses_of new_types interfaces

  -- ---- what is told of a type by its name and its owner alone stays so

  pub stays_so : (P : Option (List ℕ) → TypeOwner → Type 0) (t : ℕ) → SomeAt types t (λ (def : TypeDef). P def.name def.owner) → SomeAt new_types t (λ (def : TypeDef). P def.name def.owner)
  stays_so P t h =
      let found = found_at (λ (def : TypeDef). P def.name def.owner) types t h in
      let target = new_target u t in
      some_at (λ (def : TypeDef). P def.name def.owner) new_types t (retargeted found.0 target) (type_into u t found.0 found.1)
      (subst (λ (o : TypeOwner). P (retargeted found.0 target).name o) (sym (retargeted_owner found.0 target)) (subst (λ (n : Option (List ℕ)). P n found.0.owner) (sym (retargeted_name found.0 target)) found.2))

  -- the newest has a name
  pub newest_named : (f : ℕ) → is_replaced u f ≡ true → IsNamed interfaces (newest u f)
  newest_named f replaced =
      let entry = key_entry u.world.imports (newest u f) (newest_stays u f replaced).is_imported in
      let place = place_of u.world.imports entry.0 entry.1 in
      key_named interfaces types w entry.0.0 entry.0.1 (newest u f) entry.2 (valid.well_formed.worlds.imports w u.world there place.0 entry.0 place.1)

  -- aliases name what they may
  pub new_aliases : Each (AliasesNamed new_types interfaces) new_types
  new_aliases t new at =
      let from = type_after u t new at in
      subst (AliasesNamed new_types interfaces) (sym from.2) (by from.0 from.1 (new_target u t) refl)
    where
      by : (def : TypeDef) → slice_get types t ≡ Some def → (o : Option ℕ) → new_target u t ≡ o → AliasesNamed new_types interfaces (retargeted def o)
      by def there_t None is =
          if_some (λ (s : ℕ). SomeAt types s (λ (x : TypeDef). IsSome x.name × ((x.owner ≡ def.owner) ⊎ IsNamedInterface interfaces x.owner)))
          (λ (s : ℕ). SomeAt new_types s (λ (x : TypeDef). IsSome x.name × ((x.owner ≡ def.owner) ⊎ IsNamedInterface interfaces x.owner))) (alias_target def.kind)
          (λ s h. stays_so (λ name by. IsSome name × ((by ≡ def.owner) ⊎ IsNamedInterface interfaces by)) s h) (valid.well_formed.references.aliases t def there_t)
      by def there_t (Some t') is =
          let now = retargeted_from u t t' is in
          let named = retargeted_type u valid t t' now in
          stays_so (λ name by. IsSome name × ((by ≡ def.owner) ⊎ IsNamedInterface interfaces by)) t'
          (weaken now.name (newest u now.f) named (newest_named now.f now.replaced))
        where
          weaken : (name : List ℕ) (n : ℕ) → SomeAt types t' (λ (x : TypeDef). (x.name ≡ Some name) × (x.owner ≡ owner.Interface n)) → IsNamed interfaces n → SomeAt types t' (λ (x : TypeDef). IsSome x.name × ((x.owner ≡ def.owner) ⊎ IsNamedInterface interfaces x.owner))
          weaken name n h named =
              let found = found_at (λ (x : TypeDef). (x.name ≡ Some name) × (x.owner ≡ owner.Interface n)) types t' h in
              some_at (λ (x : TypeDef). IsSome x.name × ((x.owner ≡ def.owner) ⊎ IsNamedInterface interfaces x.owner)) types t' found.0 found.1
              (subst IsSome (sym found.2.0) refl, inr (subst (IsNamedInterface interfaces) (sym found.2.1) named))

  -- ---- the lists of worlds are in order

  import_after : (v : ℕ) (k : WorldKey) (held : WorldItem) → IsImport interfaces types v k held → IsImport interfaces new_types v k held
  import_after v (key.Name name) (item.Type_ t span) is = stays_so (λ n by. (n ≡ Some name) × (by ≡ owner.World v)) t is
  import_after v (key.Name name) (item.Interface id stability docs span external_id) is = is
  import_after v (key.Name name) (item.Function f) is = is
  import_after v (key.Interface i) held is = is

  abbrev pub relisted_worlds : List World
  relisted_worlds = slice_set u.graph.worlds w (listed_world u)

  -- a world with its new entries is that of the place with fewer imports
  pub record Relisted (v : ℕ) (world : World) : Type 0 where
    pub before : World
    pub at : slice_get u.graph.worlds v ≡ Some before
    pub imports : (e : Entry) → Contains world.imports e → Contains before.imports e
    pub is : world ≡ record before { imports = world.imports }
    pub either : ((v ≡ w) × (world ≡ listed_world u)) ⊎ (world ≡ before)

  pub relisted_from : (v : ℕ) (world : World) → slice_get relisted_worlds v ≡ Some world → Relisted v world
  relisted_from v world at =
      elim (set_split u.graph.worlds w (listed_world u) v world at) [
        | inl here ↦ record {
          before = u.world;
          at = ap (slice_get u.graph.worlds) here.0 ∙ there;
          imports = λ e has. (Contains-filter (λ (e : Entry). _) u.world.imports e (subst (λ (x : World). Contains x.imports e) here.1 has)).0;
          is = subst (λ (x : World). x ≡ record u.world { imports = x.imports }) (sym here.1) refl;
          either = inl here;
        }
        | inr stays ↦ record { before = world; at = stays.1; imports = λ e has. has; is = refl; either = inr refl }
      ]

  pub new_imports : (v : ℕ) (world : World) → slice_get relisted_worlds v ≡ Some world → ImportsAreAllowed interfaces new_types v world
  new_imports v world at i e on =
      let from = relisted_from v world at in
      let place = place_of from.before.imports e (from.imports e (contained_at world.imports i e on)) in
      import_after v e.0 e.1 (valid.well_formed.worlds.imports v from.before from.at place.0 e place.1)

  pub new_exports : (v : ℕ) (world : World) → slice_get relisted_worlds v ≡ Some world → ExportsAreAllowed interfaces world
  new_exports v world at =
      let from = relisted_from v world at in
      subst (ExportsAreAllowed interfaces) (sym from.is) (valid.well_formed.worlds.exports v from.before from.at)

  pub in_order : (v : ℕ) (world : World) → slice_get relisted_worlds v ≡ Some world → HasSoundEntries new_types (length new_uses) world.imports world.exports
  in_order v world at = lists_in_order new_types interfaces new_aliases v world (new_imports v world at) (new_exports v world at)

  pub listed_there : slice_get relisted_worlds w ≡ Some (listed_world u)
  listed_there = slice_get-set u.graph.worlds w u.world (listed_world u) there

  -- an interface with a name has an id text
  pub id_of_named : (i : ℕ) → IsNamed interfaces i → (id : List ℕ) × (interface_id_at u.graph.packages interfaces i ≡ Some id)
  id_of_named i named =
      let found = found_at (λ (interface : Interface). IsSome interface.name) interfaces i named in
      let name = some_there found.0.name found.2 in
      let home = some_and _ found.0.package (valid.well_formed.tables.interfaces_listed i found.0 found.1) in
      (id_text u.graph.packages home.0 name.0, whole (slice_get interfaces i) found.0 found.1 name.0 home.0 name.1 home.1)
    where
      whole : (o : Option Interface) (interface : Interface) → o ≡ Some interface → (name : List ℕ) (p : ℕ) → interface.name ≡ Some name → interface.package ≡ Some p
          → option_and_then (interface_id_text u.graph.packages) o ≡ Some (id_text u.graph.packages p name)
      whole o interface at name p named of =
          ap (option_and_then (interface_id_text u.graph.packages)) at ∙ ap (option_and_then (λ (n : List ℕ). option_map (λ (q : ℕ). id_text u.graph.packages q n) interface.package)) named
          ∙ ap (option_map (λ (q : ℕ). id_text u.graph.packages q name)) of

  module _ (accepted : SemverMergeIsAccepted u.rule u.graph w) where
    pub complete : IsComplete u
    complete t message follows lacks = accepted (Semantic None message cause.UpgradeMismatch) (u.world, there, type_missing_25 t message follows lacks)

    no_interface_cycle : (message : List ℕ) → UsesItself (with_new_entries_at u w) message → ⊥
    no_interface_cycle message is = accepted (Semantic None message cause.InterfaceCycle) (u.world, there, interface_cycle_22 message complete is)

    pub no_package_cycle : (home : PackageName) → DependsOnItself (with_new_entries_at u w) home → ⊥
    no_package_cycle home is = accepted (PackageCycle None home) (u.world, there, package_cycle_6 home complete is)

    pub no_type_cycle : (message : List ℕ) → RefersToItself (with_new_entries_at u w) message → ⊥
    no_type_cycle message is = accepted (Semantic None message cause.TypeCycle) (u.world, there, type_cycle_23 message complete is)

    -- ---- no interface uses itself

    end_named : (i k : ℕ) (path : List ℕ) (j : ℕ) → IsPath new_uses i (k ∷ path) j → IsNamed interfaces j
    end_named i k [] j leads = subst (IsNamed interfaces) leads.1 (used_is_named new_types interfaces new_aliases i k leads.0)
    end_named i k (x ∷ path) j leads = end_named k x path j leads.1

    pub uses_acyclic : IsAcyclic new_uses
    uses_acyclic = record {
      in_range = λ i k d inside.
          let has = Contains-get_or (direct new_uses i) k d inside in
          let within = named_within interfaces (get_or (direct new_uses i) k d) (used_is_named new_types interfaces new_aliases i (get_or (direct new_uses i) k d) has) in
          omega (arith, within, length-map interfaces (interface_uses new_types));
      no_cycle = λ i k path leads.
          let id = id_of_named i (end_named i k path i leads) in
          no_interface_cycle (interface_cycle_text id.0) (record { i = i; j = k; on_cycle = record { is_used = leads.0; leads_back = (path, leads.1) }; id = id.0; id_is = id.1; message_is = refl });
    }

    -- ---- no world is in conflict

    module _ (refused : ConflictsAreRefused) where
      pub no_conflict : (v : ℕ) (world : World) → slice_get relisted_worlds v ≡ Some world → HasTransitiveConflict new_uses world.exports → ⊥
      no_conflict v world at conflict =
          let k = (refused new_types new_uses world.imports world.exports uses_acyclic (in_order v world at)).0 conflict in
          let name = key_text u.graph.packages interfaces k.0 in
          accepted (InvalidTransitiveDependency world.span name) (
            u.world,
            there,
            conflict_4 world.span name complete (record {
              interfaces = no_interface_cycle;
              types = no_type_cycle;
              world = world;
              there = contained_at relisted_worlds v world at;
              conflict = conflict;
              name_is = (k.0, k.1, refl);
              span_is = refl;
            }),
          )

      -- so each world is elaborated
      pub elaborates : (v : ℕ) (world : World) → slice_get relisted_worlds v ≡ Some world → Elaborated new_types new_uses world (elaborated_world (with_new_entries_at u w) world)
      elaborates v world at = record { no_conflict = no_conflict v world at; world_is = refl }

-- ---- the semver-merged graph

pub semver_merged_is : (rule : TrackRule) (g : Graph) (w : ℕ) (old : World) → slice_get g.worlds w ≡ Some old → semver_merged rule g w ≡ all_elaborated (with_new_entries_at (record { rule = rule; graph = g; world = old }) w)
semver_merged_is rule g w old there = ap (λ (o : Option World). all_elaborated (option_map_or (λ (world : World). with_new_entries_at (record { rule = rule; graph = g; world = world }) w) o g)) there

-- what the named world becomes
pub merged_is : (rule : TrackRule) (g : Graph) (w : ℕ) (old new : World) → (there : slice_get g.worlds w ≡ Some old) → slice_get (semver_merged rule g w).worlds w ≡ Some new
    → (let u : SemverMerge = record { rule = rule; graph = g; world = old } in new ≡ elaborated_world (with_new_entries_at u w) (listed_world u))
merged_is rule g w old new there is =
    let u : SemverMerge = record { rule = rule; graph = g; world = old } in
    let now = subst (λ (x : Graph). slice_get x.worlds w ≡ Some new) (semver_merged_is rule g w old there) is in
    let at = at_map (elaborated_world (with_new_entries_at u w)) (slice_set g.worlds w (listed_world u)) w (listed_world u) (slice_get-set g.worlds w old (listed_world u) there) in
    some_same new (elaborated_world (with_new_entries_at u w) (listed_world u)) (sym now ∙ at)
