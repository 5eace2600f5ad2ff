-- A semver-merged graph is valid.
use Rattle.std.proofs.Common.{◌≡◌, ◌∙◌, inl, inr, ℕ, List, Option, None, Some, IsSomeAnd, get_or, slice_get, refl, sym, ap, subst, Contains, ◌∷◌}
use Rattle.wit_values.specs.facts.Lists.{kept-cases}
use Rattle.wit_data.specs.Each.{SomeAt}
use Rattle.wit_data.specs.Ownership.{IsListed, world_types}
use Rattle.wit_data.specs.Kind.{type_references}
use Rattle.wit_data.specs.Uses.{uses_of}
use Rattle.wit_digraph.specs.Relation.{IsAcyclic, direct}
use Rattle.std.proofs.lemmas.List.Elements.{Contains-get_or}
use Rattle.wit_graph_theory.specs.facts.RowFacts.{Reaches-join}
use Rattle.wit_names.specs.declared.track.TrackRule.{TrackRule}
use Rattle.wit_data.specs.declared.types.TypeDef.{TypeDef}
use Rattle.wit_data.specs.declared.types.TypeOwner.{TypeOwner}
use Rattle.wit_data.specs.declared.world.World.{World}
use Rattle.wit_data.specs.declared.types.TypeOwner.TheVariants as owner
use Rattle.wit_elaboration.specs.Elaborated.{Elaborated}
use Rattle.wit_elaboration.specs.Valid.{IsValid, IsWorldInTable, IsWorldOf}
use Rattle.wit_graph_data.specs.declared.graph.Graph.{Graph}
use Rattle.wit_graph_data.specs.declared.graph.Package.{Package}
use Rattle.wit_graph_theory.specs.facts.Good.{HasGoodThings, IsGoodAsAWhole, IsGoodWorld}
use Rattle.wit_graph_theory.specs.facts.GoodIsValid.{IsValid-from_good, good_things}
use Rattle.wit_graph_theory.specs.facts.ListFacts.{at_map, found_at, same_at, some_at}
use Rattle.wit_graph_theory.specs.facts.UnnamedOnceFacts.{StandOnce-from_entries}
use Rattle.wit_graph_theory.specs.facts.PackageCycleFacts.{acyclic_packages, packages_stay_acyclic}
use Rattle.wit_elaboration.specs.AllElaborated.{elaborated_world}
use Rattle.wit_graph_theory.specs.facts.LawsOfElaboration.{LawsOfElaboration}
use Rattle.wit_semver.specs.SemverMerged.{semver_merged, with_new_entries_at, SemverMerge, SemverMergeIsAccepted}
use Rattle.wit_semver.specs.facts.Accepting.{complete, elaborates, listed_there, new_aliases, new_exports, new_imports, no_package_cycle, no_type_cycle, relisted_worlds, semver_merged_is, uses_acyclic}
use Rattle.wit_semver.proofs.ListedUses.{listed_lists_uses}
use Rattle.wit_semver.specs.facts.TypesAfter.{retargeted_name, retargeted_owner, type_after}
use Rattle.wit_semver.specs.facts.TypesGood.{interface_after, known_after, on_the_way, refers_in_range, refers_to_own, unnamed_plain}
use Rattle.wit_semver.proofs.WorldsGood.{done, done_is_canonical, done_is_good, from, new, one_place_new, same_name, same_package, types_stay, with_new_entries, world_from}
use Rattle.wit_elaboration.specs.steps.Parts.{graph_package_uses, type_cycle_text}
use Rattle.wit_semver.specs.steps.Parts.{listed_world, new_target}

module _ (laws : LawsOfElaboration) (u : SemverMerge) (valid : IsValid u.graph) (w : ℕ) (there : slice_get u.graph.worlds w ≡ Some u.world) (accepted : SemverMergeIsAccepted u.rule u.graph w) where
  abbrev g : Graph
  g = u.graph

  abbrev pub made : Graph
  made = new laws u valid w there accepted

  things : HasGoodThings g
  things = good_things g valid

  -- an old world, with its new entries
  record Becomes (v : ℕ) (old : World) : Type 0 where
    listed : World
    at : slice_get (relisted_worlds u valid w there) v ≡ Some listed
    before : (from laws u valid w there accepted v listed at).before ≡ old

  becomes : (v : ℕ) (old : World) → slice_get g.worlds v ≡ Some old → Becomes v old
  becomes v old here =
      elim (kept-cases g.worlds w (listed_world u) v old here) [
        | inl same ↦
            let at : slice_get (relisted_worlds u valid w there) v ≡ Some (listed_world u) = ap (slice_get (relisted_worlds u valid w there)) same ∙ listed_there u valid w there in
            let came = from laws u valid w there accepted v (listed_world u) at in
            record { listed = listed_world u; at = at; before = same_at g.worlds v v came.before old refl came.at here }
        | inr stays ↦
            let came = from laws u valid w there accepted v old stays in
            record { listed = old; at = stays; before = same_at g.worlds v v came.before old refl came.at here }
      ]

  -- what holds of a world holds of the new one, if it does of each that is elaborated from it
  world_stays : (P Q : World → Type 0) (v : ℕ) → ((listed : World) (at : slice_get (relisted_worlds u valid w there) v ≡ Some listed) → P (from laws u valid w there accepted v listed at).before → Q (done laws u valid w there accepted v listed at))
      → SomeAt g.worlds v P → SomeAt made.worlds v Q
  world_stays P Q v over h =
      let found = found_at P g.worlds v h in
      let it = becomes v found.0 found.1 in
      some_at Q made.worlds v (done laws u valid w there accepted v it.listed it.at) (at_map (elaborated_world (with_new_entries laws u valid w there accepted)) (relisted_worlds u valid w there) v it.listed it.at)
      (over it.listed it.at (subst P (sym it.before) found.2))

  listed_stays : (t : ℕ) (name : Option (List ℕ)) (by : TypeOwner) → IsListed g.interfaces g.worlds t name by → IsListed g.interfaces made.worlds t name by
  listed_stays t name owner.None h = h
  listed_stays t None (owner.Interface f) h = h
  listed_stays t (Some name) (owner.Interface f) h = h
  listed_stays t None (owner.World v) h = h
  listed_stays t (Some name) (owner.World v) h =
      world_stays (λ (world : World). Contains (world_types world) (name, t)) (λ (world : World). Contains (world_types world) (name, t)) v (λ listed at has. types_stay laws u valid w there accepted v listed at (name, t) has) h

  type_listed : (t : ℕ) (def : TypeDef) → slice_get made.types t ≡ Some def → IsListed g.interfaces made.worlds t def.name def.owner
  type_listed t def at =
      let old = type_after u t def at in
      let name : def.name ≡ old.0.name = ap (λ (d : TypeDef). d.name) old.2 ∙ retargeted_name old.0 (new_target u t) in
      let by : def.owner ≡ old.0.owner = ap (λ (d : TypeDef). d.owner) old.2 ∙ retargeted_owner old.0 (new_target u t) in
      subst (λ (o : TypeOwner). IsListed g.interfaces made.worlds t def.name o) (sym by)
      (subst (λ (n : Option (List ℕ)). IsListed g.interfaces made.worlds t n old.0.owner) (sym name) (listed_stays t old.0.name old.0.owner (things.types t old.0 old.1).listed))

  world_of : (q : ℕ) (name : List ℕ) (v : ℕ) → IsWorldOf g.worlds q name v → IsWorldOf made.worlds q name v
  world_of q name v h =
      world_stays (λ (world : World). (world.name ≡ name) × (world.package ≡ Some q)) (λ (world : World). (world.name ≡ name) × (world.package ≡ Some q)) v
      (λ listed at is. (same_name laws u valid w there accepted v listed at ∙ is.0, same_package laws u valid w there accepted v listed at ∙ is.1)) h

  in_table : (v : ℕ) (a b : World) → b.name ≡ a.name → b.package ≡ a.package → IsWorldInTable g.packages v a → IsWorldInTable g.packages v b
  in_table v a b names homes h =
      subst (λ (o : Option ℕ). IsSomeAnd o (λ p. SomeAt g.packages p (λ (home : Package). Contains home.worlds (b.name, v)))) (sym homes)
      (subst (λ (n : List ℕ). IsSomeAnd a.package (λ p. SomeAt g.packages p (λ (home : Package). Contains home.worlds (n, v)))) (sym names) h)

  good_made : HasGoodThings made
  good_made = record {
    types = λ t def at. record {
      listed = type_listed t def at;
      alias = new_aliases u valid w there t def at;
      unnamed = unnamed_plain u valid w there t def at;
      own = refers_to_own u valid w there t def at;
    };
    known = λ t def at. known_after u valid w there t def at;
    interfaces = λ f interface at. interface_after u valid w there f interface at;
    worlds = λ v world at.
        let it = world_from laws u valid w there accepted v world at in
        subst (IsGoodWorld made.types made.interfaces v) it.is (done_is_good laws u valid w there accepted v it.listed it.at);
    packages = λ p home at.
        let good = things.packages p home at in
        record {
          interfaces_are = good.interfaces_are;
          worlds_are = λ i e on. world_of p e.0 e.1 (good.worlds_are i e on);
          distinct_interfaces = good.distinct_interfaces;
          distinct_worlds = good.distinct_worlds;
          namespace = good.namespace;
          name = good.name;
          version = good.version;
        };
    interfaces_in_tables = things.interfaces_in_tables;
    worlds_in_tables = λ v world at.
        let it = world_from laws u valid w there accepted v world at in
        let came = from laws u valid w there accepted v it.listed it.at in
        subst (IsWorldInTable g.packages v) it.is
        (in_table v came.before (done laws u valid w there accepted v it.listed it.at) (same_name laws u valid w there accepted v it.listed it.at) (same_package laws u valid w there accepted v it.listed it.at)
        (things.worlds_in_tables v came.before came.at));
  }

  -- ---- no type refers to itself

  types_acyclic : IsAcyclic (type_references made.types)
  types_acyclic = record {
    in_range = λ i k d inside. refers_in_range u valid w there i (get_or (direct (type_references made.types) i) k d) (Contains-get_or (direct (type_references made.types) i) k d inside);
    no_cycle = λ i k path leads. elim (on_the_way u valid w there i (k ∷ path) i leads) [
      | inl old ↦ valid.no_cycles.types.no_cycle i k path old
      | inr n ↦
          no_type_cycle u valid w there accepted (type_cycle_text n.name) (record {
            t = n.m;
            u = n.next;
            on_cycle = record { is_used = n.edge; leads_back = Reaches-join (type_references made.types) n.next i n.m n.rest n.to };
            def = n.def;
            is = n.at;
            name = n.name;
            name_is = n.named;
            message_is = refl;
          })
    ];
  }

  -- ---- no package depends on itself

  -- nor did one before the worlds were elaborated
  listed_acyclic : IsAcyclic (graph_package_uses (with_new_entries_at u w))
  listed_acyclic =
      acyclic_packages made.types made.interfaces made.packages things.interfaces_in_tables (relisted_worlds u valid w there) (λ p q home at on.
      no_package_cycle u valid w there accepted home.name (record { p = p; q = q; on_cycle = on; there = home; is = at; home_is = refl }))

  packages_acyclic : IsAcyclic (graph_package_uses made)
  packages_acyclic =
      packages_stay_acyclic laws.entries made.types made.interfaces made.packages (relisted_worlds u valid w there) made.worlds (record {
        aliases = new_aliases u valid w there;
        uses = uses_acyclic u valid w there accepted;
        tables = things.interfaces_in_tables;
        worlds = λ v world at.
            let it = world_from laws u valid w there accepted v world at in
            record {
              old = it.listed;
              at = it.at;
              imports = new_imports u valid w there v it.listed it.at;
              exports = new_exports u valid w there v it.listed it.at;
              lists_uses = listed_lists_uses laws.least u valid w there (complete u valid w there accepted) v it.listed it.at;
              elaborated = subst (Elaborated made.types (uses_of made.types made.interfaces) it.listed) it.is (elaborates u valid w there accepted laws.refused v it.listed it.at);
            };
      }) listed_acyclic

  whole_made : IsGoodAsAWhole made
  whole_made = record {
    package_names = valid.well_formed.package_names;
    once = StandOnce-from_entries g.interfaces made.worlds (one_place_new laws u valid w there accepted);
    no_cycles = record { uses = uses_acyclic u valid w there accepted; types = types_acyclic; packages = packages_acyclic };
    canonical = λ v world at.
        let it = world_from laws u valid w there accepted v world at in
        subst (λ (x : World). Elaborated made.types (uses_of made.types made.interfaces) x x) it.is (done_is_canonical laws u valid w there accepted v it.listed it.at);
  }

  pub valid_made : IsValid made
  valid_made = IsValid-from_good made good_made whole_made

pub semver_merged_is_valid : (laws : LawsOfElaboration) (rule : TrackRule) (g : Graph) (w : ℕ) (old : World) → IsValid g → slice_get g.worlds w ≡ Some old → SemverMergeIsAccepted rule g w → IsValid (semver_merged rule g w)
semver_merged_is_valid laws rule g w old valid there accepted =
    let u : SemverMerge = record { rule = rule; graph = g; world = old } in
    subst IsValid (sym (semver_merged_is rule g w old there)) (valid_made laws u valid w there accepted)
