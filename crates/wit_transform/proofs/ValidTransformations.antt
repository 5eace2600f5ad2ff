-- A valid graph with a transformed world is valid.
use Rattle.std.proofs.Common.{◌≡◌, ◌≢◌, ◌∙◌, ◌⊎◌, inl, inr, ℕ, not, List, [], ◌∷◌, ◌+◌, filter, length, Option, None, Some, IfSome, IsSomeAnd, slice_get, slice_set, refl, sym, ap, subst, arith, Contains}
use Rattle.std.specs.List.{enumerate_from}
use Rattle.std.specs.Option.{option_map_or}
use Rattle.std.specs.Prelude.{nat_eq, flat_map}
use Rattle.std.proofs.lemmas.List.{length-map, length-set}
use Rattle.std.proofs.lemmas.List.Elements.{Contains-append_cases, Contains-append_left, Contains-append_right}
use Rattle.wit_values.specs.facts.Lists.{kept-cases, slice_get-set}
use Rattle.wit_digraph.specs.facts.MemberFacts.{Contains-cons_cases, Contains-flat_map, Contains-flat_map_cases, Contains-here, Contains-nil}
use Rattle.wit_digraph.specs.Relation.{IsAcyclic, direct}
use Rattle.wit_data.specs.Each.{SomeAt}
use Rattle.wit_data.specs.Ownership.{IsListed, world_types}
use Rattle.wit_data.specs.Uses.{interface_uses, uses_of}
use Rattle.wit_data.specs.declared.types.TypeOwner.{TypeOwner}
use Rattle.wit_data.specs.declared.world.World.{World}
use Rattle.wit_data.specs.declared.types.TypeOwner.TheVariants as owner
use Rattle.wit_elaboration.specs.facts.Filters.{Contains-filter, Contains-filtered}
use Rattle.wit_elaboration.specs.Elaborated.{Elaborated}
use Rattle.wit_elaboration.specs.Elaboration.{graph_uses}
use Rattle.wit_elaboration.specs.Imported.{HasTransitiveConflict}
use Rattle.wit_graph_data.specs.Queries.{other_package, package_interfaces, package_uses, world_interfaces}
use Rattle.wit_values.specs.Table.{HasDistinctKeys}
use Rattle.wit_elaboration.specs.Valid.{HasPackageNames, IsValid, IsWorldInTable, IsWorldOf}
use Rattle.wit_graph_data.specs.declared.graph.Graph.{Graph}
use Rattle.wit_graph_data.specs.declared.graph.Package.{Package}
use Rattle.wit_graph_theory.specs.facts.CutIsGood.{distinct_kept}
use Rattle.wit_graph_theory.specs.facts.DependencyFacts.{filter_map_from, filter_map_into}
use Rattle.wit_graph_theory.specs.facts.Good.{HasGoodThings, IsGoodAsAWhole, IsGoodPackage, IsGoodWorld}
use Rattle.wit_graph_theory.specs.facts.GoodIsValid.{IsValid-from_good, good_things}
use Rattle.wit_graph_theory.specs.facts.ListFacts.{contained_at, found_at, from_row, in_row, place_of, same_at, some_at}
use Rattle.wit_graph_theory.specs.facts.UnnamedOnceFrom.{StandsOnceOnly-from_once}
use Rattle.wit_graph_theory.specs.facts.UnnamedOnceFacts.{StandOnce-from_entries}
use Rattle.wit_graph_theory.specs.facts.PackagesAcyclic.{is_there, length-numbered, numbered_from, numbered_into, there_is}
use Rattle.wit_graph_theory.specs.facts.LawsOfElaboration.{LawsOfElaboration}
use Rattle.wit_transform.specs.facts.Distinct.{entry_of_key, joined_distinct, more_distinct}
use Rattle.wit_transform.specs.facts.ListsFrom.{ComesFrom}
use Rattle.wit_transform.specs.facts.Looked.{differs, is_other}
use Rattle.wit_transform.proofs.NamedInterfaces.{done_named, fewer_acyclic}
use Rattle.wit_transform.specs.facts.UnnamedOnceTransformed.{set_split, unnamed_once_transformed}
use Rattle.wit_transform.specs.facts.TransformedWorlds.{done, done_is_canonical, done_is_good, types_stay}
use Rattle.wit_transform.specs.Transformed.{WorldLists, transformed_at, with_renamed}
use Rattle.wit_graph_data.specs.steps.Parts.{package_needs}
use Rattle.wit_transform.specs.steps.Parts.{put_last, NameIsTakenIn}

some_and : (P Q : ℕ → Type 0) (o : Option ℕ) → ((q : ℕ) → P q → Q q) → IsSomeAnd o P → IsSomeAnd o Q
some_and P Q None weaker h = absurd h
some_and P Q (Some q) weaker h = weaker q h

some_is : (P : ℕ → Type 0) (o : Option ℕ) (p : ℕ) → o ≡ Some p → IsSomeAnd o P → P p
some_is P None p is h = absurd h
some_is P (Some q) p is h = let same : q ≡ p = cc in subst P same h

some_of : (P : ℕ → Type 0) (o : Option ℕ) (p : ℕ) → o ≡ Some p → P p → IsSomeAnd o P
some_of P o p is h = subst (λ (x : Option ℕ). IsSomeAnd x P) (sym is) h

module _ (laws : LawsOfElaboration) (g : Graph) (valid : IsValid g) (w : ℕ) (old : World) (there : slice_get g.worlds w ≡ Some old) (transform : WorldLists) (from : ComesFrom old transform)
    (no_conflict : HasTransitiveConflict (graph_uses g) transform.exports → ⊥) (p : ℕ) (home : Package) (of : old.package ≡ Some p) (at_home : slice_get g.packages p ≡ Some home)
    (free : NameIsTakenIn home w transform.name → ⊥) where
  abbrev new_world : World
  new_world = done g valid w old there transform from

  abbrev new_home : Package
  new_home = record home { worlds = put_last home.worlds w transform.name }

  abbrev new : Graph
  new = record g { worlds = slice_set g.worlds w new_world; packages = slice_set g.packages p new_home }

  things : HasGoodThings g
  things = good_things g valid

  -- ---- what stays

  world_there : slice_get new.worlds w ≡ Some new_world
  world_there = slice_get-set g.worlds w old new_world there

  home_there : slice_get new.packages p ≡ Some new_home
  home_there = slice_get-set g.packages p home new_home at_home

  -- what holds of a world, and of the turned one if of the old one
  world_stays : (P : World → Type 0) → (P old → P new_world) → (v : ℕ) → SomeAt g.worlds v P → SomeAt new.worlds v P
  world_stays P over v h =
      let found = found_at P g.worlds v h in
      elim (kept-cases g.worlds w new_world v found.0 found.1) [
        | inl same ↦
            let one = same_at g.worlds v w found.0 old same found.1 there in
            subst (λ (u : ℕ). SomeAt new.worlds u P) (sym same) (some_at P new.worlds w new_world world_there (over (subst P one found.2)))
        | inr stays ↦ some_at P new.worlds v found.0 stays found.2
      ]

  home_stays : (P : Package → Type 0) → (P home → P new_home) → (q : ℕ) → SomeAt g.packages q P → SomeAt new.packages q P
  home_stays P over q h =
      let found = found_at P g.packages q h in
      elim (kept-cases g.packages p new_home q found.0 found.1) [
        | inl same ↦
            let one = same_at g.packages q p found.0 home same found.1 at_home in
            subst (λ (u : ℕ). SomeAt new.packages u P) (sym same) (some_at P new.packages p new_home home_there (over (subst P one found.2)))
        | inr stays ↦ some_at P new.packages q found.0 stays found.2
      ]

  listed_stays : (t : ℕ) (name : Option (List ℕ)) (by : TypeOwner) → IsListed g.interfaces g.worlds t name by → IsListed g.interfaces new.worlds t name by
  listed_stays t name owner.None h = h
  listed_stays t None (owner.Interface f) h = h
  listed_stays t (Some name) (owner.Interface f) h = h
  listed_stays t None (owner.World v) h = h
  listed_stays t (Some name) (owner.World v) h = world_stays (λ (world : World). Contains (world_types world) (name, t)) (types_stay g valid w old there transform from laws no_conflict (name, t)) v h

  -- ---- tables

  in_table : (e : List ℕ × ℕ) → Contains (put_last home.worlds w transform.name) e → (Contains home.worlds e × (e.1 ≢ w)) ⊎ (e ≡ (transform.name, w))
  in_table e has =
      elim (Contains-append_cases (filter (λ (e : List ℕ × ℕ). not (nat_eq e.1 w)) home.worlds) ((transform.name, w) ∷ []) e has) [
        | inl among ↦ let parts = Contains-filter (λ (e : List ℕ × ℕ). not (nat_eq e.1 w)) home.worlds e among in inl (parts.0, differs e.1 w parts.1)
        | inr among ↦ elim (Contains-cons_cases (transform.name, w) e [] among) [ inl same ↦ inr (sym same) | inr none ↦ absurd (Contains-nil none) ]
      ]

  stays_in_table : (e : List ℕ × ℕ) → Contains home.worlds e → (e.1 ≢ w) → Contains (put_last home.worlds w transform.name) e
  stays_in_table e has other =
      Contains-append_left (filter (λ (e : List ℕ × ℕ). not (nat_eq e.1 w)) home.worlds) ((transform.name, w) ∷ []) e
      (Contains-filtered (λ (e : List ℕ × ℕ). not (nat_eq e.1 w)) home.worlds e has (is_other e.1 w other))

  last_in_table : Contains (put_last home.worlds w transform.name) (transform.name, w)
  last_in_table = Contains-append_right (filter (λ (e : List ℕ × ℕ). not (nat_eq e.1 w)) home.worlds) ((transform.name, w) ∷ []) (transform.name, w) (Contains-here (transform.name, w) [])

  table_distinct : HasDistinctKeys home.worlds → HasDistinctKeys (put_last home.worlds w transform.name)
  table_distinct distinct =
      joined_distinct (filter (λ (e : List ℕ × ℕ). not (nat_eq e.1 w)) home.worlds) ((transform.name, w) ∷ []) (distinct_kept (λ (e : List ℕ × ℕ). not (nat_eq e.1 w)) home.worlds distinct)
      (more_distinct (transform.name, w) [] (λ i j d e first second same. cc) (λ d has same. Contains-nil has))
      (λ k has last.
      let entry = entry_of_key (filter (λ (e : List ℕ × ℕ). not (nat_eq e.1 w)) home.worlds) k has in
      let parts = Contains-filter (λ (e : List ℕ × ℕ). not (nat_eq e.1 w)) home.worlds entry.0 entry.1 in
      let name : transform.name ≡ k = elim (Contains-cons_cases transform.name k [] last) [ inl same ↦ same | inr none ↦ absurd (Contains-nil none) ] in
      free (entry.0.1, subst (λ (n : List ℕ). Contains home.worlds (n, entry.0.1)) (entry.2 ∙ sym name) parts.0, differs entry.0.1 w parts.1))

  -- a world that isn't turned is of its package still
  other_world_of : (q : ℕ) (name : List ℕ) (v : ℕ) → (v ≢ w) → IsWorldOf g.worlds q name v → IsWorldOf new.worlds q name v
  other_world_of q name v other h =
      let found = found_at (λ (world : World). (world.name ≡ name) × (world.package ≡ Some q)) g.worlds v h in
      elim (kept-cases g.worlds w new_world v found.0 found.1) [
        | inl same ↦ absurd (other same)
        | inr stays ↦ some_at (λ (world : World). (world.name ≡ name) × (world.package ≡ Some q)) new.worlds v found.0 stays found.2
      ]

  home_is_good : IsGoodPackage g.interfaces new.worlds p new_home
  home_is_good =
      let good = things.packages p home at_home in
      record {
        interfaces_are = good.interfaces_are;
        worlds_are = λ i e on. elim (in_table e (contained_at (put_last home.worlds w transform.name) i e on)) [
          | inl before ↦ let place = place_of home.worlds e before.0 in other_world_of p e.0 e.1 before.1 (good.worlds_are place.0 e place.1)
          | inr last ↦
              subst (λ (x : List ℕ × ℕ). IsWorldOf new.worlds p x.0 x.1) (sym last)
              (some_at (λ (world : World). (world.name ≡ transform.name) × (world.package ≡ Some p)) new.worlds w new_world world_there (refl, of))
        ];
        distinct_interfaces = good.distinct_interfaces;
        distinct_worlds = table_distinct good.distinct_worlds;
        namespace = good.namespace;
        name = good.name;
        version = good.version;
      }

  other_is_good : (q : ℕ) (other : Package) → (q ≢ p) → slice_get g.packages q ≡ Some other → IsGoodPackage g.interfaces new.worlds q other
  other_is_good q other apart at =
      let good = things.packages q other at in
      record {
        interfaces_are = good.interfaces_are;
        worlds_are = λ i e on. other_world_of q e.0 e.1 (λ same.
            let found = found_at (λ (world : World). (world.name ≡ e.0) × (world.package ≡ Some q)) g.worlds e.1 (good.worlds_are i e on) in
            let one = same_at g.worlds e.1 w found.0 old same found.1 there in
            let both : Some q ≡ Some p = sym found.2.1 ∙ ap (λ (world : World). world.package) one ∙ of in
            let equal : q ≡ p = cc in
            apart equal) (good.worlds_are i e on);
        distinct_interfaces = good.distinct_interfaces;
        distinct_worlds = good.distinct_worlds;
        namespace = good.namespace;
        name = good.name;
        version = good.version;
      }

  -- ---- things

  good_new : HasGoodThings new
  good_new = record {
    types = λ t def at.
        let good = things.types t def at in
        record { listed = listed_stays t def.name def.owner good.listed; alias = good.alias; unnamed = good.unnamed; own = good.own };
    known = things.known;
    interfaces = things.interfaces;
    worlds = λ v world at. elim (set_split g.worlds w new_world v world at) [
      | inl here ↦
          let good = done_is_good g valid w old there transform from laws no_conflict in
          subst (λ (u : ℕ). IsGoodWorld g.types g.interfaces u world) (sym here.0) (subst (IsGoodWorld g.types g.interfaces w) (sym here.1) good)
      | inr before ↦ things.worlds v world before.1
    ];
    packages = λ q other at. elim (set_split g.packages p new_home q other at) [
      | inl here ↦ subst (λ (u : ℕ). IsGoodPackage g.interfaces new.worlds u other) (sym here.0) (subst (IsGoodPackage g.interfaces new.worlds p) (sym here.1) home_is_good)
      | inr before ↦ other_is_good q other before.0 before.1
    ];
    interfaces_in_tables = λ i interface at.
        some_and (λ q. SomeAt g.packages q (λ (x : Package). IfSome interface.name (λ name. Contains x.interfaces (name, i))))
        (λ q. SomeAt new.packages q (λ (x : Package). IfSome interface.name (λ name. Contains x.interfaces (name, i)))) interface.package
        (λ q h. home_stays (λ (x : Package). IfSome interface.name (λ name. Contains x.interfaces (name, i))) (λ same. same) q h) (things.interfaces_in_tables i interface at);
    worlds_in_tables = λ v world at. elim (set_split g.worlds w new_world v world at) [
      | inl here ↦
          subst (λ (u : ℕ). IsWorldInTable new.packages u world) (sym here.0)
          (subst (IsWorldInTable new.packages w) (sym here.1)
          (some_of (λ q. SomeAt new.packages q (λ (x : Package). Contains x.worlds (transform.name, w))) new_world.package p of
          (some_at (λ (x : Package). Contains x.worlds (transform.name, w)) new.packages p new_home home_there last_in_table)))
      | inr before ↦
          some_and (λ q. SomeAt g.packages q (λ (x : Package). Contains x.worlds (world.name, v))) (λ q. SomeAt new.packages q (λ (x : Package). Contains x.worlds (world.name, v))) world.package
          (λ q h. home_stays (λ (x : Package). Contains x.worlds (world.name, v)) (λ has. stays_in_table (world.name, v) has before.0) q h) (things.worlds_in_tables v world before.1)
    ];
  }

  -- ---- the whole

  names_new : HasPackageNames new.packages g.package_names
  names_new =
      let names = valid.well_formed.package_names in
      record {
        own_name = λ i e on. home_stays (λ (x : Package). x.name ≡ e.0) (λ same. same) e.1 (names.own_name i e on);
        listed = λ q other at. elim (set_split g.packages p new_home q other at) [
          | inl here ↦
              subst (λ (u : ℕ). Contains g.package_names (other.name, u)) (sym here.0)
              (subst (λ (x : Package). Contains g.package_names (x.name, p)) (sym here.1) (names.listed p home at_home))
          | inr before ↦ names.listed q other before.1
        ];
        distinct = names.distinct;
      }

  -- the old table has the world
  was_in_table : Contains home.worlds (old.name, w)
  was_in_table =
      let found = found_at (λ (x : Package). Contains x.worlds (old.name, w)) g.packages p (some_is (λ q. SomeAt g.packages q (λ (x : Package). Contains x.worlds (old.name, w))) old.package p of (things.worlds_in_tables w old there)) in
      subst (λ (x : Package). Contains x.worlds (old.name, w)) (same_at g.packages p p found.0 home refl found.1 at_home) found.2

  abbrev needs_at : List World → ℕ × Package → List ℕ
  needs_at worlds e = package_needs g.types g.interfaces worlds e.0 e.1

  -- what a world of a table names was named by a world of the old table
  named_before : (q : ℕ) (before after : Package) → after.interfaces ≡ before.interfaces
      → ((e : List ℕ × ℕ) → Contains after.worlds e → (e.1 ≢ w) → Contains before.worlds e)
      → ((e : List ℕ × ℕ) → Contains after.worlds e → e.1 ≡ w → (name : List ℕ) × Contains before.worlds (name, w))
      → (i : ℕ) → Contains (package_interfaces g.types g.interfaces new.worlds after) i → Contains (package_interfaces g.types g.interfaces g.worlds before) i
  named_before q before after same others itself i has =
      elim (Contains-append_cases (flat_map (λ (e : List ℕ × ℕ). option_map_or (interface_uses g.types) (slice_get g.interfaces e.1) []) after.interfaces) (flat_map (λ (e : List ℕ × ℕ). option_map_or (world_interfaces g.types) (slice_get new.worlds e.1) []) after.worlds) i has) [
        | inl among ↦
            Contains-append_left _ _ i
            (subst (λ (es : List (List ℕ × ℕ)). Contains (flat_map (λ (e : List ℕ × ℕ). option_map_or (interface_uses g.types) (slice_get g.interfaces e.1) []) es) i) same among)
        | inr among ↦
            let e = Contains-flat_map_cases (λ (e : List ℕ × ℕ). option_map_or (world_interfaces g.types) (slice_get new.worlds e.1) []) after.worlds i among in
            let held = there_is (world_interfaces g.types) (slice_get new.worlds e.0.1) i e.1.1 in
            Contains-append_right _ _ i
            (elim (set_split g.worlds w new_world e.0.1 held.0 held.1) [
              | inl here ↦
                  let entry = itself e.0 e.1.0 here.0 in
                  let named = done_named g valid w old there transform from laws no_conflict i (subst (λ (x : World). Contains (world_interfaces g.types x) i) here.1 held.2) in
                  Contains-flat_map (λ (e : List ℕ × ℕ). option_map_or (world_interfaces g.types) (slice_get g.worlds e.1) []) before.worlds (entry.0, w) i entry.1
                  (is_there (world_interfaces g.types) (slice_get g.worlds w) old i there named)
              | inr else ↦
                  Contains-flat_map (λ (e : List ℕ × ℕ). option_map_or (world_interfaces g.types) (slice_get g.worlds e.1) []) before.worlds e.0 i (others e.0 e.1.0 else.0)
                  (is_there (world_interfaces g.types) (slice_get g.worlds e.0.1) held.0 i else.1 held.2)
            ])
      ]

  needs_before : (q r : ℕ) (after : Package) → slice_get new.packages q ≡ Some after → Contains (needs_at new.worlds (q, after)) r
      → (before : Package) × (slice_get g.packages q ≡ Some before) × Contains (needs_at g.worlds (q, before)) r
  needs_before q r after at has =
      let step = filter_map_from (other_package g.interfaces q) (package_interfaces g.types g.interfaces new.worlds after) r has in
      elim (set_split g.packages p new_home q after at) [
        | inl here ↦ (
          home,
          subst (λ (u : ℕ). slice_get g.packages u ≡ Some home) (sym here.0) at_home,
          filter_map_into (other_package g.interfaces q) (package_interfaces g.types g.interfaces g.worlds home) step.0 r
              (named_before q home after (ap (λ (x : Package). x.interfaces) here.1)
              (λ e on other. elim (in_table e (subst (λ (x : Package). Contains x.worlds e) here.1 on)) [ inl before ↦ before.0 | inr last ↦ absurd (other (ap (λ (d : List ℕ × ℕ). d.1) last)) ])
              (λ e on same. (old.name, was_in_table)) step.0 step.1) step.2,
        )
        | inr else ↦ (
          after,
          else.1,
          filter_map_into (other_package g.interfaces q) (package_interfaces g.types g.interfaces g.worlds after) step.0 r
              (named_before q after after refl (λ e on other. on) (λ e on same. (e.0, subst (λ (u : ℕ). Contains after.worlds (e.0, u)) same on)) step.0 step.1) step.2,
        )
      ]

  packages_new : IsAcyclic (package_uses g.types g.interfaces new.worlds new.packages)
  packages_new =
      fewer_acyclic (package_uses g.types g.interfaces g.worlds g.packages) (package_uses g.types g.interfaces new.worlds new.packages) long fewer valid.no_cycles.packages
    where
      long : length (package_uses g.types g.interfaces new.worlds new.packages) ≡ length (package_uses g.types g.interfaces g.worlds g.packages)
      long =
          length-map (enumerate_from 0 new.packages) (needs_at new.worlds) ∙ length-numbered 0 new.packages ∙ length-set g.packages p new_home
          ∙ sym (length-map (enumerate_from 0 g.packages) (needs_at g.worlds) ∙ length-numbered 0 g.packages)

      fewer : (q r : ℕ) → Contains (direct (package_uses g.types g.interfaces new.worlds new.packages) q) r → Contains (direct (package_uses g.types g.interfaces g.worlds g.packages) q) r
      fewer q r has =
          let row = from_row (needs_at new.worlds) (enumerate_from 0 new.packages) q r has in
          let numbered = numbered_from 0 new.packages q row.0 row.1 in
          let place : row.0.0 ≡ q = let is = numbered.0 in omega arith in
          let before = needs_before q r row.0.1 numbered.1 (subst (λ (n : ℕ). Contains (needs_at new.worlds (n, row.0.1)) r) place row.2) in
          let start : 0 + q ≡ q = omega arith in
          in_row (needs_at g.worlds) (enumerate_from 0 g.packages) q (q, before.0) r (numbered_into 0 g.packages q before.0 before.1 ∙ ap (λ (n : ℕ). Some (n, before.0)) start) before.2

  whole_new : IsGoodAsAWhole new
  whole_new = record {
    package_names = names_new;
    once = StandOnce-from_entries g.interfaces new.worlds
        (unnamed_once_transformed laws g valid w old there transform from no_conflict (StandsOnceOnly-from_once g.interfaces g.worlds valid.well_formed.worlds.once));
    no_cycles = record { uses = valid.no_cycles.uses; types = valid.no_cycles.types; packages = packages_new };
    canonical = λ v world at. elim (set_split g.worlds w new_world v world at) [
      | inl here ↦ subst (λ (x : World). Elaborated g.types (uses_of g.types g.interfaces) x x) (sym here.1) (done_is_canonical g valid w old there transform from laws no_conflict)
      | inr before ↦ valid.canonical v world before.1
    ];
  }

  valid_new : IsValid new
  valid_new = IsValid-from_good new good_new whole_new

  -- the packages are those of the definition
  packages_are : slice_set g.packages p new_home ≡ with_renamed g.packages old.package w transform.name
  packages_are =
      sym (ap (λ (o : Option ℕ). with_renamed g.packages o w transform.name) of
      ∙ ap (λ (o : Option Package). option_map_or (λ (x : Package). slice_set g.packages p (record x { worlds = put_last x.worlds w transform.name })) o g.packages) at_home)

  pub transformed_is_valid : IsValid (transformed_at g w old transform)
  transformed_is_valid = subst (λ (ps : List Package). IsValid (record g { worlds = slice_set g.worlds w new_world; packages = ps })) packages_are valid_new
