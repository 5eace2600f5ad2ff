-- What the named world is after the merge.
use Rattle.std.proofs.Common.{◌≡◌, ◌∙◌, ◌↔◌, ℕ, true, false, ◌&&◌, List, [], Option, None, Some, IfSome, IsSomeAnd, length, option_map, slice_get, refl, sym, ap, subst, Contains}
use Rattle.std.proofs.lemmas.List.Elements.{All-contains}
use Rattle.std.specs.Map.{keys_of}
use Rattle.std.specs.Ordering.{is_eq, is_lt, ordering_reverse}
use Rattle.std.specs.declared.cmp.Ordering.{Ordering}
use Rattle.std.specs.declared.cmp.Ordering.TheVariants.{Less, Equal, Greater}
use Rattle.wit_values.specs.Version.{Parts, version_cmp}
use Rattle.wit_values.specs.facts.VersionFacts.{version_cmp_total, version_ties}
use Rattle.wit_data.specs.Each.{SomeAt}
use Rattle.wit_names.specs.facts.PackageNameFacts.{same_name}
use Rattle.wit_names.specs.Track.{track_by}
use Rattle.wit_data.specs.declared.interface.Interface.{Interface}
use Rattle.wit_names.specs.declared.package_name.PackageName.{PackageName}
use Rattle.wit_names.specs.declared.track.TrackRule.{TrackRule}
use Rattle.wit_data.specs.declared.world.World.{World}
use Rattle.wit_data.specs.declared.world.WorldKey.{WorldKey}
use Rattle.wit_elaboration.specs.Elaborated.{Elaborated}
use Rattle.wit_elaboration.specs.Entries.{keyed_interfaces}
use Rattle.wit_elaboration.specs.Sound.{HasSoundEntries}
use Rattle.wit_elaboration.specs.Valid.{IsValid}
use Rattle.wit_digraph.specs.Relation.{IsAcyclic}
use Rattle.wit_graph_data.specs.declared.graph.Graph.{Graph}
use Rattle.wit_graph_data.specs.declared.graph.Package.{Package}
use Rattle.wit_graph_theory.specs.facts.ListFacts.{found_at, place_of, same_at}
use Rattle.wit_elaboration.specs.AllElaborated.{elaborated_world}
use Rattle.wit_graph_theory.specs.facts.LawsOfElaboration.{LawsOfElaboration}
use Rattle.wit_graph_theory.specs.facts.OptionFacts.{some_parts}
use Rattle.wit_semver.specs.SemverMerged.{semver_merged, with_new_entries_at, SemverMerge, Versioned, are_on_one_track, have_one_track, is_replaced, versioned, versioned_of}
use Rattle.wit_semver.specs.facts.Accepting.{complete, elaborates, in_order, listed_there, merged_is, new_types, new_uses, semver_merged_is, uses_acyclic}
use Rattle.wit_semver.specs.facts.Greatest.{both_from, both_into, both_true, stays_from, track_from, track_into}
use Rattle.wit_semver.specs.facts.KeptKeys.{IsKept, kept_holds, kept_root, kept_test, passed}
use Rattle.wit_semver.specs.laws.TrackLaws.{IsSemverMerged}
use Rattle.wit_semver.specs.steps.Parts.{versioned_in, is_below, listed_world}

module _ (laws : LawsOfElaboration) (rule : TrackRule) (g : Graph) (w : ℕ) (old new : World) (merged : IsSemverMerged rule g w old new) where
  abbrev pub u : SemverMerge
  u = record { rule = rule; graph = g; world = old }

  abbrev done : World
  done = elaborated_world (with_new_entries_at u w) (listed_world u)

  pub is_done : new ≡ done
  is_done = merged_is rule g w old new merged.there merged.is

  order : HasSoundEntries (new_types u merged.valid w merged.there) (length (new_uses u merged.valid w merged.there)) (listed_world u).imports (listed_world u).exports
  order = in_order u merged.valid w merged.there w (listed_world u) (listed_there u merged.valid w merged.there)

  acyclic : IsAcyclic (new_uses u merged.valid w merged.there)
  acyclic = uses_acyclic u merged.valid w merged.there merged.accepted

  is_elaborated : Elaborated (new_types u merged.valid w merged.there) (new_uses u merged.valid w merged.there) (listed_world u) done
  is_elaborated = elaborates u merged.valid w merged.there merged.accepted laws.refused w (listed_world u) (listed_there u merged.valid w merged.there)

  pub kept_imports : (j : ℕ) → Contains (keyed_interfaces new.imports) j → IsKept laws.least u merged.valid w merged.there (complete u merged.valid w merged.there merged.accepted) j
  kept_imports j has =
      let all = (laws.least (new_types u merged.valid w merged.there) (new_uses u merged.valid w merged.there) (listed_world u) done acyclic order is_elaborated).1
      (kept_test laws.least u merged.valid w merged.there (complete u merged.valid w merged.there merged.accepted))
      (kept_holds laws.least u merged.valid w merged.there (complete u merged.valid w merged.there merged.accepted)) in
      passed laws.least u merged.valid w merged.there (complete u merged.valid w merged.there merged.accepted) j
      (All-contains (λ i. kept_test laws.least u merged.valid w merged.there (complete u merged.valid w merged.there merged.accepted) i ≡ true) (keyed_interfaces done.imports) j all
      (subst (λ (x : World). Contains (keyed_interfaces x.imports) j) is_done has))

  pub keys_are_exact : (j : ℕ) → Contains (keyed_interfaces new.imports) j ↔ (Contains (keyed_interfaces old.imports) j × (is_replaced u j ≡ false))
  keys_are_exact j = (
    λ has. let kept = kept_imports j has in (kept.was, kept.stays),
    λ kept.
        let holds = (laws.least (new_types u merged.valid w merged.there) (new_uses u merged.valid w merged.there) (listed_world u) done acyclic order is_elaborated).0 in
        subst (λ (x : World). Contains (keyed_interfaces x.imports) j) (sym is_done)
        (holds.roots j (kept_root laws.least u merged.valid w merged.there (complete u merged.valid w merged.there merged.accepted) j (record { was = kept.0; stays = kept.1 }))),
  )

  pub exports_are_kept : (k : WorldKey) → Contains (keys_of new.exports) k ↔ Contains (keys_of old.exports) k
  exports_are_kept k =
      subst (λ (x : World). Contains (keys_of x.exports) k ↔ Contains (keys_of old.exports) k) (sym is_done)
      (laws.exports (new_types u merged.valid w merged.there) (new_uses u merged.valid w merged.there) (listed_world u) done k acyclic order is_elaborated)

-- ---- one on each track

-- where a version comes from
record Comes (g : Graph) (i : ℕ) (v : Versioned) : Type 0 where
  interface : Interface
  at : slice_get g.interfaces i ≡ Some interface
  named : interface.name ≡ Some v.name
  p : ℕ
  of : interface.package ≡ Some p
  home : Package
  there : slice_get g.packages p ≡ Some home
  home_is : v.home ≡ home.name
  has_version : home.name.version ≡ Some v.version

some_same : (v w : Parts) → Some v ≡ Some w → v ≡ w
some_same v w same = cc

inside : (a b : Versioned) → Some a ≡ Some b → a ≡ b
inside a b same = cc

version_in : (name : List ℕ) (home : PackageName) (v : Versioned) → versioned_in name home ≡ Some v → (v.name ≡ name) × (v.home ≡ home) × (home.version ≡ Some v.version)
version_in name home v is = by home.version refl is
  where
    by : (o : Option Parts) → home.version ≡ o → option_map (λ (version : Parts). let made : Versioned = record { name = name; home = home; version = version } in made) o ≡ Some v → (v.name ≡ name) × (v.home ≡ home) × (home.version ≡ Some v.version)
    by None at h = cc
    by (Some version) at h =
        let made : Versioned = record { name = name; home = home; version = version } in
        let same : made ≡ v = inside made v h in
        (sym (ap (λ (x : Versioned). x.name) same), sym (ap (λ (x : Versioned). x.home) same), at ∙ ap (λ (x : Versioned). Some x.version) same)

comes : (g : Graph) (i : ℕ) (v : Versioned) → versioned g i ≡ Some v → Comes g i v
comes g i v is =
    let one = some_parts (versioned_of g.packages) (slice_get g.interfaces i) v is in
    let two = some_parts _ one.0.name v one.2 in
    let three = some_parts _ one.0.package v two.2 in
    let four = some_parts _ (slice_get g.packages three.0) v three.2 in
    let version = version_in two.0 four.0.name v four.2 in
    record {
      interface = one.0;
      at = one.1;
      named = two.1 ∙ ap Some (sym version.0);
      p = three.0;
      of = three.1;
      home = four.0;
      there = four.1;
      home_is = version.1;
      has_version = version.2;
    }

same_home : (a b : PackageName) (v w : Parts) (t s : Parts) → record a { version = Some t } ≡ record b { version = Some s } → a.version ≡ Some v → b.version ≡ Some w → v ≡ w → a ≡ b
same_home a b v w t s keys first second same =
    let namespaces : a.namespace ≡ b.namespace = ap (λ (n : PackageName). n.namespace) keys in
    let names : a.name ≡ b.name = ap (λ (n : PackageName). n.name) keys in
    let versions : a.version ≡ b.version = first ∙ ap Some same ∙ sym second in
    λ i. record { namespace = namespaces i; name = names i; version = versions i }

module _ (g : Graph) (valid : IsValid g) where
  -- two interfaces of one name in packages of one name are one
  one_interface : (i j : ℕ) (v w : Versioned) → Comes g i v → Comes g j w → v.home ≡ w.home → v.name ≡ w.name → i ≡ j
  one_interface i j v w a b homes names =
      let listed = valid.well_formed.package_names in
      let first = place_of g.package_names (a.home.name, a.p) (listed.listed a.p a.home a.there) in
      let second = place_of g.package_names (b.home.name, b.p) (listed.listed b.p b.home b.there) in
      let name : a.home.name ≡ b.home.name = sym a.home_is ∙ homes ∙ b.home_is in
      let place = listed.distinct first.0 second.0 (a.home.name, a.p) (b.home.name, b.p) first.1 second.1 name in
      let pair = same_at g.package_names first.0 second.0 (a.home.name, a.p) (b.home.name, b.p) place first.1 second.1 in
      let package_is : a.p ≡ b.p = ap (λ (e : PackageName × ℕ). e.1) pair in
      let one = same_at g.packages a.p b.p a.home b.home package_is a.there b.there in
      let in_first = in_table i v a in
      let in_second = subst (λ (x : Package). Contains x.interfaces (w.name, j)) (sym one) (in_table j w b) in
      let spot = place_of a.home.interfaces (v.name, i) in_first in
      let other = place_of a.home.interfaces (w.name, j) in_second in
      let same = valid.well_formed.tables.distinct_interfaces a.p a.home a.there spot.0 other.0 (v.name, i) (w.name, j) spot.1 other.1 names in
      ap (λ (e : List ℕ × ℕ). e.1) (same_at a.home.interfaces spot.0 other.0 (v.name, i) (w.name, j) same spot.1 other.1)
    where
      named_in : (o : Option ℕ) (n : Option (List ℕ)) (i p : ℕ) (name : List ℕ) → o ≡ Some p → n ≡ Some name
          → IsSomeAnd o (λ p. SomeAt g.packages p (λ (home : Package). IfSome n (λ name. Contains home.interfaces (name, i)))) → SomeAt g.packages p (λ (home : Package). Contains home.interfaces (name, i))
      named_in None n i p name of named h = cc
      named_in (Some q) None i p name of named h = cc
      named_in (Some q) (Some m) i p name of named h =
          let same : q ≡ p = cc in
          let called : m ≡ name = cc in
          subst (λ (x : ℕ). SomeAt g.packages x (λ (home : Package). Contains home.interfaces (name, i))) same (subst (λ (x : List ℕ). SomeAt g.packages q (λ (home : Package). Contains home.interfaces (x, i))) called h)

      in_table : (i : ℕ) (v : Versioned) → (c : Comes g i v) → Contains c.home.interfaces (v.name, i)
      in_table i v c =
          let listed = named_in c.interface.package c.interface.name i c.p v.name c.of c.named (valid.well_formed.tables.interfaces_listed i c.interface c.at) in
          let found = found_at (λ (home : Package). Contains home.interfaces (v.name, i)) g.packages c.p listed in
          subst (λ (x : Package). Contains x.interfaces (v.name, i)) (same_at g.packages c.p c.p found.0 c.home refl found.1 c.there) found.2

  pub equal_versions : (v w : Parts) → version_cmp v w ≡ Equal → v ≡ w
  equal_versions v w same =
      let a : PackageName = record { namespace = []; name = []; version = Some v } in
      let b : PackageName = record { namespace = []; name = []; version = Some w } in
      some_same v w (ap (λ (n : PackageName). n.version) (same_name a b (version_ties v w ∙ ap is_eq same)))

  -- on one track either one is below the other, or they are one
  pub one_track : (rule : TrackRule) (i j : ℕ) (v x : Versioned) → versioned g i ≡ Some v → versioned g j ≡ Some x → have_one_track rule v x ≡ true
      → (is_below v x ≡ true → ⊥) → (is_below x v ≡ true → ⊥) → i ≡ j
  one_track rule i j v x at_i at_j on not_below not_above = by (version_cmp v.version x.version) refl
    where
      by : (o : Ordering) → version_cmp v.version x.version ≡ o → i ≡ j
      by Less is = absurd (not_below (ap is_lt is))
      by Greater is = absurd (not_above (ap is_lt (version_cmp_total.antisymm x.version v.version ∙ ap ordering_reverse is)))
      by Equal is =
          let a = comes g i v at_i in
          let b = comes g j x at_j in
          let track = track_from rule v x on in
          let versions = equal_versions v.version x.version is in
          let homes = same_home v.home x.home v.version x.version (track_by rule v.version) (track_by rule x.version) track.home (ap (λ (n : PackageName). n.version) a.home_is ∙ a.has_version)
          (ap (λ (n : PackageName). n.version) b.home_is ∙ b.has_version) versions in
          one_interface i j v x a b homes track.name

module _ (laws : LawsOfElaboration) (rule : TrackRule) (g : Graph) (w : ℕ) (old new : World) (merged : IsSemverMerged rule g w old new) where
  not_outdone : (i j : ℕ) (v x : Versioned) → Contains (keyed_interfaces new.imports) i → Contains (keyed_interfaces new.imports) j → versioned g i ≡ Some v → versioned g j ≡ Some x
      → have_one_track rule v x ≡ true → is_below v x ≡ true → ⊥
  not_outdone i j v x has_i has_j at_i at_j on below =
      let one = kept_imports laws rule g w old new merged i has_i in
      let other = kept_imports laws rule g w old new merged j has_j in
      stays_from (record { rule = rule; graph = g; world = old }) i one.was one.stays j other.was
      (both_into (λ a b. have_one_track rule a b && is_below a b) (versioned g i) (versioned g j) v x at_i at_j (both_true (have_one_track rule v x) (is_below v x) on below))

  other_way : (v x : Versioned) → have_one_track rule v x ≡ true → have_one_track rule x v ≡ true
  other_way v x on = let same = track_from rule v x on in track_into rule x v (record { home = sym same.home; name = sym same.name })

  pub one_on_each : (i j : ℕ) → Contains (keyed_interfaces new.imports) i → Contains (keyed_interfaces new.imports) j → are_on_one_track rule (semver_merged rule g w) i j ≡ true → i ≡ j
  one_on_each i j has_i has_j on =
      let here : are_on_one_track rule g i j ≡ true =
      subst (λ (x : Graph). are_on_one_track rule x i j ≡ true) (semver_merged_is rule g w old merged.there) on in
      let pair = both_from (have_one_track rule) (versioned g i) (versioned g j) here in
      one_track g merged.valid rule i j pair.0 pair.1 pair.2 pair.3 pair.4 (not_outdone i j pair.0 pair.1 has_i has_j pair.2 pair.3 pair.4)
      (not_outdone j i pair.1 pair.0 has_j has_i pair.3 pair.2 (other_way pair.0 pair.1 pair.4))
