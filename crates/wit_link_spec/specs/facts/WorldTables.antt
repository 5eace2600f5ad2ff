-- Worlds in the tables of their packages, when a package is added: those that were there stay in theirs, and the
-- new package has its own in its table, each under its name.
use Rattle.std.proofs.Common.{◌≡◌, ◌∙◌, ◌⊎◌, inl, inr, ℕ, ◌+◌, ◌-◌, List, [], ◌∷◌, drop, length, Option, None, Some, IsSomeAnd, slice_get, refl, sym, ap, subst, arith, Contains}
use Rattle.std.proofs.lemmas.Bool.{cases_lt, false≢true, lt-ltb}
use Rattle.std.proofs.lemmas.Option.{slice_get_within}
use Rattle.wit_values.specs.facts.Lists.{slice_get-append, slice_get-push}
use Rattle.wit_values.specs.Table.{HasDistinctKeys}
use Rattle.wit_data.specs.Each.{Each, EachAt, SomeAt}
use Rattle.wit_data.specs.Foreign.{foreign_worlds}
use Rattle.wit_data.specs.Shape.{IsShaped, world_names}
use Rattle.wit_data.specs.declared.world.World.{World}
use Rattle.wit_elaboration.specs.Valid.{IsValid, IsWorldInTable, IsWorldOf}
use Rattle.wit_graph_data.specs.declared.graph.Graph.{Graph}
use Rattle.wit_graph_data.specs.declared.graph.Package.{Package}
use Rattle.wit_graph_theory.specs.facts.ListFacts.{at_map, at_new, contained_at, found_at, from_map, get_at, old_or_new, same_at, some_at}
use Rattle.wit_link_spec.specs.Addition.{Addition, own_world, own_worlds, remapped_world}
use Rattle.wit_remap_spec.specs.Selected.{rank, selected_with_index}
use Rattle.wit_link_spec.specs.Gates.{is_foreign_world, world_is_active}
use Rattle.wit_link_spec.specs.Added.{new_package}
use Rattle.wit_link_spec.specs.facts.RankFacts.{selected_with_index-at, selected_with_index-from}
use Rattle.wit_link_spec.specs.facts.Standing.{own_world_remapped}
use Rattle.wit_link_spec.specs.facts.Grown.{IsCalled, IsGrown}
use Rattle.wit_link_spec.specs.facts.ListedWorlds.{IsActiveWorld, cut, own_world_at}
use Rattle.wit_link_spec.specs.facts.NamesOnce.{at_drop, place_once}
use Rattle.wit_link_spec.specs.facts.OwnThingFacts.{own_part, own_world_from}

-- ---- lists

some_and : (P Q : ℕ → Type 0) (o : Option ℕ) → ((p : ℕ) → P p → Q p) → IsSomeAnd o P → IsSomeAnd o Q
some_and P Q None weaker h = absurd h
some_and P Q (Some p) weaker h = weaker p h

-- ---- the new package

module _ (a : Addition) (shaped : IsShaped a.unresolved) where
  -- an entry of its table of worlds is of a world that is active
  pub table_from : (i : ℕ) (e : List ℕ × ℕ) → slice_get (new_package a).worlds i ≡ Some e → (w : ℕ) × (whole : World) × IsActiveWorld a w whole × (e.0 ≡ whole.name) × (e.1 ≡ remapped_world a w) × (i ≡ rank (own_world a) w)
  table_from i e at =
      let from = from_map (λ (d : ℕ × World). let r : List ℕ × ℕ = (d.1.name, remapped_world a d.0) in r) (selected_with_index (own_world a) a.unresolved.worlds) i e at in
      let is = selected_with_index-from (own_world a) a.unresolved.worlds i from.0 from.1 in
      (from.0.0, from.0.1, record { there = is.0; takes = is.1 }, ap (λ (r : List ℕ × ℕ). r.0) (sym from.2), ap (λ (r : List ℕ × ℕ). r.1) (sym from.2), is.2)

  -- and each such world stands in it
  pub table_has : (w : ℕ) (whole : World) → IsActiveWorld a w whole → Contains (new_package a).worlds (whole.name, remapped_world a w)
  table_has w whole of =
      contained_at (new_package a).worlds (rank (own_world a) w) (whole.name, remapped_world a w)
      (at_map (λ (d : ℕ × World). let r : List ℕ × ℕ = (d.1.name, remapped_world a d.0) in r) (selected_with_index (own_world a) a.unresolved.worlds) (rank (own_world a) w) (w, whole)
      (selected_with_index-at (own_world a) a.unresolved.worlds w whole of.there of.takes))

  -- a world that is active stands behind those of other packages
  name_there : (w : ℕ) (whole : World) → IsActiveWorld a w whole
      → (i : ℕ) × (w ≡ length (foreign_worlds a.unresolved.foreign_deps) + i) × (slice_get (world_names (length (foreign_worlds a.unresolved.foreign_deps)) a.unresolved.worlds) i ≡ Some whole.name)
  name_there w whole of =
      let n = length (foreign_worlds a.unresolved.foreign_deps) in
      elim (cases_lt w n) [
        | inl below ↦ absurd (false≢true (sym (own_part (is_foreign_world a.unresolved w) (world_is_active a.features a.unresolved w) of.takes).0 ∙ lt-ltb w n below))
        | inr past ↦ behind n (w - n) (omega arith)
      ]
    where
      behind : (n i : ℕ) → w ≡ n + i → (i : ℕ) × (w ≡ n + i) × (slice_get (world_names n a.unresolved.worlds) i ≡ Some whole.name)
      behind n i place = (i, place, at_map (λ (world : World). world.name) (drop n a.unresolved.worlds) i whole (at_drop a.unresolved.worlds n i w whole place of.there))

  -- no name stands in it twice
  pub new_worlds_distinct : HasDistinctKeys (new_package a).worlds
  new_worlds_distinct i j e f first second same =
      let x = table_from i e first in
      let y = table_from j f second in
      let u = name_there x.0 x.1 x.2 in
      let v = name_there y.0 y.1 y.2 in
      let index = place_once (world_names (length (foreign_worlds a.unresolved.foreign_deps)) a.unresolved.worlds) u.0 v.0 x.1.name y.1.name shaped.names.worlds_differ u.2 v.2 (sym x.3 ∙ same ∙ y.3) in
      let p = u.1 in
      let q = v.1 in
      let place : x.0 ≡ y.0 = omega arith in
      x.5 ∙ ap (rank (own_world a)) place ∙ sym y.5

-- ---- tables

module _ (a : Addition) (valid : IsValid a.graph) (shaped : IsShaped a.unresolved) (new : Graph) (are : IsGrown a (length (own_worlds a)) new) where
  home_at : slice_get new.packages (length a.graph.packages) ≡ Some (new_package a)
  home_at = subst (λ (packages : List Package). slice_get packages (length a.graph.packages) ≡ Some (new_package a)) (sym are.packages_are) (slice_get-push a.graph.packages (new_package a))

  old_home_at : (p : ℕ) (home : Package) → slice_get a.graph.packages p ≡ Some home → slice_get new.packages p ≡ Some home
  old_home_at p home at =
      subst (λ (packages : List Package). slice_get packages p ≡ Some home) (sym are.packages_are) (slice_get-append a.graph.packages (new_package a ∷ []) p home at)

  -- each world of the package that is active is there, under its name
  done_at : (w : ℕ) (whole : World) → IsActiveWorld a w whole → SomeAt new.worlds (remapped_world a w) (λ (world : World). (world.name ≡ whole.name) × (world.package ≡ Some (length a.graph.packages)))
  done_at w whole of =
      let k = rank (own_world a) w in
      let at = own_world_at a w whole of in
      let found = found_at (IsCalled a (w, cut a whole)) are.done k (are.called k (w, cut a whole) (slice_get_within (own_worlds a) k (w, cut a whole) at) at) in
      some_at (λ (world : World). (world.name ≡ whole.name) × (world.package ≡ Some (length a.graph.packages))) new.worlds (remapped_world a w) found.0
      (subst (λ (worlds : List World). slice_get worlds (remapped_world a w) ≡ Some found.0) (sym are.worlds_are) (at_new a.graph.worlds are.done k (remapped_world a w) found.0 (own_world_remapped a w of.takes) found.1)) found.2

  -- and there is no other
  world_from : (w' : ℕ) (world : World) → slice_get new.worlds w' ≡ Some world
      → (slice_get a.graph.worlds w' ≡ Some world) ⊎ ((w : ℕ) × (whole : World) × IsActiveWorld a w whole × (w' ≡ remapped_world a w) × (world.name ≡ whole.name) × (world.package ≡ Some (length a.graph.packages)))
  world_from w' world at =
      elim (old_or_new a.graph.worlds are.done w' world (subst (λ (worlds : List World). slice_get worlds w' ≡ Some world) are.worlds_are at)) [
        | inl old ↦ inl old
        | inr behind ↦
            let within = slice_get_within are.done behind.0 world behind.2 in
            let count = are.many in
            let e = get_at (own_worlds a) behind.0 (omega arith) in
            let is = own_world_from a behind.0 e.0 e.1 in
            let called = found_at (IsCalled a e.0) are.done behind.0 (are.called behind.0 e.0 (omega arith) e.1) in
            let same = same_at are.done behind.0 behind.0 called.0 world refl called.1 behind.2 in
            let here : IsCalled a e.0 world = subst (IsCalled a e.0) same called.2 in
            inr (e.0.0, is.world, record { there = is.there; takes = is.own }, behind.1 ∙ sym is.place, here.0 ∙ ap (λ (x : World). x.name) (sym is.is), here.1)
      ]

  -- each world stands in the table of its package
  pub worlds_in_tables : EachAt (IsWorldInTable new.packages) new.worlds
  worlds_in_tables w' world at =
      elim (world_from w' world at) [
        | inl old ↦
            some_and (λ p. SomeAt a.graph.packages p (λ (home : Package). Contains home.worlds (world.name, w'))) (λ p. SomeAt new.packages p (λ (home : Package). Contains home.worlds (world.name, w'))) world.package
            (λ p h.
            let found = found_at (λ (home : Package). Contains home.worlds (world.name, w')) a.graph.packages p h in
            some_at (λ (home : Package). Contains home.worlds (world.name, w')) new.packages p found.0 (old_home_at p found.0 found.1) found.2)
            (valid.well_formed.tables.worlds_listed w' world old)
        | inr made ↦
            let has : Contains (new_package a).worlds (world.name, w') =
            subst (λ (name : List ℕ). Contains (new_package a).worlds (name, w')) (sym made.4)
            (subst (λ (v : ℕ). Contains (new_package a).worlds (made.1.name, v)) (sym made.3) (table_has a shaped made.0 made.1 made.2)) in
            subst (λ (o : Option ℕ). IsSomeAnd o (λ p. SomeAt new.packages p (λ (home : Package). Contains home.worlds (world.name, w')))) (sym made.5)
            (some_at (λ (home : Package). Contains home.worlds (world.name, w')) new.packages (length a.graph.packages) (new_package a) home_at has)
      ]

  -- the table of the new package holds its own worlds
  pub new_table : Each (λ (e : List ℕ × ℕ). IsWorldOf new.worlds (length a.graph.packages) e.0 e.1) (new_package a).worlds
  new_table i e on =
      let from = table_from a shaped i e on in
      let done = found_at (λ (world : World). (world.name ≡ from.1.name) × (world.package ≡ Some (length a.graph.packages))) new.worlds (remapped_world a from.0) (done_at from.0 from.1 from.2) in
      subst (λ (v : ℕ). IsWorldOf new.worlds (length a.graph.packages) e.0 v) (sym from.4)
      (some_at (λ (world : World). (world.name ≡ e.0) × (world.package ≡ Some (length a.graph.packages))) new.worlds (remapped_world a from.0) done.0 done.1 (done.2.0 ∙ sym from.3, done.2.1))
