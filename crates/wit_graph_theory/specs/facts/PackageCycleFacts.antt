-- Elaborating worlds makes no cycle of packages: a dependency of packages that it adds has a path before it.
use Rattle.std.proofs.Common.{◌≡◌, ◌∙◌, inl, inr, ℕ, ◌==◌, ◌<◌, ◌+◌, Bool, true, false, List, [], ◌∷◌, Option, None, Some, IfSome, IsSome, IsSomeAnd, get_or, is_some, not, length, option_and_then, slice_get, refl, sym, ap, subst, arith, Contains, if◌then◌else◌}
use Rattle.std.specs.List.{enumerate_from, flat_map}
use Rattle.std.specs.Option.{option_map_or}
use Rattle.std.proofs.lemmas.Bool.{eqb-false, eqb-true}
use Rattle.std.proofs.lemmas.List.{length-map}
use Rattle.std.proofs.lemmas.List.Elements.{Contains-append_cases, Contains-append_left, Contains-append_right, Contains-get_or}
use Rattle.std.proofs.lemmas.Option.{slice_get_within}
use Rattle.wit_digraph.specs.Cycles.{IsOnCycle}
use Rattle.wit_digraph.specs.facts.MemberFacts.{Contains-flat_map, Contains-flat_map_cases}
use Rattle.wit_digraph.specs.Relation.{IsAcyclic, IsPath, Reaches, direct}
use Rattle.wit_data.specs.Each.{EachAt, SomeAt}
use Rattle.wit_data.specs.Entries.{is_unnamed}
use Rattle.wit_data.specs.Ownership.{IsNamed}
use Rattle.wit_data.specs.Uses.{interface_uses, uses_of}
use Rattle.wit_data.specs.declared.interface.Interface.{Interface}
use Rattle.wit_data.specs.declared.types.TypeDef.{TypeDef}
use Rattle.wit_data.specs.declared.world.World.{World}
use Rattle.wit_elaboration.specs.Entries.{Entry, item_interface, role_of}
use Rattle.wit_elaboration.specs.laws.Imports.{IsImported, roots_of}
use Rattle.wit_elaboration.specs.laws.KeptByElaboration.{ElaboratedEntries}
use Rattle.wit_elaboration.specs.facts.SoundFacts.{lists_in_order}
use Rattle.wit_graph_data.specs.Queries.{entry_interface, other_package, package_interfaces, package_uses, world_interfaces, entry_interfaces}
use Rattle.wit_elaboration.specs.Valid.{IsInTable}
use Rattle.wit_graph_data.specs.declared.graph.Package.{Package}
use Rattle.wit_graph_theory.specs.facts.DependencyFacts.{filter_map_from, filter_map_into}
use Rattle.wit_graph_theory.specs.facts.EntryFacts.{export_named, export_there, import_named, import_there, instance_interface, interface_without_span, key_named, root_interface, root_named}
use Rattle.wit_graph_theory.specs.facts.ListFacts.{found_at, from_row, get_at, in_row, place_of, same_at, some_at}
use Rattle.wit_graph_theory.specs.facts.NamedUses.{used_is_named}
use Rattle.wit_graph_theory.specs.facts.OptionFacts.{some_parts, some_same, some_there, some_whole}
use Rattle.wit_graph_theory.specs.laws.PackageCycles.{AreElaboratedFrom, IsElaboratedFrom, ListsKey}
use Rattle.wit_graph_theory.specs.facts.PackagesAcyclic.{is_there, length-numbered, numbered_from, numbered_into, there_is}
use Rattle.wit_graph_theory.specs.facts.RowFacts.{Reaches-join, Reaches-self, Reaches-use}
use Rattle.wit_graph_data.specs.steps.Parts.{package_needs}

-- ---- the packages of interfaces

-- the package of an interface that is another one is what the interface says
pub other_from : (interfaces : List Interface) (p i q : ℕ) → other_package interfaces p i ≡ Some q → (interface : Interface) × (slice_get interfaces i ≡ Some interface) × (interface.package ≡ Some q) × (q ≡ p → ⊥)
other_from interfaces p i q is =
    let one = some_parts _ (slice_get interfaces i) q is in
    let two = some_parts _ one.0.package q one.2 in
    let both = unless two.0 (two.0 == p) refl two.2 in
    (one.0, one.1, two.1 ∙ ap Some both.0, both.1)
  where
    unless : (r : ℕ) (b : Bool) → (r == p) ≡ b → (if b then None else Some r) ≡ Some q → (r ≡ q) × (q ≡ p → ⊥)
    unless r true test h = cc
    unless r false test h = let same : r ≡ q = cc in (same, λ one. eqb-false r p test (same ∙ one))

pub other_into : (interfaces : List Interface) (p i q : ℕ) (interface : Interface) → slice_get interfaces i ≡ Some interface → interface.package ≡ Some q → (q == p) ≡ false → other_package interfaces p i ≡ Some q
other_into interfaces p i q interface at of apart =
    some_whole (λ (x : Interface). option_and_then (λ r. if r == p then None else Some r) x.package) (slice_get interfaces i) interface q at
    (some_whole (λ r. if r == p then None else Some r) interface.package q q of (ap (λ (b : Bool). if b then None else Some q) apart))

-- an interface that isn't without a name has one
has_name : (interfaces : List Interface) (f : ℕ) (interface : Interface) → slice_get interfaces f ≡ Some interface → is_unnamed interfaces f ≡ false → IsNamed interfaces f
has_name interfaces f interface at unnamed = some_at (λ (x : Interface). IsSome x.name) interfaces f interface at (by interface.name (subst (λ (o : Option Interface). option_map_or (λ (x : Interface). not (is_some x.name)) o false ≡ false) at unnamed))
  where
    by : (o : Option (List ℕ)) → not (is_some o) ≡ false → IsSome o
    by None is = cc
    by (Some name) is = refl

module _ (types : List TypeDef) (interfaces : List Interface) (packages : List Package) (tables : EachAt (IsInTable packages) interfaces) where
  -- the package of an interface, in whose table it stands under its name
  record Home (i : ℕ) (interface : Interface) : Type 0 where
    q : ℕ
    of : interface.package ≡ Some q
    home : Package
    there : slice_get packages q ≡ Some home
    listed : IfSome interface.name (λ name. Contains home.interfaces (name, i))

  home_of : (i : ℕ) (interface : Interface) → slice_get interfaces i ≡ Some interface → Home i interface
  home_of i interface at = by interface.package refl (tables i interface at)
    where
      by : (o : Option ℕ) → interface.package ≡ o → IsSomeAnd o (λ p. SomeAt packages p (λ (home : Package). IfSome interface.name (λ name. Contains home.interfaces (name, i)))) → Home i interface
      by None of h = absurd h
      by (Some q) of h = let found = found_at (λ (home : Package). IfSome interface.name (λ name. Contains home.interfaces (name, i))) packages q h in record { q = q; of = of; home = found.0; there = found.1; listed = found.2 }

  module _ (worlds : List World) where
    abbrev rows : List (List ℕ)
    rows = package_uses types interfaces worlds packages

    abbrev needs_of : ℕ × Package → List ℕ
    needs_of e = package_needs types interfaces worlds e.0 e.1

    -- a row is what the package there needs
    pub row_from : (p q : ℕ) → Contains (direct rows p) q → (home : Package) × (slice_get packages p ≡ Some home) × Contains (package_needs types interfaces worlds p home) q
    row_from p q has =
        let from = from_row needs_of (enumerate_from 0 packages) p q has in
        let numbered = numbered_from 0 packages p from.0 from.1 in
        let place : from.0.0 ≡ p = let is = numbered.0 in omega arith in
        (from.0.1, numbered.1, subst (λ (n : ℕ). Contains (needs_of (n, from.0.1)) q) place from.2)

    pub row_into : (p q : ℕ) (home : Package) → slice_get packages p ≡ Some home → Contains (package_needs types interfaces worlds p home) q → Contains (direct rows p) q
    row_into p q home there has =
        let place : 0 + p ≡ p = omega arith in
        in_row needs_of (enumerate_from 0 packages) p (p, home) q (numbered_into 0 packages p home there ∙ ap (λ (n : ℕ). Some (n, home)) place) has

    -- a package that another depends on is there
    pub used_package : (p q : ℕ) → Contains (direct rows p) q → q < length rows
    used_package p q has =
        let row = row_from p q has in
        let i = filter_map_from (other_package interfaces p) (package_interfaces types interfaces worlds row.0) q row.2 in
        let of = other_from interfaces p i.0 q i.2 in
        let home = home_of i.0 of.0 of.1 in
        let same : home.q ≡ q = some_same home.q q (sym home.of ∙ of.2) in
        let within = slice_get_within packages home.q home.home home.there in
        omega (arith, same, within, length-map (enumerate_from 0 packages) needs_of, length-numbered 0 packages)

    -- where no package that is there is on a cycle, they are acyclic
    pub acyclic_packages : ((p q : ℕ) (home : Package) → slice_get packages p ≡ Some home → IsOnCycle rows p q → ⊥) → IsAcyclic rows
    acyclic_packages none = record {
      in_range = λ p k d inside. used_package p (get_or (direct rows p) k d) (Contains-get_or (direct rows p) k d inside);
      no_cycle = λ p q path leads. let row = row_from p q leads.0 in none p q row.0 row.1 (record { is_used = leads.0; leads_back = (path, leads.1) });
    }

-- ---- before and after

module _ (entries : ElaboratedEntries) (types : List TypeDef) (interfaces : List Interface) (packages : List Package) (listed done : List World) (are : AreElaboratedFrom types interfaces packages listed done) where
  abbrev uses : List (List ℕ)
  uses = uses_of types interfaces

  abbrev old_rows : List (List ℕ)
  old_rows = package_uses types interfaces listed packages

  abbrev new_rows : List (List ℕ)
  new_rows = package_uses types interfaces done packages

  -- what a package names by its interfaces, and by its worlds
  abbrev by_interfaces : List ℕ × ℕ → List ℕ
  by_interfaces e = option_map_or (interface_uses types) (slice_get interfaces e.1) []

  abbrev by_worlds : List World → List ℕ × ℕ → List ℕ
  by_worlds worlds e = option_map_or (world_interfaces types) (slice_get worlds e.1) []

  -- before, package p was that of interface i, or depended on it through whatever others
  record Leads (p i : ℕ) : Type 0 where
    interface : Interface
    at : slice_get interfaces i ≡ Some interface
    q : ℕ
    of : interface.package ≡ Some q
    reaches : Reaches old_rows p q

  leads_named : (p : ℕ) (home : Package) (i : ℕ) (interface : Interface) → slice_get packages p ≡ Some home → Contains (package_interfaces types interfaces listed home) i → slice_get interfaces i ≡ Some interface → Leads p i
  leads_named p home i interface there named at = let h = home_of types interfaces packages are.tables i interface at in by h.q h.of (h.q == p) refl
    where
      by : (q : ℕ) → interface.package ≡ Some q → (b : Bool) → (q == p) ≡ b → Leads p i
      by q of true test = record { interface = interface; at = at; q = q; of = of; reaches = subst (Reaches old_rows p) (sym (eqb-true q p test)) (Reaches-self old_rows p) }
      by q of false test = record {
        interface = interface;
        at = at;
        q = q;
        of = of;
        reaches =
            Reaches-use old_rows p q
            (row_into types interfaces packages are.tables listed p q home there
            (filter_map_into (other_package interfaces p) (package_interfaces types interfaces listed home) i q named (other_into interfaces p i q interface at of test)));
      }

  -- with an interface that has a name it was so of all that this uses
  leads_on : (p i j : ℕ) → Leads p i → IsNamed interfaces i → Contains (direct uses i) j → Leads p j
  leads_on p i j leads named edge =
      let found = found_at (λ (x : Interface). IsSome x.name) interfaces i named in
      let same = same_at interfaces i i found.0 leads.interface refl found.1 leads.at in
      let name = some_there leads.interface.name (subst (λ (x : Interface). IsSome x.name) same found.2) in
      let h = home_of types interfaces packages are.tables i leads.interface leads.at in
      let one : h.q ≡ leads.q = some_same h.q leads.q (sym h.of ∙ leads.of) in
      let row = from_row (interface_uses types) interfaces i j edge in
      let used = found_at (λ (x : Interface). IsSome x.name) interfaces j (used_is_named types interfaces are.aliases i j edge) in
      let in_table = if_some (λ (n : List ℕ). Contains h.home.interfaces (n, i)) leads.interface.name name.0 name.1 h.listed in
      let in_home : Contains (package_interfaces types interfaces listed h.home) j =
      Contains-append_left (flat_map by_interfaces h.home.interfaces) (flat_map (by_worlds listed) h.home.worlds) j
      (Contains-flat_map by_interfaces h.home.interfaces (name.0, i) j in_table
      (is_there (interface_uses types) (slice_get interfaces i) row.0 j row.1 row.2)) in
      let on = leads_named h.q h.home j used.0 h.there in_home used.1 in
      record { interface = on.interface; at = on.at; q = on.q; of = on.of; reaches = Reaches-join old_rows p h.q on.q (subst (Reaches old_rows p) (sym one) leads.reaches) on.reaches }
    where
      if_some : (P : List ℕ → Type 0) (o : Option (List ℕ)) (x : List ℕ) → o ≡ Some x → IfSome o P → P x
      if_some P None x is h = cc
      if_some P (Some y) x is h = let same : y ≡ x = cc in subst P same h

  leads_along : (p i : ℕ) (path : List ℕ) (j : ℕ) → Leads p i → IsNamed interfaces i → IsPath uses i path j → Leads p j
  leads_along p i [] j leads named same = subst (Leads p) same leads
  leads_along p i (k ∷ path) j leads named along = leads_along p k path j (leads_on p i k leads named along.0) (used_is_named types interfaces are.aliases i k along.0) along.1

  -- ---- a world of package p

  module _ (p : ℕ) (home : Package) (there : slice_get packages p ≡ Some home) (e : List ℕ × ℕ) (in_table : Contains home.worlds e) (new : World) (at : slice_get done e.1 ≡ Some new) where
    abbrev from : IsElaboratedFrom types interfaces listed e.1 new
    from = are.worlds e.1 new at

    abbrev old : World
    old = from.old

    in_home : (i : ℕ) → Contains (world_interfaces types old) i → Contains (package_interfaces types interfaces listed home) i
    in_home i named =
        Contains-append_right (flat_map by_interfaces home.interfaces) (flat_map (by_worlds listed) home.worlds) i
        (Contains-flat_map (by_worlds listed) home.worlds e i in_table
        (is_there (world_interfaces types) (slice_get listed e.1) old i from.at named))

    there_named : (i : ℕ) → Contains (world_interfaces types old) i → i < length interfaces
    there_named i named =
        elim (Contains-append_cases (entry_interfaces types old.imports) (entry_interfaces types old.exports) i named) [
          | inl among ↦
              let d = filter_map_from (λ (d : Entry). entry_interface types d.1) old.imports i among in
              let place = place_of old.imports d.0 d.1 in
              import_there types interfaces are.aliases e.1 d.0.0 d.0.1 i (from.imports place.0 d.0 place.1) d.2
          | inr among ↦
              let d = filter_map_from (λ (d : Entry). entry_interface types d.1) old.exports i among in
              let place = place_of old.exports d.0 d.1 in
              export_there interfaces types d.0.0 d.0.1 i (from.exports place.0 d.0 place.1) d.2
        ]

    -- what the listed world names
    listed_leads : (i : ℕ) → Contains (world_interfaces types old) i → Leads p i
    listed_leads i named = let interface = get_at interfaces i (there_named i named) in leads_named p home i interface.0 there (in_home i named) interface.1

    -- what an interface uses that stands in it
    use_leads : (f j : ℕ) → Contains (world_interfaces types old) f → (is_unnamed interfaces f ≡ true → ListsKey old j) → Contains (direct uses f) j → Leads p j
    use_leads f j named lists edge = by (is_unnamed interfaces f) refl
      where
        by : (b : Bool) → is_unnamed interfaces f ≡ b → Leads p j
        by true unnamed = listed_leads j (key_named interfaces types e.1 old from.imports from.exports j (lists unnamed))
        by false unnamed = let interface = get_at interfaces f (there_named f named) in leads_on p f j (listed_leads f named) (has_name interfaces f interface.0 interface.1 unnamed) edge

    imported_leads : (j : ℕ) → IsImported types uses old.imports old.exports j → Leads p j
    imported_leads j (inl need) =
        let d = Contains-flat_map_cases (λ (d : Entry). item_interface d.1) old.exports need.0 need.2 in
        let named = export_named types old d.0 need.0 d.1.0 (instance_interface types d.0.1 need.0 d.1.1) in
        let first = use_leads need.0 need.1 named (λ unnamed. from.lists_uses.exports d.0 need.0 need.1 d.1.0 d.1.1 unnamed need.3) need.3 in
        leads_along p need.1 need.5.0 j first (used_is_named types interfaces are.aliases need.0 need.1 need.3) need.5.1
    imported_leads j (inr reached) =
        let d = Contains-flat_map_cases (λ (d : Entry). roots_of uses d.0 (role_of types d.1)) old.imports reached.0 reached.1 in
        let place = place_of old.imports d.0 d.1.0 in
        let is_named = root_named types interfaces are.aliases e.1 d.0.0 d.0.1 reached.0 (from.imports place.0 d.0 place.1) d.1.1 in
        let root = root_interface types uses d.0.0 d.0.1 reached.0 d.1.1 in
        let names = import_named types old d.0 root.0 d.1.0 root.1 in
        let first : Leads p reached.0 = elim root.2 [
          | inl same ↦ subst (Leads p) same (listed_leads root.0 names)
          | inr user ↦ use_leads root.0 reached.0 names (λ unnamed. from.lists_uses.imports d.0 root.0 reached.0 d.1.0 user.0 unnamed user.1) user.1
        ] in
        leads_along p reached.0 reached.2.0 j first is_named reached.2.1

    -- what the elaborated world names
    new_leads : (i : ℕ) → Contains (world_interfaces types new) i → Leads p i
    new_leads i named =
        let order = lists_in_order types interfaces are.aliases e.1 old from.imports from.exports in
        elim (Contains-append_cases (entry_interfaces types new.imports) (entry_interfaces types new.exports) i named) [
          | inl among ↦
              let d = filter_map_from (λ (d : Entry). entry_interface types d.1) new.imports i among in
              elim ((entries types uses old new d.0 are.uses order from.elaborated).0 d.1) [
                | inl stays ↦ listed_leads i (import_named types old stays.0 i stays.1 (sym (interface_without_span types stays.0.1) ∙ ap (λ (f : Entry). entry_interface types f.1) (sym stays.2) ∙ d.2))
                | inr made ↦ subst (Leads p) (some_same made.1 i (ap (λ (f : Entry). entry_interface types f.1) (sym made.2) ∙ d.2)) (imported_leads made.1 made.4)
              ]
          | inr among ↦
              let d = filter_map_from (λ (d : Entry). entry_interface types d.1) new.exports i among in
              elim ((entries types uses old new d.0 are.uses order from.elaborated).1 d.1) [
                | inl stays ↦ listed_leads i (export_named types old d.0 i stays d.2)
                | inr made ↦
                    subst (Leads p) (some_same made.1 i (ap (λ (f : Entry). entry_interface types f.1) (sym made.2) ∙ d.2))
                    (listed_leads made.1 (key_named interfaces types e.1 old from.imports from.exports made.1 (inr made.3)))
              ]
        ]

  -- ---- packages after

  -- what a package names after, it led to before
  after_leads : (p : ℕ) (home : Package) (i : ℕ) (interface : Interface) → slice_get packages p ≡ Some home → slice_get interfaces i ≡ Some interface → Contains (package_interfaces types interfaces done home) i → Leads p i
  after_leads p home i interface there at named =
      elim (Contains-append_cases (flat_map by_interfaces home.interfaces) (flat_map (by_worlds done) home.worlds) i named) [
        | inl among ↦
            leads_named p home i interface there
            (Contains-append_left (flat_map by_interfaces home.interfaces) (flat_map (by_worlds listed) home.worlds) i among) at
        | inr among ↦
            let e = Contains-flat_map_cases (by_worlds done) home.worlds i among in
            let world = there_is (world_interfaces types) (slice_get done e.0.1) i e.1.1 in
            new_leads p home there e.0 e.1.0 world.0 world.1 i world.2
      ]

  -- a dependency after is one of another package, and had a path before
  dependency : (p q : ℕ) → Contains (direct new_rows p) q → (q ≡ p → ⊥) × Reaches old_rows p q
  dependency p q has =
      let row = row_from types interfaces packages are.tables done p q has in
      let i = filter_map_from (other_package interfaces p) (package_interfaces types interfaces done row.0) q row.2 in
      let of = other_from interfaces p i.0 q i.2 in
      let leads = after_leads p row.0 i.0 of.0 row.1 of.1 i.1 in
      let same = same_at interfaces i.0 i.0 leads.interface of.0 refl leads.at of.1 in
      let one : leads.q ≡ q = some_same leads.q q (sym leads.of ∙ ap (λ (x : Interface). x.package) same ∙ of.2) in
      (of.3, subst (Reaches old_rows p) one leads.reaches)

  path_before : (p : ℕ) (path : List ℕ) (q : ℕ) → IsPath new_rows p path q → Reaches old_rows p q
  path_before p [] q same = subst (Reaches old_rows p) same (Reaches-self old_rows p)
  path_before p (k ∷ path) q leads = Reaches-join old_rows p k q (dependency p k leads.0).1 (path_before k path q leads.1)

  pub packages_stay_acyclic : IsAcyclic old_rows → IsAcyclic new_rows
  packages_stay_acyclic acyclic = acyclic_packages types interfaces packages are.tables done (λ p q home there on. no_cycle p q on)
    where
      no_cycle : (p q : ℕ) → IsOnCycle new_rows p q → ⊥
      no_cycle p q on =
          let first = dependency p q on.is_used in
          let back = path_before q on.leads_back.0 p on.leads_back.1 in
          by first.1.0 first.1.1 back
        where
          by : (path : List ℕ) → IsPath old_rows p path q → Reaches old_rows q p → ⊥
          by [] same back = (dependency p q on.is_used).0 (sym same)
          by (k ∷ path) leads back = let rest = Reaches-join old_rows k q p (path, leads.1) back in acyclic.no_cycle p k rest.0 (leads.0, rest.1)
