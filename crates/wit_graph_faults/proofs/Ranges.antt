-- What types refer to and packages depend on is there.
use Rattle.std.proofs.Common.{◌≡◌, ◌∙◌, ℕ, ◌<◌, ◌≤◌, ◌⊎◌, inl, inr, Bool, true, false, List, [], ◌∷◌, length, get_or, filter_map, Option, option_map, Some, None, option_and_then, slice_get, refl, ap, sym, subst, arith, Contains, if◌then◌else◌, ◌==◌}
use Rattle.std.specs.Prelude.{IsSomeAnd, IfSome}
use Rattle.std.specs.List.{cons_option, enumerate_from}
use Rattle.std.proofs.lemmas.List.{length-map, get_or_past}
use Rattle.std.proofs.lemmas.List.Elements.{Contains-get_or}
use Rattle.std.proofs.lemmas.List.FromFn.{length-enumerate_from}
use Rattle.std.proofs.lemmas.Option.{get_or_from_slice_get, slice_get-get_or, slice_get-map, slice_get_within}
use Rattle.wit_digraph.specs.facts.MemberFacts.{Contains-cons_cases, Contains-nil}
use Rattle.wit_digraph.specs.Relation.{IsInRange, direct}
use Rattle.wit_data.specs.Each.{Each, EachAt, SomeAt}
use Rattle.wit_data.specs.facts.EachFacts.{SomeAt-is}
use Rattle.wit_data.specs.facts.ReferenceFacts.{length-references, references_at}
use Rattle.wit_data.specs.Kind.{referred, type_references}
use Rattle.wit_data.specs.declared.interface.Interface.{Interface}
use Rattle.wit_data.specs.declared.types.TypeDef.{TypeDef}
use Rattle.wit_data.specs.declared.world.World.{World}
use Rattle.wit_elaboration.specs.Valid.{IsInTable}
use Rattle.wit_graph_data.specs.Queries.{other_package, package_interfaces, package_uses}
use Rattle.wit_graph_data.specs.declared.graph.Package.{Package}
use Rattle.wit_graph_faults.specs.Faults.{RefersToThere}

-- nothing stands past the end
past_end : {X : Type 0} (xs : List X) (i : ℕ) → slice_get xs i ≡ None → length xs ≤ i
past_end {X} xs i none =
    elim (below_or i (length xs)) [
      | inl within ↦ some_there within
      | inr past ↦ past
    ]
  where
    below_or : (a b : ℕ) → (a < b) ⊎ (b ≤ a)
    below_or a b = grind arith

    some_there : i < length xs → length xs ≤ i
    some_there within = by xs none within
      where
        by : (ys : List X) → slice_get ys i ≡ None → i < length ys → length xs ≤ i
        by [] at less = absurd (omega arith)
        by (y ∷ ys) at less = let some = slice_get-get_or (y ∷ ys) i y less in cc

-- ---- types

-- where ids are in range, the types that a type refers to are there
pub references_there : (types : List TypeDef) → IsInRange (type_references types) → Each (RefersToThere types) types
references_there types ranged i def at k id on =
    let row : direct (type_references types) i ≡ referred def.kind = references_at types i def at in
    let there : slice_get (direct (type_references types) i) k ≡ Some id = subst (λ (l : List ℕ). slice_get l k ≡ Some id) (sym row) on in
    let within : k < length (direct (type_references types) i) = slice_get_within (direct (type_references types) i) k id there in
    let is : get_or (direct (type_references types) i) k id ≡ id = get_or_from_slice_get (direct (type_references types) i) k id id there in
    let less : get_or (direct (type_references types) i) k id < length (type_references types) = ranged i k id within in
    let long = length-references types in
    omega arith

-- and the other way round
pub references_in_range : (types : List TypeDef) → Each (RefersToThere types) types → IsInRange (type_references types)
references_in_range types there i k d below = by (slice_get types i) refl
  where
    by : (o : Option TypeDef) → slice_get types i ≡ o → get_or (direct (type_references types) i) k d < length (type_references types)
    by None at =
        let long = length-references types in
        let past = past_end types i at in
        let empty : direct (type_references types) i ≡ [] = get_or_past (type_references types) i [] (omega arith) in
        let none : length (direct (type_references types) i) ≡ 0 = ap length empty in
        absurd (omega arith)
    by (Some def) at =
        let row : direct (type_references types) i ≡ referred def.kind = references_at types i def at in
        let on : slice_get (referred def.kind) k ≡ Some (get_or (direct (type_references types) i) k d) =
        subst (λ (l : List ℕ). slice_get l k ≡ Some (get_or (direct (type_references types) i) k d)) row (slice_get-get_or (direct (type_references types) i) k d below) in
        let less = there i def at k (get_or (direct (type_references types) i) k d) on in
        let long = length-references types in
        omega arith

-- ---- packages

-- what a filtering map gives comes of an element
given_by : (f : ℕ → Option ℕ) (xs : List ℕ) (y : ℕ) → Contains (filter_map f xs) y → (x : ℕ) × (f x ≡ Some y)
given_by f [] y has = absurd (Contains-nil has)
given_by f (x ∷ xs) y has = by (f x) refl has (λ there. given_by f xs y there)
  where
    by : (o : Option ℕ) → f x ≡ o → Contains (cons_option o (filter_map f xs)) y → (Contains (filter_map f xs) y → (z : ℕ) × (f z ≡ Some y)) → (z : ℕ) × (f z ≡ Some y)
    by None is among more = more among
    by (Some z) is among more = elim (Contains-cons_cases z y (filter_map f xs) among) [ inl same ↦ (x, is ∙ ap Some same) | inr there ↦ more there ]

module _ (packages : List Package) (interfaces : List Interface) (tables : EachAt (IsInTable packages) interfaces) where
  -- the package of an interface is there
  home_there : (i q : ℕ) (interface : Interface) → slice_get interfaces i ≡ Some interface → interface.package ≡ Some q → q < length packages
  home_there i q interface at of =
      let here = subst (λ (o : Option ℕ). IsSomeAnd o (λ p. SomeAt packages p (λ (home : Package). IfSome interface.name (λ name. Contains home.interfaces (name, i))))) of (tables i interface at) in
      let home = SomeAt-is (λ (home : Package). IfSome interface.name (λ name. Contains home.interfaces (name, i))) packages q here in
      slice_get_within packages q home.0 home.1

  other_there : (p i q : ℕ) → other_package interfaces p i ≡ Some q → q < length packages
  other_there p i q is = by (slice_get interfaces i) refl is
    where
      by : (o : Option Interface) → slice_get interfaces i ≡ o
          → option_and_then (λ (interface : Interface). option_and_then (λ r. if r == p then None else Some r) interface.package) o ≡ Some q → q < length packages
      by None at found = cc
      by (Some interface) at found = of interface.package refl found
        where
          of : (o : Option ℕ) → interface.package ≡ o → option_and_then (λ r. if r == p then None else Some r) o ≡ Some q → q < length packages
          of None none found = cc
          of (Some r) named found = subst (λ (n : ℕ). n < length packages) (unless (r == p) found) (home_there i r interface at named)
            where
              unless : (b : Bool) → (if b then None else Some r) ≡ Some q → r ≡ q
              unless true h = cc
              unless false h = cc

  module _ (types : List TypeDef) (worlds : List World) where
    abbrev rows : List (List ℕ)
    rows = package_uses types interfaces worlds packages

    abbrev row_of : ℕ × Package → List ℕ
    row_of e = filter_map (other_package interfaces e.0) (package_interfaces types interfaces worlds e.1)

    row_is : (p : ℕ) → slice_get rows p ≡ option_map row_of (slice_get (enumerate_from 0 packages) p)
    row_is p = slice_get-map row_of (enumerate_from 0 packages) p

    pub packages_in_range : IsInRange rows
    packages_in_range p k d below = by (slice_get (enumerate_from 0 packages) p) refl
      where
        by : (o : Option (ℕ × Package)) → slice_get (enumerate_from 0 packages) p ≡ o → get_or (direct rows p) k d < length rows
        by None at =
            let none : slice_get rows p ≡ None = row_is p ∙ ap (option_map row_of) at in
            let empty : direct rows p ≡ [] = get_or_past rows p [] (past_end rows p none) in
            let nothing : length (direct rows p) ≡ 0 = ap length empty in
            absurd (omega arith)
        by (Some e) at =
            let row : direct rows p ≡ row_of e = get_or_from_slice_get rows p (row_of e) [] (row_is p ∙ ap (option_map row_of) at) in
            let from = given_by (other_package interfaces e.0) (package_interfaces types interfaces worlds e.1) (get_or (direct rows p) k d)
            (subst (λ (l : List ℕ). Contains l (get_or (direct rows p) k d)) row (Contains-get_or (direct rows p) k d below)) in
            let there = other_there e.0 from.0 (get_or (direct rows p) k d) from.1 in
            let long = length-map (enumerate_from 0 packages) row_of in
            let same = length-enumerate_from 0 packages in
            omega arith
