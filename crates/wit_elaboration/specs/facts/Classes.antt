-- Entries by class: their keys and their order.
use Rattle.std.proofs.Common.{◌≡◌, ℕ, suc, ◌<◌, true, cond, inl, inr, List, [], ◌∷◌, ◌++◌, append_assoc, refl, sym, ap, subst, ◌∙◌, arith, eqb, nat_eq, rules, Contains, All}
use Rattle.std.specs.List.{flat_map}
use Rattle.std.specs.Map.{keys_of}
use Rattle.std.proofs.lemmas.List.{append-nil}
use Rattle.std.proofs.lemmas.Bool.{eqb-true, eqb-false, ne_eqb, cases_Bool, cases_eq, cond-true, cond-false}
use Rattle.std.proofs.lemmas.List.Elements.{Contains-append_cases, Contains-append_left, Contains-append_right, All-contains, Contains-get_or, filter-append}
use Rattle.wit_data.specs.declared.types.TypeDef.{TypeDef}
use Rattle.wit_data.specs.declared.world.WorldKey.{WorldKey}
use Rattle.wit_data.specs.declared.world.WorldKey.TheVariants.{Name, Interface}
use Rattle.wit_digraph.specs.facts.MemberFacts.{Contains-nil, Contains-here, Contains-there, Contains-cons_cases, Contains-flat_map, Contains-flat_map_cases}
use Rattle.wit_elaboration.specs.Entries.{Entry, Role, Instance, TypeUse, TypeDefinition, FreeFunction, ResourceFunction, role_of, elaboration_class, by_class, key_interface, keyed_interfaces}
use Rattle.wit_elaboration.specs.laws.ElaborationLaws.{stands_on, DependenciesFirst}
use Rattle.wit_elaboration.specs.facts.Filters.{Contains-filter, Contains-filtered, filter-all, filter-none, filter-pass, filter-fail}
use Rattle.wit_elaboration.specs.facts.FreshEntries.{AllNew, AllNew-append, AllNew-over, AllNew-filter, AllNew-one, Contains-keys}
use Rattle.wit_elaboration.specs.facts.Order.{AreOwn, DependenciesFirst-append}
use Rattle.wit_elaboration.specs.steps.Parts.{of_class}

module _ (types : List TypeDef) where
  five : {A B : Type 0} (f : A → A → A → A → A → B) {a a' b b' c c' d d' e e' : A} → a ≡ a' → b ≡ b' → c ≡ c' → d ≡ d' → e ≡ e' → f a b c d e ≡ f a' b' c' d' e'
  five f p q r s t = cc

  eqb_self : (n : ℕ) → eqb n n ≡ true
  eqb_self n = search rules

  of_class-in : (c : ℕ) (es : List Entry) (e : Entry) → Contains (of_class types c es) e → Contains es e × (elaboration_class (role_of types e.1) ≡ c)
  of_class-in c es e has = let part = Contains-filter (λ (e : Entry). nat_eq (elaboration_class (role_of types e.1)) c) es e has in (part.0, eqb-true (elaboration_class (role_of types e.1)) c part.1)

  -- entries of the first classes of a list
  pub record UpTo (es : List Entry) (c : ℕ) (some : List Entry) : Type 0 where
    pub new : AllNew [] some
    pub among : (e : Entry) → Contains some e
        → Contains es e × (elaboration_class (role_of types e.1) < c)

  pub UpTo-more : (es some : List Entry) (c : ℕ) → AllNew [] es → UpTo es c some → UpTo es (suc c) (some ++ of_class types c es)
  UpTo-more es some c new is = record {
    new = AllNew-append some (of_class types c es) [] is.new
        (AllNew-over (of_class types c es) [] (keys_of some) (AllNew-filter (λ (e : Entry). nat_eq (elaboration_class (role_of types e.1)) c) es [] [] (λ k had. had) new)
        (λ k had. let part = Contains-keys some k had in inr (λ f has same.
        let old = is.among part.0 part.1.0 in
        let own = of_class-in c es f has in
        let one = AllNew-one es [] part.0 f new old.0 own.0 (part.1.1 ∙ sym same) in
        absurd (omega (arith, old.1, own.1, ap (λ (z : Entry). elaboration_class (role_of types z.1)) one)))));
    among = λ e has. elim (Contains-append_cases some (of_class types c es) e has)
        [ inl old ↦ let part = is.among e old in (part.0, omega (arith, part.1)) | inr own ↦ let part = of_class-in c es e own in (part.0, omega (arith, part.1)) ];
  }

  by_class_is : (es : List Entry) → by_class types es ≡ (((([] ++ of_class types 0 es) ++ of_class types 1 es) ++ of_class types 2 es) ++ of_class types 3 es) ++ of_class types 4 es
  by_class_is es = simp (append_assoc, append-nil)

  pub by_class-new : (es : List Entry) → AllNew [] es → UpTo es 5 (by_class types es)
  by_class-new es new =
      rw (by_class_is es) (UpTo-more es _ 4 new (UpTo-more es _ 3 new (UpTo-more es _ 2 new (UpTo-more es _ 1 new (UpTo-more es [] 0 new (record { new = tt; among = λ e has. absurd (Contains-nil has) }))))))

  of_class-same : (c : ℕ) (es : List Entry) → of_class types c (of_class types c es) ≡ of_class types c es
  of_class-same c es = filter-all (λ (e : Entry). nat_eq (elaboration_class (role_of types e.1)) c) (of_class types c es) (λ e has. (Contains-filter (λ (e : Entry). nat_eq (elaboration_class (role_of types e.1)) c) es e has).1)

  of_class-other : (c d : ℕ) (es : List Entry) → (d ≡ c → ⊥) → of_class types c (of_class types d es) ≡ []
  of_class-other c d es apart = filter-none (λ (e : Entry). nat_eq (elaboration_class (role_of types e.1)) c) (of_class types d es)
      (λ e has. ne_eqb (elaboration_class (role_of types e.1)) c (λ same. apart (sym (of_class-in d es e has).1 ∙ same)))

  of_class-part : (c d : ℕ) (es : List Entry) → of_class types c (of_class types d es) ≡ cond (eqb d c) (of_class types c es) []
  of_class-part c d es =
      elim (cases_eq d c) [
        | inl same ↦ rw (cond-true (eqb d c) (of_class types c es) [] (subst (λ x. eqb d x ≡ true) same (eqb_self d)), same) (of_class-same c es)
        | inr apart ↦ rw (cond-false (eqb d c) (of_class types c es) [] (ne_eqb d c apart)) (of_class-other c d es apart)
      ]

  of_class-classes : (c : ℕ) (ds : List ℕ) (es : List Entry) → of_class types c (flat_map (λ d. of_class types d es) ds) ≡ flat_map (λ d. cond (eqb d c) (of_class types c es) []) ds
  of_class-classes c [] es = refl
  of_class-classes c (d ∷ ds) es =
      filter-append (λ (e : Entry). nat_eq (elaboration_class (role_of types e.1)) c) (of_class types d es) (flat_map (λ d. of_class types d es) ds)
      ∙ rw (of_class-part c d es, of_class-classes c ds es) refl

  -- sorting again changes nothing
  pub by_class-by_class : (es : List Entry) → by_class types (by_class types es) ≡ by_class types es
  by_class-by_class es =
      let p0 : of_class types 0 (by_class types es) ≡ of_class types 0 es = of_class-classes 0 (0 ∷ 1 ∷ 2 ∷ 3 ∷ 4 ∷ []) es ∙ append-nil (of_class types 0 es) in
      let p1 : of_class types 1 (by_class types es) ≡ of_class types 1 es = of_class-classes 1 (0 ∷ 1 ∷ 2 ∷ 3 ∷ 4 ∷ []) es ∙ append-nil (of_class types 1 es) in
      let p2 : of_class types 2 (by_class types es) ≡ of_class types 2 es = of_class-classes 2 (0 ∷ 1 ∷ 2 ∷ 3 ∷ 4 ∷ []) es ∙ append-nil (of_class types 2 es) in
      let p3 : of_class types 3 (by_class types es) ≡ of_class types 3 es = of_class-classes 3 (0 ∷ 1 ∷ 2 ∷ 3 ∷ 4 ∷ []) es ∙ append-nil (of_class types 3 es) in
      let p4 : of_class types 4 (by_class types es) ≡ of_class types 4 es = of_class-classes 4 (0 ∷ 1 ∷ 2 ∷ 3 ∷ 4 ∷ []) es ∙ append-nil (of_class types 4 es) in
      let join : (a b c d e : List Entry) → List Entry = λ a b c d e. a ++ (b ++ (c ++ (d ++ (e ++ [])))) in
      five join p0 p1 p2 p3 p4

  -- ---- dependencies first, by class

  own_class : (e : Entry) (j : ℕ) → ((i : ℕ) → e.0 ≡ Interface i → (role_of types e.1) ≡ Instance i) → Contains (key_interface e.0) j → elaboration_class (role_of types e.1) ≡ 0
  own_class e j own has = of_key e.0 refl has
    where
      of_key : (k : WorldKey) → e.0 ≡ k → Contains (key_interface k) j → elaboration_class (role_of types e.1) ≡ 0
      of_key (Name n) is has = absurd (Contains-nil has)
      of_key (Interface i) is has = ap elaboration_class (own i is)

  pub DependenciesFirst-instances : (uses : List (List ℕ)) (es : List Entry) (seen more : List ℕ) → ((j : ℕ) → Contains seen j → Contains more j) → AreOwn types es → DependenciesFirst types uses seen es → DependenciesFirst types uses more (of_class types 0 es)
  DependenciesFirst-instances uses [] seen more wider own df = tt
  DependenciesFirst-instances uses (e ∷ es) seen more wider own df =
      elim (cases_Bool (nat_eq (elaboration_class (role_of types e.1)) 0)) [
        | inl kept ↦ rw (filter-pass (λ (e : Entry). nat_eq (elaboration_class (role_of types e.1)) 0) e es kept) (
          (λ k d below. wider _ (df.0 k d below)),
          DependenciesFirst-instances uses es (seen ++ key_interface e.0) (more ++ key_interface e.0) (λ j has. elim (Contains-append_cases seen (key_interface e.0) j has)
              [ inl old ↦ Contains-append_left more (key_interface e.0) j (wider j old) | inr new ↦ Contains-append_right more (key_interface e.0) j new ]) (λ f i has. own f i (Contains-there e f es has)) df.1,
        )
        | inr left ↦ rw (filter-fail (λ (e : Entry). nat_eq (elaboration_class (role_of types e.1)) 0) e es left)
            (DependenciesFirst-instances uses es (seen ++ key_interface e.0) more (λ j has. elim (Contains-append_cases seen (key_interface e.0) j has) [
              | inl old ↦ wider j old
              | inr new ↦ absurd (eqb-false (elaboration_class (role_of types e.1)) 0 left (own_class e j (λ i. own e i (Contains-here e es)) new))
            ]) (λ f i has. own f i (Contains-there e f es has)) df.1)
      ]

  pub keyed_interfaces-instances : (es : List Entry) → AreOwn types es → (j : ℕ) → Contains (keyed_interfaces es) j → Contains (keyed_interfaces (of_class types 0 es)) j
  keyed_interfaces-instances es own j has =
      let part = Contains-flat_map_cases (λ (e : Entry). key_interface e.0) es j has in
      let zeroth = own_class part.0 j (λ i. own part.0 i part.1.0) part.1.1 in
      Contains-flat_map (λ (e : Entry). key_interface e.0) (of_class types 0 es) part.0 j (Contains-filtered (λ (e : Entry). nat_eq (elaboration_class (role_of types e.1)) 0) es part.0 part.1.0 (rw zeroth refl)) part.1.1

  -- what an entry stands on is among the interfaces of its list
  pub DependenciesFirst-stands : (uses : List (List ℕ)) (es : List Entry) (seen : List ℕ) (e : Entry) (j : ℕ) → DependenciesFirst types uses seen es → Contains es e → Contains (stands_on uses (role_of types e.1)) j → Contains (seen ++ keyed_interfaces es) j
  DependenciesFirst-stands uses [] seen e j df has on = absurd (Contains-nil has)
  DependenciesFirst-stands uses (x ∷ es) seen e j df has on =
      elim (Contains-cons_cases x e es has) [
        | inl same ↦ Contains-append_left seen _ j (All-contains (Contains seen) (stands_on uses (role_of types x.1)) j df.0 (subst (λ (z : Entry). Contains (stands_on uses (role_of types z.1)) j) (sym same) on))
        | inr there ↦ rw (append_assoc seen (key_interface x.0) (keyed_interfaces es)) at (DependenciesFirst-stands uses es (seen ++ key_interface x.0) e j df.1 there on)
      ]

  pub DependenciesFirst-static : (uses : List (List ℕ)) (es : List Entry) (seen : List ℕ) → ((e : Entry) → Contains es e → All (Contains seen) (stands_on uses (role_of types e.1))) → DependenciesFirst types uses seen es
  DependenciesFirst-static uses [] seen each = tt
  DependenciesFirst-static uses (e ∷ es) seen each = (
    each e (Contains-here e es),
    DependenciesFirst-static uses es (seen ++ key_interface e.0) (λ f has k d below. Contains-append_left seen (key_interface e.0) _ (each f (Contains-there e f es has) k d below)),
  )

  pub DependenciesFirst-by_class : (uses : List (List ℕ)) (es : List Entry) → AreOwn types es → DependenciesFirst types uses [] es → DependenciesFirst types uses [] (by_class types es)
  DependenciesFirst-by_class uses es own df =
      let rest : List Entry = flat_map (λ c. of_class types c es) (1 ∷ 2 ∷ 3 ∷ 4 ∷ []) in
      DependenciesFirst-append types uses (of_class types 0 es) rest [] (DependenciesFirst-instances uses es [] [] (λ j has. has) own df)
      (DependenciesFirst-static uses rest (keyed_interfaces (of_class types 0 es)) (λ e has k d below.
      let part = Contains-flat_map_cases (λ c. of_class types c es) (1 ∷ 2 ∷ 3 ∷ 4 ∷ []) e has in
      keyed_interfaces-instances es own _ (DependenciesFirst-stands uses es [] e _ df (of_class-in part.0 es e part.1.1).0 (Contains-get_or (stands_on uses (role_of types e.1)) k d below))))

  -- an entry is in its class
  class_among : (role : Role) → Contains (0 ∷ 1 ∷ 2 ∷ 3 ∷ 4 ∷ []) (elaboration_class role)
  class_among (Instance i) = (0, omega arith, refl)
  class_among (TypeUse i) = (1, omega arith, refl)
  class_among TypeDefinition = (2, omega arith, refl)
  class_among FreeFunction = (3, omega arith, refl)
  class_among ResourceFunction = (4, omega arith, refl)

  pub in_by_class : (es : List Entry) (e : Entry) → Contains es e → Contains (by_class types es) e
  in_by_class es e has =
      let class : ℕ = elaboration_class (role_of types e.1) in
      Contains-flat_map (λ c. of_class types c es) (0 ∷ 1 ∷ 2 ∷ 3 ∷ 4 ∷ []) class e (class_among (role_of types e.1)) (Contains-filtered (λ (f : Entry). nat_eq (elaboration_class (role_of types f.1)) class) es e has (eqb_self class))

  pub by_class_in : (es : List Entry) (e : Entry) → Contains (by_class types es) e → Contains es e
  by_class_in es e has =
      let part = Contains-flat_map_cases (λ c. of_class types c es) (0 ∷ 1 ∷ 2 ∷ 3 ∷ 4 ∷ []) e has in
      (of_class-in part.0 es e part.1.1).0
