-- Entries of which none is of an earlier class than the one before it are sorted by class.
use Rattle.std.proofs.Common.{◌≡◌, ℕ, suc, ◌<◌, ◌≤◌, List, [], ◌∷◌, ◌++◌, refl, sym, ap, subst, ◌∙◌, arith, eqb, nat_eq, true, rules}
use Rattle.std.proofs.lemmas.Bool.{ne_eqb}
use Rattle.wit_data.specs.declared.types.TypeDef.{TypeDef}
use Rattle.wit_elaboration.specs.Entries.{Entry, Role, Instance, TypeUse, TypeDefinition, FreeFunction, ResourceFunction, role_of, elaboration_class, by_class}
use Rattle.wit_elaboration.specs.facts.Filters.{filter-pass, filter-fail}
use Rattle.wit_elaboration.specs.steps.Parts.{of_class}

module _ (types : List TypeDef) where
  -- the entries go on after one of this class
  abbrev pub Rises : ℕ → List Entry → Type 0
  Rises c [] = Unit {0}
  Rises c (e ∷ es) =
      (c ≤ elaboration_class (role_of types e.1)) × Rises (elaboration_class (role_of types e.1)) es

  -- where the entries that are left go on, all do
  pub record RisesOn (c : ℕ) (left all : List Entry) : Type 0 where
    pub whole : Rises c left → Rises 0 all

  pub rises-start : {left all : List Entry} → left ≡ all → RisesOn 0 left all
  rises-start {left} is = subst (λ (es : List Entry). RisesOn 0 left es) is (record { whole = λ rises. rises })

  pub rises-more : {c : ℕ} {left others all : List Entry} {e : Entry} → left ≡ e ∷ others → RisesOn c left all → c ≤ elaboration_class (role_of types e.1) → RisesOn (elaboration_class (role_of types e.1)) others all
  rises-more {c} first on after = record { whole = λ rises. on.whole (subst (λ (es : List Entry). Rises c es) (sym first) (after, rises)) }

  below : (c : ℕ) (es : List Entry) → Rises c es → (k : ℕ) → k < c → of_class types k es ≡ []
  below c [] rises k less = refl
  below c (e ∷ es) rises k less =
      filter-fail (λ (f : Entry). nat_eq (elaboration_class (role_of types f.1)) k) e es (ne_eqb (elaboration_class (role_of types e.1)) k (λ same. absurd (omega (arith, rises.0))))
      ∙ below (elaboration_class (role_of types e.1)) es rises.1 k (omega (arith, rises.0))

  abbrev joined : List Entry → List Entry → List Entry → List Entry → List Entry → List Entry
  joined a b c d e = a ++ (b ++ (c ++ (d ++ (e ++ []))))

  five : {a a' b b' c c' d d' e e' : List Entry} → a ≡ a' → b ≡ b' → c ≡ c' → d ≡ d' → e ≡ e' → joined a b c d e ≡ joined a' b' c' d' e'
  five p q r s t = cc

  as_it_is : (es : List Entry) (k : ℕ) → of_class types k es ≡ of_class types k es
  as_it_is es k = refl

  module _ (e : Entry) (es : List Entry) (lower : (k : ℕ) → k < elaboration_class (role_of types e.1) → of_class types k es ≡ []) (rest : by_class types es ≡ es) where
    pass : (c : ℕ) → elaboration_class (role_of types e.1) ≡ c → of_class types c (e ∷ es) ≡ e ∷ of_class types c es
    pass c is = filter-pass (λ (f : Entry). nat_eq (elaboration_class (role_of types f.1)) c) e es (subst (λ (n : ℕ). eqb n c ≡ true) (sym is) (self c))
      where
        self : (n : ℕ) → eqb n n ≡ true
        self n = search rules

    other : (k c : ℕ) → elaboration_class (role_of types e.1) ≡ c → (k ≡ c → ⊥) → of_class types k (e ∷ es) ≡ of_class types k es
    other k c is apart = filter-fail (λ (f : Entry). nat_eq (elaboration_class (role_of types f.1)) k) e es (ne_eqb (elaboration_class (role_of types e.1)) k (λ same. apart (sym same ∙ is)))

    none : (k c : ℕ) → elaboration_class (role_of types e.1) ≡ c → k < c → of_class types k es ≡ []
    none k c is less = lower k (omega (arith, is, less))

    first : (role : Role) → role_of types e.1 ≡ role → by_class types (e ∷ es) ≡ e ∷ es
    first (Instance i) is =
        let at : elaboration_class (role_of types e.1) ≡ 0 = ap elaboration_class is in
        five (pass 0 at) (other 1 0 at (λ s. cc)) (other 2 0 at (λ s. cc)) (other 3 0 at (λ s. cc)) (other 4 0 at (λ s. cc))
        ∙ ap (λ (l : List Entry). e ∷ l) rest
    first (TypeUse i) is =
        let at : elaboration_class (role_of types e.1) ≡ 1 = ap elaboration_class is in
        five (other 0 1 at (λ s. cc) ∙ none 0 1 at (omega arith)) (pass 1 at) (other 2 1 at (λ s. cc)) (other 3 1 at (λ s. cc)) (other 4 1 at (λ s. cc))
        ∙ ap (λ (l : List Entry). e ∷ l) (sym (five (none 0 1 at (omega arith)) (as_it_is es 1) (as_it_is es 2) (as_it_is es 3) (as_it_is es 4)) ∙ rest)
    first TypeDefinition is =
        let at : elaboration_class (role_of types e.1) ≡ 2 = ap elaboration_class is in
        five (other 0 2 at (λ s. cc) ∙ none 0 2 at (omega arith)) (other 1 2 at (λ s. cc) ∙ none 1 2 at (omega arith)) (pass 2 at) (other 3 2 at (λ s. cc)) (other 4 2 at (λ s. cc))
        ∙ ap (λ (l : List Entry). e ∷ l) (sym (five (none 0 2 at (omega arith)) (none 1 2 at (omega arith)) (as_it_is es 2) (as_it_is es 3) (as_it_is es 4)) ∙ rest)
    first FreeFunction is =
        let at : elaboration_class (role_of types e.1) ≡ 3 = ap elaboration_class is in
        five (other 0 3 at (λ s. cc) ∙ none 0 3 at (omega arith)) (other 1 3 at (λ s. cc) ∙ none 1 3 at (omega arith)) (other 2 3 at (λ s. cc) ∙ none 2 3 at (omega arith)) (pass 3 at) (other 4 3 at (λ s. cc))
        ∙ ap (λ (l : List Entry). e ∷ l) (sym (five (none 0 3 at (omega arith)) (none 1 3 at (omega arith)) (none 2 3 at (omega arith)) (as_it_is es 3) (as_it_is es 4)) ∙ rest)
    first ResourceFunction is =
        let at : elaboration_class (role_of types e.1) ≡ 4 = ap elaboration_class is in
        five (other 0 4 at (λ s. cc) ∙ none 0 4 at (omega arith)) (other 1 4 at (λ s. cc) ∙ none 1 4 at (omega arith)) (other 2 4 at (λ s. cc) ∙ none 2 4 at (omega arith)) (other 3 4 at (λ s. cc) ∙ none 3 4 at (omega arith)) (pass 4 at)
        ∙ ap (λ (l : List Entry). e ∷ l) (sym (five (none 0 4 at (omega arith)) (none 1 4 at (omega arith)) (none 2 4 at (omega arith)) (none 3 4 at (omega arith)) (as_it_is es 4)) ∙ rest)

  sorted : (c : ℕ) (es : List Entry) → Rises c es → by_class types es ≡ es
  sorted c [] rises = refl
  sorted c (e ∷ es) rises = first e es (below (elaboration_class (role_of types e.1)) es rises.1) (sorted (elaboration_class (role_of types e.1)) es rises.1) (role_of types e.1) refl

  -- none is left
  pub rises-all : {c : ℕ} {left all : List Entry} → left ≡ [] → RisesOn c left all → by_class types all ≡ all
  rises-all {c} {left} {all} none on = sorted 0 all (on.whole (subst (λ (es : List Entry). Rises c es) (sym none) tt))
