-- The steps of searches for the first package that lacks its shape.
use Rattle.std.proofs.Common.{◌≡◌, ◌∙◌, ◌+◌, ℕ, List, false, Option, None, Some, Result, Ok, Err, slice_get, is_some, refl, sym, ap, subst, inr}
use Rattle.std.specs.Prelude.{◌↔◌, IfOk, IsNone}
use Rattle.wit_data.specs.Each.{Each}
use Rattle.wit_data.specs.Shape.{IsGroupShaped, IsShaped}
use Rattle.wit_data.specs.declared.unresolved.UnresolvedPackage.{UnresolvedPackage}
use Rattle.wit_data.specs.declared.unresolved.UnresolvedPackageGroup.{UnresolvedPackageGroup}
use Rattle.wit_data.specs.facts.EachFacts.{EachBelow, SomeAt-is, SomeAt-of, one_more}
use Rattle.wit_shape.specs.Faults.{IsFirstFault}
use Rattle.wit_shape.specs.First.{IsFirstWithout}
use Rattle.wit_shape.specs.declared.fault.ShapeFault.{ShapeFault}
use Rattle.wit_commands.specs.declared.change.Change.{Change}
use Rattle.wit_json_commands.specs.declared.replies.unshaped.Unshaped.{Unshaped}
use Rattle.wit_json_commands.specs.declared.replies.answers.Answer.TheVariants as answer
use Rattle.wit_json_commands.specs.Runs.{CarriesOut}
use Rattle.wit_json_commands.specs.Unshaped.{IsChangeShaped, IsGroupFault, IsPushFault}
use Rattle.wit_json_commands.specs.steps.Searching.{IsAmongDeps, TellsChange, TellsDeps, TellsGroup, TellsNested, TellsPush}
use Rattle.wit_resolve_graph.specs.State.{State}

-- what `find_shape_fault` ensures of a package
abbrev pub FindsNone : UnresolvedPackage → Option ShapeFault → Type 0
FindsNone p found = IsNone found ↔ IsShaped p

abbrev pub FindsSome : UnresolvedPackage → Option ShapeFault → Type 0
FindsSome p found = (fault : ShapeFault) → (found ≡ Some fault) ↔ IsFirstFault p fault

is_none : {A : Type 0} {found : Option A} → found ≡ None → IsNone found
is_none {A} {found} is = ap is_some is

-- a package that has a fault lacks its shape
lacks : (p : UnresolvedPackage) {found : Option ShapeFault} {fault : ShapeFault} → FindsNone p found → found ≡ Some fault → IsShaped p → ⊥
lacks p {found} {fault} none is shaped = no (ap is_some (sym is) ∙ none.1 shaped)
  where
    no : is_some (Some fault) ≡ false → ⊥
    no h = cc

-- a package without a fault has its shape
pub has_shape : (p : UnresolvedPackage) {found : Option ShapeFault} → FindsNone p found → found ≡ None → IsShaped p
has_shape p none is = none.0 (is_none is)

module _ {X : Type 0} (P : X → Type 0) (xs : List X) where
  first_of : (i : ℕ) (x : X) → EachBelow i (λ _. P) xs → slice_get xs i ≡ Some x → (P x → ⊥) → IsFirstWithout (λ _. P) xs i
  first_of i x below at fails = record { lacks = SomeAt-of (λ y. P y → ⊥) xs i x at fails; earlier = λ j y less there. below.each j y less there }

  lacks_all : (i : ℕ) → IsFirstWithout (λ _. P) xs i → Each P xs → ⊥
  lacks_all i first each = let here = SomeAt-is (λ x. P x → ⊥) xs i first.lacks in here.2 (each i here.0 here.1)

-- ---- packages of a group

-- one package more has its shape
pub one_package : (packages : List UnresolvedPackage) (i : ℕ) (p : UnresolvedPackage) {found : Option ShapeFault} → EachBelow i (λ _. IsShaped) packages
    → slice_get packages i ≡ Some p → FindsNone p found → found ≡ None → EachBelow (i + 1) (λ _. IsShaped) packages
one_package packages i p below at none is = one_more below p at (has_shape p none is)

-- the first one that lacks it
pub nested_told : (packages : List UnresolvedPackage) (i : ℕ) (p : UnresolvedPackage) {found : Option ShapeFault} (fault : ShapeFault) → EachBelow i (λ _. IsShaped) packages
    → slice_get packages i ≡ Some p → FindsNone p found → FindsSome p found → found ≡ Some fault → TellsNested packages (Some (i, fault))
nested_told packages i p fault below at none some is =
    let first = first_of IsShaped packages i p below at (lacks p none is) in
    (lacks_all IsShaped packages i first, (first, SomeAt-of (λ q. IsFirstFault q fault) packages i p at ((some fault).0 is)))

-- the main one lacks it
pub main_told : (g : UnresolvedPackageGroup) {found : Option ShapeFault} (fault : ShapeFault) → FindsNone g.main found → FindsSome g.main found → found ≡ Some fault
    → TellsGroup g (Some (None, fault))
main_told g fault none some is = (λ shaped. lacks g.main none is shaped.main, (some fault).0 is)

-- the main one has it, and a nested one lacks it
pub group_told : (g : UnresolvedPackageGroup) (inner : Option (ℕ × ShapeFault)) (i : ℕ) (fault : ShapeFault) → IsShaped g.main → TellsNested g.nested inner → inner ≡ Some (i, fault)
    → TellsGroup g (Some (Some i, fault))
group_told g inner i fault main told is =
    let there : TellsNested g.nested (Some (i, fault)) = subst (λ (o : Option (ℕ × ShapeFault)). TellsNested g.nested o) is told in
    (λ shaped. there.0 shaped.nested, (main, there.1.0, there.1.1))

-- all have it
pub group_shaped : (g : UnresolvedPackageGroup) (inner : Option (ℕ × ShapeFault)) → IsShaped g.main → TellsNested g.nested inner → inner ≡ None → IsGroupShaped g
group_shaped g inner main told is = record { main = main; nested = subst (λ (o : Option (ℕ × ShapeFault)). TellsNested g.nested o) is told }

-- ---- groups

-- a group without a fault has its shape
no_fault : (g : UnresolvedPackageGroup) (inner : Option (Option ℕ × ShapeFault)) → TellsGroup g inner → inner ≡ None → IsGroupShaped g
no_fault g inner told is = subst (λ (o : Option (Option ℕ × ShapeFault)). TellsGroup g o) is told

a_fault : (g : UnresolvedPackageGroup) (inner : Option (Option ℕ × ShapeFault)) (at : Option ℕ) (fault : ShapeFault) → TellsGroup g inner → inner ≡ Some (at, fault) → TellsGroup g (Some (at, fault))
a_fault g inner at fault told is = subst (λ (o : Option (Option ℕ × ShapeFault)). TellsGroup g o) is told

-- one group more has its shape
pub one_group : (deps : List UnresolvedPackageGroup) (i : ℕ) (g : UnresolvedPackageGroup) (inner : Option (Option ℕ × ShapeFault)) → EachBelow i (λ _. IsGroupShaped) deps
    → slice_get deps i ≡ Some g → TellsGroup g inner → inner ≡ None → EachBelow (i + 1) (λ _. IsGroupShaped) deps
one_group deps i g inner below at told is = one_more below g at (no_fault g inner told is)

-- the first one that lacks it
pub deps_told : (deps : List UnresolvedPackageGroup) (i : ℕ) (g : UnresolvedPackageGroup) (inner : Option (Option ℕ × ShapeFault)) (at : Option ℕ) (fault : ShapeFault)
    → EachBelow i (λ _. IsGroupShaped) deps → slice_get deps i ≡ Some g → TellsGroup g inner → inner ≡ Some (at, fault)
    → TellsDeps deps (Some (record { group = Some i; «package» = at; fault = fault }))
deps_told deps i g inner at fault below here told is =
    let there = a_fault g inner at fault told is in
    let first = first_of IsGroupShaped deps i g below here there.0 in
    (lacks_all IsGroupShaped deps i first, (first, SomeAt-of (λ group. IsGroupFault group at fault) deps i g here there.1))

-- the main one lacks it
pub push_main : (main : UnresolvedPackageGroup) (deps : List UnresolvedPackageGroup) (inner : Option (Option ℕ × ShapeFault)) (at : Option ℕ) (fault : ShapeFault) → TellsGroup main inner
    → inner ≡ Some (at, fault) → TellsPush main deps (Some (record { group = None; «package» = at; fault = fault }))
push_main main deps inner at fault told is =
    let there = a_fault main inner at fault told is in
    (λ both. there.0 both.0, there.1)

push_deps : (main : UnresolvedPackageGroup) (deps : List UnresolvedPackageGroup) → IsGroupShaped main → (found : Option Unshaped) → TellsDeps deps found → TellsPush main deps found
push_deps main deps shaped None told = (shaped, told)
push_deps main deps shaped (Some it) told = (λ both. told.0 both.1, among it.group told.1)
  where
    among : (group : Option ℕ) → IsAmongDeps deps group it.«package» it.fault → IsPushFault main deps group it.«package» it.fault
    among None is = absurd is
    among (Some i) is = (shaped, is.0, is.1)

-- the main one has it, and the others tell
pub push_told : {E : Type 0} (main : UnresolvedPackageGroup) (deps : List UnresolvedPackageGroup) (inner : Option (Option ℕ × ShapeFault)) (r : Result (Option Unshaped) E) → TellsGroup main inner
    → inner ≡ None → IfOk r (TellsDeps deps) → IfOk r (TellsPush main deps)
push_told main deps inner (Ok found) told is others = push_deps main deps (no_fault main inner told is) found others
push_told main deps inner (Err e) told is others = tt

-- ---- changes

-- a change of which nothing is told has its shape
pub change_shaped : (it : Change) (found : Option Unshaped) → TellsChange it found → found ≡ None → IsChangeShaped it
change_shaped it found told is = subst (λ (o : Option Unshaped). TellsChange it o) is told

-- another one is answered by what it lacks, and changes nothing
pub lack_answered : (old : State) (it : Change) (found : Option Unshaped) (unshaped : Unshaped) → TellsChange it found → found ≡ Some unshaped → CarriesOut old it (answer.NotShaped unshaped) old
lack_answered old it found unshaped told is =
    let there = subst (λ (o : Option Unshaped). TellsChange it o) is told in
    inr (record { lacks = there.0; unshaped = unshaped; is_first = there.1; told_is = refl; same = refl })
