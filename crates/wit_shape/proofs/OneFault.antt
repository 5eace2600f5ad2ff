-- A package has one first fault at most, and none where it has its shape.
use Rattle.std.proofs.Common.{◌≡◌, ◌∙◌, ◌⊎◌, inl, inr, List, length, Option, None, Some, Result, Ok, Err, refl, sym, ap, subst, arith}
use Rattle.std.specs.Prelude.{◌↔◌, IfOk, IsNone}
use Rattle.wit_data.specs.Foreign.{ForeignItem, foreign_interfaces, foreign_worlds}
use Rattle.wit_data.specs.Shape.{IsShaped}
use Rattle.wit_data.specs.Uses.{uses_of}
use Rattle.wit_data.specs.declared.unresolved.UnresolvedPackage.{UnresolvedPackage}
use Rattle.wit_data.specs.declared.interface.Interface.{Interface}
use Rattle.wit_data.specs.declared.world.World.{World}
use Rattle.wit_names.specs.declared.package_name.PackageName.{PackageName}
use Rattle.wit_shape.proofs.Clauses.{before_or_same, keeps}
use Rattle.wit_shape.specs.facts.IdFacts.{are_new, none_again}
use Rattle.wit_shape.specs.facts.FirstFacts.{first_fails, first_same, id_fails, id_same, within_fails, within_same}
use Rattle.wit_shape.proofs.NameLists.{interfaces_differ, worlds_differ}
use Rattle.wit_shape.specs.facts.Prefixes.{on_cycle_fails, on_cycle_same}
use Rattle.wit_shape.specs.Faults.{BreaksAt, Holds, IsBefore, IsFirstFault, foreign_interface_count, foreign_world_count, unnamed_in_worlds}
use Rattle.wit_shape.specs.declared.clause.ShapeClause.{ShapeClause}
use Rattle.wit_shape.specs.declared.fault.ShapeFault.{ShapeFault}
use Rattle.wit_shape.specs.declared.place.ShapePlace.{ShapePlace}
use Rattle.wit_shape.specs.declared.clause.ShapeClause.TheVariants as clause
use Rattle.wit_shape.specs.declared.place.ShapePlace.TheVariants as place
use Rattle.wit_shape.specs.First.{Finds}

-- a clause that is broken somewhere doesn't hold
fails : (p : UnresolvedPackage) (c : ShapeClause) (at : ShapePlace) → BreaksAt p c at → Holds p c → ⊥
fails p clause.UnplacedInterfaces at is holds = first_fails is holds
fails p clause.UnplacedWorlds at is holds = first_fails is holds
fails p clause.ForeignSpans at is holds = is.0 holds
fails p clause.ForeignInterfaces at is holds = id_fails is (are_new (foreign_interfaces p.foreign_deps) (length p.interfaces) holds)
fails p clause.ForeignWorlds at is holds = id_fails is (are_new (foreign_worlds p.foreign_deps) (length p.worlds) holds)
fails p clause.ForeignBare at is holds = within_fails (λ (e : PackageName × List ForeignItem). e.1) is holds
fails p clause.UnknownFirst at (inl more) holds = absurd (omega (arith, more.0, holds.0))
fails p clause.UnknownFirst at (inr is) holds = first_fails is.1 holds.1
fails p clause.UnknownForeign at is holds = first_fails is holds
fails p clause.UnknownAlone at is holds = within_fails (λ (interface : Interface). interface.types) is holds
fails p clause.UnknownRequired at is holds = first_fails is holds
fails p clause.NamesNamespace at is holds = is.0 holds
fails p clause.NamesOwn at is holds = is.0 holds
fails p clause.NamesInterfaces at is holds = first_fails is holds
fails p clause.NamesWorlds at is holds = first_fails is holds
fails p clause.NamesVersion at is holds = is.0 holds
fails p clause.NamesInterfacesDiffer at is holds = first_fails is (interfaces_differ (foreign_interface_count p) p.interfaces holds)
fails p clause.NamesWorldsDiffer at is holds = first_fails is (worlds_differ (foreign_world_count p) p.worlds holds)
fails p clause.OwnersListed at is holds = first_fails is holds
fails p clause.OwnersOwnTypes at is holds = within_fails (λ (interface : Interface). interface.types) is holds
fails p clause.OwnersFunctions at is holds = within_fails (λ (interface : Interface). interface.functions) is holds
fails p clause.ReferencesEarlier at is holds = first_fails is holds
fails p clause.ReferencesAliases at is holds = first_fails is holds
fails p clause.ReferencesUnnamed at is holds = first_fails is holds
fails p clause.OwnTypes at is holds = first_fails is holds
fails p clause.OwnFunctions at is holds = within_fails (λ (interface : Interface). interface.functions) is holds
fails p clause.OwnImports at is holds = within_fails (λ (world : World). world.imports) is holds
fails p clause.OwnExports at is holds = within_fails (λ (world : World). world.exports) is holds
fails p clause.WorldsImports at is holds = within_fails (λ (world : World). world.imports) is holds
fails p clause.WorldsExports at is holds = within_fails (λ (world : World). world.exports) is holds
fails p clause.WorldsOnce at is holds = id_fails is (none_again (unnamed_in_worlds p.interfaces p.worlds) holds)
fails p clause.WorldsIncludes at is holds = within_fails (λ (world : World). world.includes) is holds
fails p clause.Uses at is holds = on_cycle_fails (uses_of p.types p.interfaces) is.0 is.1.0 holds

-- it is broken at one place
same_place : (p : UnresolvedPackage) (c : ShapeClause) (a b : ShapePlace) → BreaksAt p c a → BreaksAt p c b → a ≡ b
same_place p clause.UnplacedInterfaces a b one other = first_same one other
same_place p clause.UnplacedWorlds a b one other = first_same one other
same_place p clause.ForeignSpans a b one other = one.1 ∙ sym other.1
same_place p clause.ForeignInterfaces a b one other = id_same one other
same_place p clause.ForeignWorlds a b one other = id_same one other
same_place p clause.ForeignBare a b one other = within_same (λ (e : PackageName × List ForeignItem). e.1) one other
same_place p clause.UnknownFirst a b (inl one) (inl other) = one.1 ∙ sym other.1
same_place p clause.UnknownFirst a b (inl one) (inr other) = absurd (omega (arith, one.0, other.0))
same_place p clause.UnknownFirst a b (inr one) (inl other) = absurd (omega (arith, one.0, other.0))
same_place p clause.UnknownFirst a b (inr one) (inr other) = first_same one.1 other.1
same_place p clause.UnknownForeign a b one other = first_same one other
same_place p clause.UnknownAlone a b one other = within_same (λ (interface : Interface). interface.types) one other
same_place p clause.UnknownRequired a b one other = first_same one other
same_place p clause.NamesNamespace a b one other = one.1 ∙ sym other.1
same_place p clause.NamesOwn a b one other = one.1 ∙ sym other.1
same_place p clause.NamesInterfaces a b one other = first_same one other
same_place p clause.NamesWorlds a b one other = first_same one other
same_place p clause.NamesVersion a b one other = one.1 ∙ sym other.1
same_place p clause.NamesInterfacesDiffer a b one other = first_same one other
same_place p clause.NamesWorldsDiffer a b one other = first_same one other
same_place p clause.OwnersListed a b one other = first_same one other
same_place p clause.OwnersOwnTypes a b one other = within_same (λ (interface : Interface). interface.types) one other
same_place p clause.OwnersFunctions a b one other = within_same (λ (interface : Interface). interface.functions) one other
same_place p clause.ReferencesEarlier a b one other = first_same one other
same_place p clause.ReferencesAliases a b one other = first_same one other
same_place p clause.ReferencesUnnamed a b one other = first_same one other
same_place p clause.OwnTypes a b one other = first_same one other
same_place p clause.OwnFunctions a b one other = within_same (λ (interface : Interface). interface.functions) one other
same_place p clause.OwnImports a b one other = within_same (λ (world : World). world.imports) one other
same_place p clause.OwnExports a b one other = within_same (λ (world : World). world.exports) one other
same_place p clause.WorldsImports a b one other = within_same (λ (world : World). world.imports) one other
same_place p clause.WorldsExports a b one other = within_same (λ (world : World). world.exports) one other
same_place p clause.WorldsOnce a b one other = id_same one other
same_place p clause.WorldsIncludes a b one other = within_same (λ (world : World). world.includes) one other
same_place p clause.Uses a b one other = one.1.1 ∙ ap place.Interface (on_cycle_same (uses_of p.types p.interfaces) one.0 other.0 one.1.0 other.1.0) ∙ sym other.1.1

abbrev fault_of : ShapeClause → ShapePlace → ShapeFault
fault_of c at = record { clause = c; place = at }

module _ (p : UnresolvedPackage) where
  none_before : (f g : ShapeFault) → IsFirstFault p f → IsFirstFault p g → IsBefore f.clause g.clause → ⊥
  none_before f g one other before = fails p f.clause f.place one.breaks (other.before f.clause before)

  at_most_one : (f g : ShapeFault) → IsFirstFault p f → IsFirstFault p g → f ≡ g
  at_most_one f g one other =
      let clause_is : f.clause ≡ g.clause = only_same (before_or_same f.clause g.clause) in
      let place_is : f.place ≡ g.place = same_place p g.clause f.place g.place (subst (λ (c : ShapeClause). BreaksAt p c f.place) clause_is one.breaks) other.breaks in
      both clause_is place_is
    where
      only_same : IsBefore f.clause g.clause ⊎ (IsBefore g.clause f.clause ⊎ (f.clause ≡ g.clause)) → f.clause ≡ g.clause
      only_same (inl before) = absurd (none_before f g one other before)
      only_same (inr (inl behind)) = absurd (none_before g f other one behind)
      only_same (inr (inr same)) = same

      both : {c d : ShapeClause} {a b : ShapePlace} → c ≡ d → a ≡ b → fault_of c a ≡ fault_of d b
      both {c} {d} {a} clauses_are places_are = ap (λ (e : ShapeClause). fault_of e a) clauses_are ∙ ap (fault_of d) places_are

  pub not_shaped : (f : ShapeFault) → IsFirstFault p f → IsShaped p → ⊥
  not_shaped f first shape = fails p f.clause f.place first.breaks (keeps p shape f.clause)

  -- none is told exactly where the package has its shape
  pub none_is : (found : Option ShapeFault) → Finds (IsShaped p) (IsFirstFault p) found → IsNone found ↔ IsShaped p
  none_is None shape = (λ _. shape, λ _. refl)
  none_is (Some f) first = (λ none. absurd (some_none none), λ shape. absurd (not_shaped f first shape))
    where
      some_none : IsNone (Some f) → ⊥
      some_none none = cc

  -- and a fault exactly where it is the first
  pub some_is : (found : Option ShapeFault) → Finds (IsShaped p) (IsFirstFault p) found → (f : ShapeFault) → (found ≡ Some f) ↔ IsFirstFault p f
  some_is None shape f = (λ is. absurd (none_some is), λ first. absurd (not_shaped f first shape))
    where
      none_some : None ≡ Some f → ⊥
      none_some is = cc
  some_is (Some g) first f = (λ is. subst (IsFirstFault p) (inside is) first, λ other. ap (λ (h : ShapeFault). Some h) (at_most_one g f first other))
    where
      inside : Some g ≡ Some f → g ≡ f
      inside is = cc

  -- the same of a call that may be refused
  pub none_told : {E : Type 0} (r : Result (Option ShapeFault) E) → IfOk r (λ found. Finds (IsShaped p) (IsFirstFault p) found) → IfOk r (λ found. IsNone found ↔ IsShaped p)
  none_told (Ok found) told = none_is found told
  none_told (Err e) told = tt

  pub some_told : {E : Type 0} (r : Result (Option ShapeFault) E) → IfOk r (λ found. Finds (IsShaped p) (IsFirstFault p) found) → IfOk r (λ found. (f : ShapeFault) → (found ≡ Some f) ↔ IsFirstFault p f)
  some_told (Ok found) told = some_is found told
  some_told (Err e) told = tt
