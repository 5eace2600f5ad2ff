-- A graph has one first fault at most, and none where it is valid.
use Rattle.std.proofs.Common.{◌≡◌, ◌∙◌, ◌⊎◌, inl, inr, Option, None, Some, Result, Ok, Err, refl, sym, ap, subst}
use Rattle.std.specs.Prelude.{◌↔◌, IfOk, IsNone}
use Rattle.wit_data.specs.Kind.{type_references}
use Rattle.wit_data.specs.Uses.{uses_of}
use Rattle.wit_data.specs.declared.interface.Interface.{Interface}
use Rattle.wit_data.specs.declared.world.World.{World}
use Rattle.wit_elaboration.specs.Valid.{IsValid}
use Rattle.wit_graph_data.specs.Queries.{package_uses}
use Rattle.wit_graph_data.specs.declared.graph.Graph.{Graph}
use Rattle.wit_graph_data.specs.declared.graph.Package.{Package}
use Rattle.wit_shape.specs.Faults.{unnamed_in_worlds}
use Rattle.wit_shape.specs.First.{Finds}
use Rattle.wit_shape.specs.facts.FirstFacts.{first_fails, first_same, id_fails, id_same, within_fails, within_same}
use Rattle.wit_shape.specs.facts.IdFacts.{none_again}
use Rattle.wit_shape.specs.facts.Prefixes.{on_cycle_fails, on_cycle_same}
use Rattle.wit_graph_faults.proofs.Clauses.{before_or_same, keeps}
use Rattle.wit_graph_faults.specs.Faults.{IsBrokenAt, IsKept, IsAskedBefore, IsGraphFault}
use Rattle.wit_graph_faults.specs.declared.clause.GraphClause.{GraphClause}
use Rattle.wit_graph_faults.specs.declared.fault.GraphFault.{GraphFault}
use Rattle.wit_graph_faults.specs.declared.place.GraphPlace.{GraphPlace}
use Rattle.wit_graph_faults.specs.declared.clause.GraphClause.TheVariants as clause
use Rattle.wit_graph_faults.specs.declared.place.GraphPlace.TheVariants as place

-- a clause that is broken somewhere doesn't hold
fails : (g : Graph) (c : GraphClause) (at : GraphPlace) → IsBrokenAt g c at → IsKept g c → ⊥
fails g clause.PackageNamesOwn at is holds = first_fails is holds
fails g clause.PackageNamesListed at is holds = first_fails is holds
fails g clause.TablesInterfacesListed at is holds = first_fails is holds
fails g clause.TablesWorldsListed at is holds = first_fails is holds
fails g clause.TablesInterfaces at is holds = within_fails (λ (home : Package). home.interfaces) is holds
fails g clause.TablesWorlds at is holds = within_fails (λ (home : Package). home.worlds) is holds
fails g clause.NamesNamespaces at is holds = first_fails is holds
fails g clause.NamesPackages at is holds = first_fails is holds
fails g clause.NamesVersions at is holds = first_fails is holds
fails g clause.NamesInterfaces at is holds = first_fails is holds
fails g clause.Known at is holds = first_fails is holds
fails g clause.OwnersListed at is holds = first_fails is holds
fails g clause.OwnersOwnTypes at is holds = within_fails (λ (interface : Interface). interface.types) is holds
fails g clause.OwnersFunctions at is holds = within_fails (λ (interface : Interface). interface.functions) is holds
fails g clause.ReferencesAliases at is holds = first_fails is holds
fails g clause.ReferencesUnnamed at is holds = first_fails is holds
fails g clause.TypesThere at is holds = first_fails is holds
fails g clause.Types at is holds = on_cycle_fails (type_references g.types) is.0 is.1.0 holds
fails g clause.Uses at is holds = on_cycle_fails (uses_of g.types g.interfaces) is.0 is.1.0 holds
fails g clause.ReferencesOwnTypes at is holds = first_fails is holds
fails g clause.ReferencesOwnFunctions at is holds = within_fails (λ (interface : Interface). interface.functions) is holds
fails g clause.WorldsImports at is holds = within_fails (λ (world : World). world.imports) is holds
fails g clause.WorldsExports at is holds = within_fails (λ (world : World). world.exports) is holds
fails g clause.WorldsImportedFunctions at is holds = within_fails (λ (world : World). world.imports) is holds
fails g clause.WorldsExportedFunctions at is holds = within_fails (λ (world : World). world.exports) is holds
fails g clause.WorldsOnce at is holds = id_fails is (none_again (unnamed_in_worlds g.interfaces g.worlds) holds)
fails g clause.WorldsOwnImports at is holds = within_fails (λ (world : World). world.imports) is holds
fails g clause.WorldsOwnExports at is holds = within_fails (λ (world : World). world.exports) is holds
fails g clause.WorldsIncludes at is holds = first_fails is holds
fails g clause.Packages at is holds = on_cycle_fails (package_uses g.types g.interfaces g.worlds g.packages) is.0 is.1.0 holds
fails g clause.Canonical at is holds = first_fails is holds

-- it is broken at one place
same_place : (g : Graph) (c : GraphClause) (a b : GraphPlace) → IsBrokenAt g c a → IsBrokenAt g c b → a ≡ b
same_place g clause.PackageNamesOwn a b one other = first_same one other
same_place g clause.PackageNamesListed a b one other = first_same one other
same_place g clause.TablesInterfacesListed a b one other = first_same one other
same_place g clause.TablesWorldsListed a b one other = first_same one other
same_place g clause.TablesInterfaces a b one other = within_same (λ (home : Package). home.interfaces) one other
same_place g clause.TablesWorlds a b one other = within_same (λ (home : Package). home.worlds) one other
same_place g clause.NamesNamespaces a b one other = first_same one other
same_place g clause.NamesPackages a b one other = first_same one other
same_place g clause.NamesVersions a b one other = first_same one other
same_place g clause.NamesInterfaces a b one other = first_same one other
same_place g clause.Known a b one other = first_same one other
same_place g clause.OwnersListed a b one other = first_same one other
same_place g clause.OwnersOwnTypes a b one other = within_same (λ (interface : Interface). interface.types) one other
same_place g clause.OwnersFunctions a b one other = within_same (λ (interface : Interface). interface.functions) one other
same_place g clause.ReferencesAliases a b one other = first_same one other
same_place g clause.ReferencesUnnamed a b one other = first_same one other
same_place g clause.TypesThere a b one other = first_same one other
same_place g clause.Types a b one other = one.1.1 ∙ ap place.Type_ (on_cycle_same (type_references g.types) one.0 other.0 one.1.0 other.1.0) ∙ sym other.1.1
same_place g clause.Uses a b one other = one.1.1 ∙ ap place.Interface (on_cycle_same (uses_of g.types g.interfaces) one.0 other.0 one.1.0 other.1.0) ∙ sym other.1.1
same_place g clause.ReferencesOwnTypes a b one other = first_same one other
same_place g clause.ReferencesOwnFunctions a b one other = within_same (λ (interface : Interface). interface.functions) one other
same_place g clause.WorldsImports a b one other = within_same (λ (world : World). world.imports) one other
same_place g clause.WorldsExports a b one other = within_same (λ (world : World). world.exports) one other
same_place g clause.WorldsImportedFunctions a b one other = within_same (λ (world : World). world.imports) one other
same_place g clause.WorldsExportedFunctions a b one other = within_same (λ (world : World). world.exports) one other
same_place g clause.WorldsOnce a b one other = id_same one other
same_place g clause.WorldsOwnImports a b one other = within_same (λ (world : World). world.imports) one other
same_place g clause.WorldsOwnExports a b one other = within_same (λ (world : World). world.exports) one other
same_place g clause.WorldsIncludes a b one other = first_same one other
same_place g clause.Packages a b one other = one.1.1 ∙ ap place.Package (on_cycle_same (package_uses g.types g.interfaces g.worlds g.packages) one.0 other.0 one.1.0 other.1.0) ∙ sym other.1.1
same_place g clause.Canonical a b one other = first_same one other

abbrev fault_of : GraphClause → GraphPlace → GraphFault
fault_of c at = record { clause = c; place = at }

module _ (g : Graph) where
  none_before : (f h : GraphFault) → IsGraphFault g f → IsGraphFault g h → IsAskedBefore f.clause h.clause → ⊥
  none_before f h one other before = fails g f.clause f.place one.breaks (other.before f.clause before)

  at_most_one : (f h : GraphFault) → IsGraphFault g f → IsGraphFault g h → f ≡ h
  at_most_one f h one other =
      let clause_is : f.clause ≡ h.clause = only_same (before_or_same f.clause h.clause) in
      let place_is : f.place ≡ h.place = same_place g h.clause f.place h.place (subst (λ (c : GraphClause). IsBrokenAt g c f.place) clause_is one.breaks) other.breaks in
      both clause_is place_is
    where
      only_same : IsAskedBefore f.clause h.clause ⊎ (IsAskedBefore h.clause f.clause ⊎ (f.clause ≡ h.clause)) → f.clause ≡ h.clause
      only_same (inl before) = absurd (none_before f h one other before)
      only_same (inr (inl behind)) = absurd (none_before h f other one behind)
      only_same (inr (inr same)) = same

      both : {c d : GraphClause} {a b : GraphPlace} → c ≡ d → a ≡ b → fault_of c a ≡ fault_of d b
      both {c} {d} {a} clauses_are places_are = ap (λ (e : GraphClause). fault_of e a) clauses_are ∙ ap (fault_of d) places_are

  pub not_valid : (f : GraphFault) → IsGraphFault g f → IsValid g → ⊥
  not_valid f first valid = fails g f.clause f.place first.breaks (keeps g valid f.clause)

  -- none is told exactly where the graph is valid
  none_is : (found : Option GraphFault) → Finds (IsValid g) (IsGraphFault g) found → IsNone found ↔ IsValid g
  none_is None valid = (λ _. valid, λ _. refl)
  none_is (Some f) first = (λ none. absurd (some_none none), λ valid. absurd (not_valid f first valid))
    where
      some_none : IsNone (Some f) → ⊥
      some_none none = cc

  -- and a fault exactly where it is the first
  some_is : (found : Option GraphFault) → Finds (IsValid g) (IsGraphFault g) found → (f : GraphFault) → (found ≡ Some f) ↔ IsGraphFault g f
  some_is None valid f = (λ is. absurd (none_some is), λ first. absurd (not_valid f first valid))
    where
      none_some : None ≡ Some f → ⊥
      none_some is = cc
  some_is (Some h) first f = (λ is. subst (IsGraphFault g) (inside is) first, λ other. ap (λ (k : GraphFault). Some k) (at_most_one h f first other))
    where
      inside : Some h ≡ Some f → h ≡ f
      inside is = cc

  -- the same of a call that may be refused
  pub none_told : {E : Type 0} (r : Result (Option GraphFault) E) → IfOk r (λ found. Finds (IsValid g) (IsGraphFault g) found) → IfOk r (λ found. IsNone found ↔ IsValid g)
  none_told (Ok found) told = none_is found told
  none_told (Err e) told = tt

  pub some_told : {E : Type 0} (r : Result (Option GraphFault) E) → IfOk r (λ found. Finds (IsValid g) (IsGraphFault g) found) → IfOk r (λ found. (f : GraphFault) → (found ≡ Some f) ↔ IsGraphFault g f)
  some_told (Ok found) told = some_is found told
  some_told (Err e) told = tt
