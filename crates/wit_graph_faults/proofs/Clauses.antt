-- The clauses of validity in their order, and validity of them.
use Rattle.std.proofs.Common.{◌≡◌, ◌∙◌, ℕ, zero, suc, ◌<◌, ◌+◌, ◌⊎◌, inl, inr, List, [], ◌∷◌, get_or, length, Option, None, Some, slice_get, refl, ap, sym, subst, lit<, arith}
use Rattle.std.proofs.lemmas.Option.{get_or_from_slice_get, slice_get_within}
use Rattle.wit_elaboration.specs.Valid.{IsValid}
use Rattle.wit_graph_data.specs.declared.graph.Graph.{Graph}
use Rattle.wit_graph_faults.proofs.Ranges.{references_there}
use Rattle.wit_graph_faults.specs.Faults.{IsKept, IsAskedBefore, IsGraphFault, IsValidBefore, FindsBreach, graph_clauses}
use Rattle.wit_graph_faults.specs.steps.Keys.{KeysDiffer}
use Rattle.wit_graph_faults.specs.declared.clause.GraphClause.{GraphClause}
use Rattle.wit_graph_faults.specs.declared.place.GraphPlace.{GraphPlace}
use Rattle.wit_graph_faults.specs.declared.clause.GraphClause.TheVariants as clause

-- the number of a clause is its place
abbrev pub number : GraphClause → ℕ
number clause.PackageNamesOwn = 0
number clause.PackageNamesListed = 1
number clause.TablesInterfacesListed = 2
number clause.TablesWorldsListed = 3
number clause.TablesInterfaces = 4
number clause.TablesWorlds = 5
number clause.NamesNamespaces = 6
number clause.NamesPackages = 7
number clause.NamesVersions = 8
number clause.NamesInterfaces = 9
number clause.Known = 10
number clause.OwnersListed = 11
number clause.OwnersOwnTypes = 12
number clause.OwnersFunctions = 13
number clause.ReferencesAliases = 14
number clause.ReferencesUnnamed = 15
number clause.TypesThere = 16
number clause.Types = 17
number clause.Uses = 18
number clause.ReferencesOwnTypes = 19
number clause.ReferencesOwnFunctions = 20
number clause.WorldsImports = 21
number clause.WorldsExports = 22
number clause.WorldsImportedFunctions = 23
number clause.WorldsExportedFunctions = 24
number clause.WorldsOnce = 25
number clause.WorldsOwnImports = 26
number clause.WorldsOwnExports = 27
number clause.WorldsIncludes = 28
number clause.Packages = 29
number clause.Canonical = 30

-- each stands at its number
abbrev AreNumbered : ℕ → List GraphClause → Type 0
AreNumbered n [] = Unit {0}
AreNumbered n (c ∷ cs) = (number c ≡ n) × AreNumbered (n + 1) cs

numbered_from : (n : ℕ) (cs : List GraphClause) → AreNumbered n cs → (i : ℕ) (d : GraphClause) → i < length cs → number (get_or cs i d) ≡ n + i
numbered_from n [] are i d within = absurd (omega arith)
numbered_from n (c ∷ cs) are zero d within = let same : n ≡ n + 0 = omega arith in are.0 ∙ same
numbered_from n (c ∷ cs) are (suc i) d within = let more = numbered_from (n + 1) cs are.1 i d (omega arith) in omega arith

numbered : (i : ℕ) (d : GraphClause) → i < 31 → number (get_or graph_clauses i d) ≡ i
numbered i d within = let is = numbered_from 0 graph_clauses (refl, (refl, (refl, (refl, (refl, (refl, (refl, (refl, (refl, (refl, (refl, (refl, (refl, (refl, (refl, (refl, (refl, (refl, (refl, (refl, (refl, (refl, (refl, (refl, (refl, (refl, (refl, (refl, (refl, (refl, (refl, tt))))))))))))))))))))))))))))))) i d within in omega arith

-- each clause stands at its number
stands : (c : GraphClause) → slice_get graph_clauses (number c) ≡ Some c
stands clause.PackageNamesOwn = refl
stands clause.PackageNamesListed = refl
stands clause.TablesInterfacesListed = refl
stands clause.TablesWorldsListed = refl
stands clause.TablesInterfaces = refl
stands clause.TablesWorlds = refl
stands clause.NamesNamespaces = refl
stands clause.NamesPackages = refl
stands clause.NamesVersions = refl
stands clause.NamesInterfaces = refl
stands clause.Known = refl
stands clause.OwnersListed = refl
stands clause.OwnersOwnTypes = refl
stands clause.OwnersFunctions = refl
stands clause.ReferencesAliases = refl
stands clause.ReferencesUnnamed = refl
stands clause.TypesThere = refl
stands clause.Types = refl
stands clause.Uses = refl
stands clause.ReferencesOwnTypes = refl
stands clause.ReferencesOwnFunctions = refl
stands clause.WorldsImports = refl
stands clause.WorldsExports = refl
stands clause.WorldsImportedFunctions = refl
stands clause.WorldsExportedFunctions = refl
stands clause.WorldsOnce = refl
stands clause.WorldsOwnImports = refl
stands clause.WorldsOwnExports = refl
stands clause.WorldsIncludes = refl
stands clause.Packages = refl
stands clause.Canonical = refl

listed : (c : GraphClause) → get_or graph_clauses (number c) clause.Canonical ≡ c
listed c = get_or_from_slice_get graph_clauses (number c) c clause.Canonical (stands c)

-- clauses of one number are one
same_clause : (c d : GraphClause) → number c ≡ number d → c ≡ d
same_clause c d same = sym (listed c) ∙ ap (λ n. get_or graph_clauses n clause.Canonical) same ∙ listed d

-- a clause that stands at a place has its number
numbered_at : (c : GraphClause) (i : ℕ) → slice_get graph_clauses i ≡ Some c → number c ≡ i
numbered_at c i at =
    let within : i < 31 = slice_get_within graph_clauses i c at in
    let here : get_or graph_clauses i c ≡ c = get_or_from_slice_get graph_clauses i c c at in
    ap number (sym here) ∙ numbered i c within

-- one that stands before another has the smaller number
pub less_before : (a b : GraphClause) → IsAskedBefore a b → number a < number b
less_before a b before =
    let first = numbered_at a before.0 before.2.1 in
    let second = numbered_at b before.1 before.2.2 in
    let less : before.0 < before.1 = before.2.0 in
    omega arith

-- so who keeps those of a smaller number keeps those before it
pub keeps_before : (g : Graph) (c : GraphClause) → ((other : GraphClause) → number other < number c → IsKept g other) → IsValidBefore g c
keeps_before g c keeps other before = keeps other (less_before other c before)

-- of two clauses one stands before the other, or they are one
pub before_or_same : (a b : GraphClause) → IsAskedBefore a b ⊎ (IsAskedBefore b a ⊎ (a ≡ b))
before_or_same a b = by (less_or (number a) (number b))
  where
    less_or : (m n : ℕ) → (m < n) ⊎ ((n < m) ⊎ (m ≡ n))
    less_or m n = grind arith

    by : (number a < number b) ⊎ ((number b < number a) ⊎ (number a ≡ number b)) → IsAskedBefore a b ⊎ (IsAskedBefore b a ⊎ (a ≡ b))
    by (inl less) = inl (number a, number b, (less, stands a, stands b))
    by (inr (inl more)) = inr (inl (number b, number a, (more, stands b, stands a)))
    by (inr (inr same)) = inr (inr (same_clause a b same))

-- ---- one clause after another
module _ (g : Graph) (i : ℕ) (d : GraphClause) (within : i < 31) (keeps : (other : GraphClause) → number other < i → IsKept g other) where
  pub before : IsValidBefore g (get_or graph_clauses i d)
  before other stands_before = keeps other (subst (λ n. number other < n) (numbered i d within) (less_before other (get_or graph_clauses i d) stands_before))

  pub first : (found : Option GraphPlace) (at : GraphPlace) → FindsBreach g (get_or graph_clauses i d) found → found ≡ Some at → IsGraphFault g (record { clause = get_or graph_clauses i d; place = at })
  first found at told is = record { before = before; breaks = subst (FindsBreach g (get_or graph_clauses i d)) is told }

  pub one_more : (found : Option GraphPlace) → FindsBreach g (get_or graph_clauses i d) found → found ≡ None → (other : GraphClause) → number other < i + 1 → IsKept g other
  one_more found told is other less =
      elim (earlier_or (number other) i less) [
        | inl earlier ↦ keeps other earlier
        | inr same ↦ subst (IsKept g) (same_clause (get_or graph_clauses i d) other (numbered i d within ∙ sym same)) (subst (FindsBreach g (get_or graph_clauses i d)) is told)
      ]
    where
      earlier_or : (a b : ℕ) → a < b + 1 → (a < b) ⊎ (a ≡ b)
      earlier_or a b below = grind arith

-- a graph that keeps them all is valid
pub valid : (g : Graph) → KeysDiffer g → ((c : GraphClause) → number c < 31 → IsKept g c) → IsValid g
valid g keys holds = record {
  well_formed = record {
    package_names = record { own_name = holds clause.PackageNamesOwn (lit< tt); listed = holds clause.PackageNamesListed (lit< tt); distinct = keys.package_names };
    tables = record {
      interfaces_listed = holds clause.TablesInterfacesListed (lit< tt);
      worlds_listed = holds clause.TablesWorldsListed (lit< tt);
      interface_tables = holds clause.TablesInterfaces (lit< tt);
      world_tables = holds clause.TablesWorlds (lit< tt);
      distinct_interfaces = keys.interface_tables;
      distinct_worlds = keys.world_tables;
    };
    owners = record {
      listed = holds clause.OwnersListed (lit< tt);
      own_types = holds clause.OwnersOwnTypes (lit< tt);
      functions = holds clause.OwnersFunctions (lit< tt);
      distinct_types = keys.types;
      distinct_functions = keys.functions;
    };
    references = record {
      aliases = holds clause.ReferencesAliases (lit< tt);
      unnamed = holds clause.ReferencesUnnamed (lit< tt);
      own_types = holds clause.ReferencesOwnTypes (lit< tt);
      own_functions = holds clause.ReferencesOwnFunctions (lit< tt);
    };
    worlds = record {
      imports = holds clause.WorldsImports (lit< tt);
      exports = holds clause.WorldsExports (lit< tt);
      imported_functions = holds clause.WorldsImportedFunctions (lit< tt);
      exported_functions = holds clause.WorldsExportedFunctions (lit< tt);
      once = holds clause.WorldsOnce (lit< tt);
      own_imports = holds clause.WorldsOwnImports (lit< tt);
      own_exports = holds clause.WorldsOwnExports (lit< tt);
      no_includes = holds clause.WorldsIncludes (lit< tt);
      distinct_imports = keys.imports;
      distinct_exports = keys.exports;
    };
  };
  names = record {
    namespaces = holds clause.NamesNamespaces (lit< tt);
    package_names = holds clause.NamesPackages (lit< tt);
    versions = holds clause.NamesVersions (lit< tt);
    interface_names = holds clause.NamesInterfaces (lit< tt);
  };
  known = holds clause.Known (lit< tt);
  no_cycles = record { uses = holds clause.Uses (lit< tt); types = holds clause.Types (lit< tt); packages = holds clause.Packages (lit< tt) };
  canonical = holds clause.Canonical (lit< tt);
}

-- and a valid graph keeps each
pub keeps : (g : Graph) → IsValid g → (c : GraphClause) → IsKept g c
keeps g valid clause.PackageNamesOwn = valid.well_formed.package_names.own_name
keeps g valid clause.PackageNamesListed = valid.well_formed.package_names.listed
keeps g valid clause.TablesInterfacesListed = valid.well_formed.tables.interfaces_listed
keeps g valid clause.TablesWorldsListed = valid.well_formed.tables.worlds_listed
keeps g valid clause.TablesInterfaces = valid.well_formed.tables.interface_tables
keeps g valid clause.TablesWorlds = valid.well_formed.tables.world_tables
keeps g valid clause.NamesNamespaces = valid.names.namespaces
keeps g valid clause.NamesPackages = valid.names.package_names
keeps g valid clause.NamesVersions = valid.names.versions
keeps g valid clause.NamesInterfaces = valid.names.interface_names
keeps g valid clause.Known = valid.known
keeps g valid clause.OwnersListed = valid.well_formed.owners.listed
keeps g valid clause.OwnersOwnTypes = valid.well_formed.owners.own_types
keeps g valid clause.OwnersFunctions = valid.well_formed.owners.functions
keeps g valid clause.ReferencesAliases = valid.well_formed.references.aliases
keeps g valid clause.ReferencesUnnamed = valid.well_formed.references.unnamed
keeps g valid clause.TypesThere = references_there g.types valid.no_cycles.types.in_range
keeps g valid clause.Types = valid.no_cycles.types
keeps g valid clause.Uses = valid.no_cycles.uses
keeps g valid clause.ReferencesOwnTypes = valid.well_formed.references.own_types
keeps g valid clause.ReferencesOwnFunctions = valid.well_formed.references.own_functions
keeps g valid clause.WorldsImports = valid.well_formed.worlds.imports
keeps g valid clause.WorldsExports = valid.well_formed.worlds.exports
keeps g valid clause.WorldsImportedFunctions = valid.well_formed.worlds.imported_functions
keeps g valid clause.WorldsExportedFunctions = valid.well_formed.worlds.exported_functions
keeps g valid clause.WorldsOnce = valid.well_formed.worlds.once
keeps g valid clause.WorldsOwnImports = valid.well_formed.worlds.own_imports
keeps g valid clause.WorldsOwnExports = valid.well_formed.worlds.own_exports
keeps g valid clause.WorldsIncludes = valid.well_formed.worlds.no_includes
keeps g valid clause.Packages = valid.no_cycles.packages
keeps g valid clause.Canonical = valid.canonical
