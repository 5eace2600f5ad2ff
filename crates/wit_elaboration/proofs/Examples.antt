-- The examples of valid graphs.
use Rattle.std.proofs.Common.{◌≡◌, ℕ, ◌<◌, ◌≤◌, zero, suc, List, [], ◌∷◌, length, Some, None, refl, ap, sym, inr, lit<, All, arith}
use Rattle.std.proofs.lemmas.Bool.{false≢true}
use Rattle.std.proofs.lemmas.List.Elements.{All-contains, All-from_recursion, All-nil}
use Rattle.std.specs.List.{IsDistinct}
use Rattle.std.specs.Prelude.{codes, slice_index}
use Rattle.wit_digraph.specs.Relation.{IsAcyclic, IsPath, direct}
use Rattle.wit_digraph.specs.PostOrder.{post_order, post_order_within}
use Rattle.wit_names.specs.UsePath.{is_kebab_name}
use Rattle.wit_data.specs.Uses.{uses_of}
use Rattle.wit_names.specs.declared.package_name.PackageName.{PackageName}
use Rattle.wit_data.specs.declared.world.World.{World}
use Rattle.wit_elaboration.proofs.EachLemmas.{EachAt-nil, EachAt-one, EachAt-two, HasDistinctKeys-nil, HasDistinctKeys-one, HasDistinctKeys-two, differ_by_test, none_in}
use Rattle.wit_elaboration.specs.Elaborated.{Elaborated}
use Rattle.wit_elaboration.specs.Entries.{keyed_interfaces}
use Rattle.wit_elaboration.specs.examples.Examples.{ExamplesOfValidity, empty_graph}
use Rattle.wit_graph_data.specs.examples.Samples.{entry_of, foo_bar, foo_bar_of, interface_of, labelled_entry, sample, sample_interfaces, sample_types, world_of}
use Rattle.wit_elaboration.specs.Valid.{HasValidNames, HasOwners, HasReferences, HasTables, HasWorlds, IsValid}

-- ---- relations without cycles

no_rows : IsAcyclic []
no_rows = record {
  in_range = λ i. All-nil (λ j. j < 0);
  no_cycle = λ i k path round. absurd (omega (arith, round.0.1));
}

-- where each node uses lower ones alone, paths go down
descends : (uses : List (List ℕ)) → ((i : ℕ) → All (λ j. j < i) (direct uses i)) → (i : ℕ) (path : List ℕ) (j : ℕ) → IsPath uses i path j → j ≤ i
descends uses lower i [] j same = omega (arith, same)
descends uses lower i (k ∷ path) j leads =
    omega (arith, All-contains (λ m. m < i) (direct uses i) k (lower i) leads.0, descends uses lower k path j leads.1)

lower_rows : (uses : List (List ℕ)) → ((i : ℕ) → All (λ j. j < i) (direct uses i)) → ((i : ℕ) → All (λ j. j < length uses) (direct uses i)) → IsAcyclic uses
lower_rows uses lower in_range = record {
  in_range = in_range;
  no_cycle = λ i k path round. omega (arith, All-contains (λ m. m < i) (direct uses i) k (lower i) round.0, descends uses lower k path i round.1);
}

one_lower : (i : ℕ) → All (λ j. j < i) (direct ([] ∷ []) i)
one_lower zero = All-nil (λ j. j < 0)
one_lower (suc i) = All-nil (λ j. j < suc i)

one_in_range : (i : ℕ) → All (λ j. j < 1) (direct ([] ∷ []) i)
one_in_range zero = All-nil (λ j. j < 1)
one_in_range (suc i) = All-nil (λ j. j < 1)

two_lower : (i : ℕ) → All (λ j. j < i) (direct ([] ∷ (0 ∷ []) ∷ []) i)
two_lower zero = All-nil (λ j. j < 0)
two_lower (suc zero) = All-from_recursion (λ j. j < 1) (0 ∷ []) (lit< tt, tt)
two_lower (suc (suc i)) = All-nil (λ j. j < suc (suc i))

two_in_range : (i : ℕ) → All (λ j. j < 2) (direct ([] ∷ (0 ∷ []) ∷ []) i)
two_in_range zero = All-nil (λ j. j < 2)
two_in_range (suc zero) = All-from_recursion (λ j. j < 2) (0 ∷ []) (lit< tt, tt)
two_in_range (suc (suc i)) = All-nil (λ j. j < 2)

-- ---- the empty graph

empty : IsValid empty_graph
unfolding IsDistinct
empty = record {
  well_formed = record {
    package_names = record { own_name = EachAt-nil _; listed = EachAt-nil _; distinct = HasDistinctKeys-nil };
    tables = record {
      interfaces_listed = EachAt-nil _;
      worlds_listed = EachAt-nil _;
      interface_tables = EachAt-nil _;
      world_tables = EachAt-nil _;
      distinct_interfaces = EachAt-nil _;
      distinct_worlds = EachAt-nil _;
    };
    owners = record { listed = EachAt-nil _; own_types = EachAt-nil _; functions = EachAt-nil _; distinct_types = EachAt-nil _; distinct_functions = EachAt-nil _ };
    references = record { aliases = EachAt-nil _; unnamed = EachAt-nil _; own_types = EachAt-nil _; own_functions = EachAt-nil _ };
    worlds = record {
      imports = EachAt-nil _;
      exports = EachAt-nil _;
      imported_functions = EachAt-nil _;
      exported_functions = EachAt-nil _;
      once = tt;
      own_imports = EachAt-nil _;
      own_exports = EachAt-nil _;
      no_includes = EachAt-nil _;
      distinct_imports = EachAt-nil _;
      distinct_exports = EachAt-nil _;
    };
  };
  names = record { namespaces = EachAt-nil _; package_names = EachAt-nil _; versions = EachAt-nil _; interface_names = EachAt-nil _ };
  known = EachAt-nil _;
  no_cycles = record { uses = no_rows; types = no_rows; packages = no_rows };
  canonical = EachAt-nil _;
}

-- ---- a small graph

small_tables : HasTables (foo_bar_of ((codes "a", 0) ∷ (codes "b", 1) ∷ []) ((codes "w", 0) ∷ []) ∷ []) sample_interfaces (world_of (codes "w") (entry_of 0 ∷ entry_of 1 ∷ []) [] ∷ [])
small_tables = record {
  interfaces_listed = EachAt-two _ _ _ (0, lit< tt, refl) (1, lit< tt, refl);
  worlds_listed = EachAt-one _ _ (0, lit< tt, refl);
  interface_tables = EachAt-one _ _ (EachAt-two _ _ _ (refl, refl) (refl, refl));
  world_tables = EachAt-one _ _ (EachAt-one _ _ (refl, refl));
  distinct_interfaces = EachAt-one _ _ (HasDistinctKeys-two (codes "a", 0) (codes "b", 1) (differ_by_test (codes "a") (codes "b") refl));
  distinct_worlds = EachAt-one _ _ (HasDistinctKeys-one (codes "w", 0));
}

small_owners : HasOwners sample_types sample_interfaces (world_of (codes "w") (entry_of 0 ∷ entry_of 1 ∷ []) [] ∷ [])
small_owners = record {
  listed = EachAt-two _ _ _ (0, lit< tt, refl) (0, lit< tt, refl);
  own_types = EachAt-two _ _ _ (EachAt-one _ _ (refl, refl)) (EachAt-one _ _ (refl, refl));
  functions = EachAt-two _ _ _ (EachAt-nil _) (EachAt-nil _);
  distinct_types = EachAt-two _ _ _ (HasDistinctKeys-one (codes "t", 0)) (HasDistinctKeys-one (codes "t", 1));
  distinct_functions = EachAt-two _ _ _ HasDistinctKeys-nil HasDistinctKeys-nil;
}

small_references : HasReferences sample_types sample_interfaces
small_references = record {
  aliases = EachAt-two _ _ _ tt (refl, inr refl);
  unnamed = EachAt-two _ _ _ (λ none. cc) (λ none. cc);
  own_types = EachAt-two _ _ _ (λ named. EachAt-nil _) (λ named. EachAt-nil _);
  own_functions = EachAt-two _ _ _ (EachAt-nil _) (EachAt-nil _);
}

small_worlds : HasWorlds sample_types sample_interfaces (world_of (codes "w") (entry_of 0 ∷ entry_of 1 ∷ []) [] ∷ [])
unfolding IsDistinct
small_worlds = record {
  imports = EachAt-one _ _ (EachAt-two _ _ _ (refl, refl) (refl, refl));
  exports = EachAt-one _ _ (EachAt-nil _);
  imported_functions = EachAt-one _ _ (EachAt-two _ _ _ tt tt);
  exported_functions = EachAt-one _ _ (EachAt-nil _);
  once = tt;
  own_imports = EachAt-one _ _ (EachAt-two _ _ _ (λ none. refl) (λ none. refl));
  own_exports = EachAt-one _ _ (EachAt-nil _);
  no_includes = EachAt-one _ _ refl;
  distinct_imports = EachAt-one _ _ (HasDistinctKeys-two (entry_of 0) (entry_of 1) (λ same. cc));
  distinct_exports = EachAt-one _ _ HasDistinctKeys-nil;
}

small_canonical : Elaborated sample_types (uses_of sample_types sample_interfaces) (world_of (codes "w") (entry_of 0 ∷ entry_of 1 ∷ []) []) (world_of (codes "w") (entry_of 0 ∷ entry_of 1 ∷ []) [])
unfolding post_order post_order_within
small_canonical = record {
  no_conflict = λ conflict. none_in conflict.0 conflict.2;
  world_is = refl;
}

small_names : HasValidNames (foo_bar_of ((codes "a", 0) ∷ (codes "b", 1) ∷ []) ((codes "w", 0) ∷ []) ∷ []) sample_interfaces
unfolding is_kebab_name
small_names = record { namespaces = EachAt-one _ _ refl; package_names = EachAt-one _ _ refl; versions = EachAt-one _ _ tt; interface_names = EachAt-two _ _ _ refl refl }

small : IsValid (sample (entry_of 0 ∷ entry_of 1 ∷ []) [])
small = record {
  well_formed = record {
    package_names = record { own_name = EachAt-one _ _ refl; listed = EachAt-one _ _ (0, lit< tt, refl); distinct = HasDistinctKeys-one (foo_bar, 0) };
    tables = small_tables;
    owners = small_owners;
    references = small_references;
    worlds = small_worlds;
  };
  names = small_names;
  known = EachAt-two _ _ _ (λ same. cc) (λ same. cc);
  no_cycles = record {
    uses = lower_rows ([] ∷ (0 ∷ []) ∷ []) two_lower two_in_range;
    types = lower_rows ([] ∷ (0 ∷ []) ∷ []) two_lower two_in_range;
    packages = lower_rows ([] ∷ []) one_lower one_in_range;
  };
  canonical = EachAt-one _ _ small_canonical;
}

-- ---- near misses

not_closed : IsValid (sample (entry_of 1 ∷ []) []) → ⊥
unfolding post_order post_order_within
not_closed valid =
    let longer : 1 ≡ 2 = ap (λ (w : World). length w.imports) (valid.canonical 0 (world_of (codes "w") (entry_of 1 ∷ []) []) refl).world_is in
    absurd (omega (arith, longer))

user_first : IsValid (sample (entry_of 1 ∷ entry_of 0 ∷ []) []) → ⊥
unfolding post_order post_order_within
user_first valid =
    let other : 1 ≡ 0 = ap (λ (w : World). slice_index (keyed_interfaces w.imports) 0) (valid.canonical 0 (world_of (codes "w") (entry_of 1 ∷ entry_of 0 ∷ []) []) refl).world_is in
    absurd (omega (arith, other))

capital : HasValidNames (foo_bar_of [] [] ∷ []) (interface_of (Some (codes "aB")) [] ∷ []) → ⊥
unfolding is_kebab_name
capital names = false≢true (names.interface_names 0 (interface_of (Some (codes "aB")) []) refl)

two_places : HasWorlds [] (interface_of None [] ∷ []) (world_of (codes "w") (labelled_entry (codes "x") 0 ∷ labelled_entry (codes "y") 0 ∷ []) [] ∷ []) → ⊥
unfolding IsDistinct
two_places worlds = false≢true (sym worlds.once.0.0)

pub validity : ExamplesOfValidity
validity = record {
  empty = empty;
  small = small;
  not_closed = not_closed;
  user_first = user_first;
  unlisted = λ tables. none_in (codes "a", 0) (tables.interfaces_listed 0 (interface_of (Some (codes "a")) []) refl);
  listed_only = λ tables. tables.interface_tables 0 (foo_bar_of ((codes "a", 0) ∷ []) []) refl 0 (codes "a", 0) refl;
  nameless = record {
    interfaces_listed = EachAt-one _ _ tt;
    worlds_listed = EachAt-nil _;
    interface_tables = EachAt-one _ _ (EachAt-nil _);
    world_tables = EachAt-one _ _ (EachAt-nil _);
    distinct_interfaces = EachAt-one _ _ HasDistinctKeys-nil;
    distinct_worlds = EachAt-one _ _ HasDistinctKeys-nil;
  };
  unnamed_package = λ names. none_in (foo_bar, 0) (names.listed 0 (foo_bar_of [] []) refl);
  other_name = λ names. differ_by_test (codes "bar") (codes "baz") refl (ap (λ (n : PackageName). n.name) (names.own_name 0 (record foo_bar { name = codes "baz" }, 0) refl));
  unlisted_type = λ owners. none_in (codes "t", 0) (owners.listed 0 _ refl);
  unnamed_alias = λ references. references.unnamed 0 _ refl refl;
  capital = capital;
  type_circle = λ acyclic. acyclic.no_cycle 0 1 (0 ∷ []) ((0, lit< tt, refl), ((0, lit< tt, refl), refl));
  two_places = two_places;
}
