-- Small groups of packages: their dependencies, orders of theirs and what isn't one, and why they can't be put
-- in an order.
use Rattle.std.specs.Prelude.{◌≡◌, ℕ, List, [], ◌∷◌, Some}
use Rattle.wit_names.specs.declared.package_name.PackageName.{PackageName}
use Rattle.wit_data.specs.declared.stability.Stability.TheVariants.{Unknown}
use Rattle.wit_graph_data.specs.Error.{NoCause}
use Rattle.wit_graph_data.specs.examples.Samples.{foo_bar}
use Rattle.wit_link.specs.GroupOrder.{AreSorted, IsDefinedTwice, IsGroupOrder, IsOnPackageCycle, IsSortCause, Unresolved, group_uses}
use Rattle.examples_resolve.specs.graph.Packages.{bare, dep_name, main_name, naming}
use Rattle.wit_link.specs.steps.Parts.{HasSpanOverflow}

-- a main package that names an interface of its dependency, and the dependency
abbrev pub main_and_dep : List Unresolved
main_and_dep = (naming main_name dep_name Unknown, 0) ∷ (bare dep_name, 20) ∷ []

-- two packages that name interfaces of each other
abbrev pub each_other : List Unresolved
each_other = (naming main_name dep_name Unknown, 0) ∷ (naming dep_name main_name Unknown, 20) ∷ []

-- a package that names an interface of its own name
abbrev pub itself_alone : List Unresolved
itself_alone = (naming main_name main_name Unknown, 0) ∷ []

-- foo:main and foo:dep, which name nothing of each other
abbrev pub two_alone : List Unresolved
two_alone = (bare main_name, 0) ∷ (bare dep_name, 20) ∷ []

-- foo:dep, which names an interface of foo:main, and that
abbrev pub dep_on_main : List Unresolved
dep_on_main = (naming dep_name main_name Unknown, 0) ∷ (bare main_name, 20) ∷ []

-- one package
abbrev pub one_alone : List Unresolved
one_alone = (bare foo_bar, 16) ∷ []

-- the package twice, the second time with its spans moved so far
abbrev pub twice_at : ℕ → List Unresolved
twice_at offset = (bare foo_bar, 0) ∷ (bare foo_bar, offset) ∷ []

-- dependencies, names that come twice, and cycles
pub record ExamplesOfGroups : Type 0 where
  pub uses : group_uses main_and_dep ≡ (1 ∷ []) ∷ [] ∷ []
  pub itself : group_uses itself_alone ≡ (0 ∷ []) ∷ []
  pub dependency_first : IsGroupOrder main_and_dep (1 ∷ 0 ∷ [])
  -- 5
  pub twice : IsDefinedTwice (twice_at 16) foo_bar (Some (24, 29)) (Some (8, 13))
  pub not_twice : (name : PackageName)
      → IsDefinedTwice ((bare foo_bar, 0) ∷ []) name (Some (8, 13)) (Some (8, 13)) → ⊥
  -- 6
  pub cycle : IsOnPackageCycle each_other (Some (40, 45)) main_name
  pub own_cycle : IsOnPackageCycle itself_alone (Some (20, 25)) main_name
  pub no_cycle : (home : PackageName) → IsOnPackageCycle main_and_dep (Some (20, 25)) home → ⊥
  -- one package can always be sorted
  pub alone : NoCause (IsSortCause one_alone)

-- orders, what isn't one, and places that are told
pub record ExamplesOfOrders : Type 0 where
  -- a dependency comes first; not its user, and none is left out
  pub user_first : IsGroupOrder main_and_dep (0 ∷ 1 ∷ []) → ⊥
  pub left_out : IsGroupOrder main_and_dep (1 ∷ []) → ⊥
  -- also against the order of names
  pub against_names : IsGroupOrder dep_on_main (1 ∷ 0 ∷ [])
  pub user_before : IsGroupOrder dep_on_main (0 ∷ 1 ∷ []) → ⊥
  -- else names decide, and not the order in which packages come in
  pub by_names : IsGroupOrder two_alone (1 ∷ 0 ∷ [])
  pub as_unresolved : IsGroupOrder two_alone (0 ∷ 1 ∷ []) → ⊥
  -- the packages in an order
  pub sorted : AreSorted main_and_dep (1 ∷ 0 ∷ [])
      ((bare dep_name, 20) ∷ (naming main_name dep_name Unknown, 0) ∷ [])
  pub unsorted : AreSorted main_and_dep (1 ∷ 0 ∷ []) main_and_dep → ⊥
  pub one : AreSorted one_alone (0 ∷ []) one_alone
  -- 27: the name that would be told ends at 4294967296, or just before
  pub too_far : HasSpanOverflow (twice_at 4294967283)
  pub just_told : HasSpanOverflow (twice_at 4294967282) → ⊥
