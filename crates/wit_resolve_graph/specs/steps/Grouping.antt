-- What the steps of adding groups hand on.
use Rattle.std.specs.Prelude.{◌≡◌, ℕ, List, Some}
use Rattle.std.specs.Map.{lookup}
use Rattle.wit_names.specs.PackageName.{same_package}
use Rattle.wit_names.specs.declared.package_name.PackageName.{PackageName}
use Rattle.wit_graph_data.specs.Error.{NoCause}
use Rattle.wit_graph_data.specs.declared.features.Features.{Features}
use Rattle.wit_graph_data.specs.declared.graph.Graph.{Graph}
use Rattle.wit_link.specs.Appending.{AreAdded}
use Rattle.wit_link.specs.GroupOrder.{AreSorted, IsSortCause, Unresolved}

-- packages are added in their order, no cause holds against it, and the one of a name has this id
pub record AreAddedTogether (features : Features) (g : Graph) (unresolved : List Unresolved)
    (name : PackageName) (id : ℕ) (new : Graph) : Type 0 where
  pub order : List ℕ
  pub sorted : List Unresolved
  pub ids : List ℕ
  pub sortable : NoCause (IsSortCause unresolved)
  pub are_sorted : AreSorted unresolved order sorted
  pub are_pushed : AreAdded features g sorted new ids
  pub id_is : lookup (same_package name) new.package_names ≡ Some id
