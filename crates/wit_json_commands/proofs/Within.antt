-- What is found by its name in a valid graph is there.
use Rattle.std.proofs.Common.{◌≡◌, ◌<◌, ℕ, List, Some, length, slice_get}
use Rattle.std.specs.Map.{lookup}
use Rattle.std.specs.Str.{bytes_eq}
use Rattle.std.proofs.lemmas.Map.Views.{Contains-from_lookup}
use Rattle.std.proofs.lemmas.Option.{option_and_then_some, slice_get_within}
use Rattle.std.proofs.lemmas.Slice.Eq.{bytes_eq-Decides}
use Rattle.wit_names.specs.declared.package_name.PackageName.{PackageName}
use Rattle.wit_names.specs.facts.PackageNameFacts.{same_package-Decides}
use Rattle.wit_data.specs.declared.interface.Interface.{Interface}
use Rattle.wit_elaboration.specs.Valid.{IsValid}
use Rattle.wit_graph_data.specs.Named.{interface_in, package_named}
use Rattle.wit_graph_data.specs.declared.graph.Graph.{Graph}
use Rattle.wit_graph_data.specs.declared.graph.Package.{Package}
use Rattle.wit_graph_theory.specs.facts.ListFacts.{found_at, place_of}
use Rattle.wit_json_commands.specs.Tells.{interface_id_named}

-- the package of a name
pub package_within : (g : Graph) → IsValid g → (name : PackageName) (p : ℕ) → package_named g name ≡ Some p → p < length g.packages
package_within g valid name p is =
    let place = place_of g.package_names (name, p) (Contains-from_lookup (λ a b. (same_package-Decides a b).0) name p g.package_names is) in
    let there = found_at (λ (home : Package). home.name ≡ name) g.packages p (valid.well_formed.package_names.own_name place.0 (name, p) place.1) in
    slice_get_within g.packages p there.0 there.1

interface_in_within : (g : Graph) → IsValid g → (name : List ℕ) (p i : ℕ) → interface_in g name p ≡ Some i → i < length g.interfaces
interface_in_within g valid name p i inside =
    option_and_then_some (λ (x : Package). lookup (bytes_eq name) x.interfaces) (slice_get g.packages p) i inside
    (λ home at found.
    let place = place_of home.interfaces (name, i) (Contains-from_lookup (λ a b. (bytes_eq-Decides a b).0) name i home.interfaces found) in
    let there = found_at (λ (x : Interface). (x.name ≡ Some name) × (x.package ≡ Some p)) g.interfaces i (valid.well_formed.tables.interface_tables p home at place.0 (name, i) place.1) in
    slice_get_within g.interfaces i there.0 there.1)

-- the interface of a name in the package of a name
pub interface_within : (g : Graph) → IsValid g → (home : PackageName) (name : List ℕ) (i : ℕ) → interface_id_named g home name ≡ Some i → i < length g.interfaces
interface_within g valid home name i is =
    option_and_then_some (interface_in g name) (package_named g home) i is (λ p named inside. interface_in_within g valid name p i inside)
