-- The empty graph is valid.
use Rattle.std.proofs.Common.{◌≡◌, ℕ, ◌<◌, List, [], arith}
use Rattle.std.proofs.lemmas.List.Elements.{All-nil}
use Rattle.std.specs.List.{IsDistinct}
use Rattle.wit_digraph.specs.Relation.{IsAcyclic}
use Rattle.wit_data.specs.Each.{EachAt}
use Rattle.wit_elaboration.specs.examples.Examples.{empty_graph}
use Rattle.wit_values.specs.Table.{HasDistinctKeys}
use Rattle.wit_elaboration.specs.Valid.{IsValid}
use Rattle.wit_graph_data.specs.declared.graph.Graph.{Graph}
use Rattle.wit_graph_data.specs.declared.graph.Package.{Package}
use Rattle.wit_data.specs.declared.interface.Interface.{Interface}
use Rattle.wit_names.specs.declared.package_name.PackageName.{PackageName}
use Rattle.wit_data.specs.declared.types.TypeDef.{TypeDef}
use Rattle.wit_data.specs.declared.world.World.{World}

none : {X : Type 0} (P : ℕ → X → Type 0) → EachAt P []
none P i x at = cc

no_keys : {K V : Type 0} → HasDistinctKeys {K = K} {V = V} []
no_keys i j e f first second same = cc

no_rows : IsAcyclic []
no_rows = record {
  in_range = λ i. All-nil (λ j. j < 0);
  no_cycle = λ i k path round. absurd (omega (arith, round.0.1));
}

pub empty_is_valid : IsValid empty_graph
unfolding IsDistinct
empty_is_valid = record {
  well_formed = record {
    package_names = record { own_name = none _; listed = none _; distinct = no_keys };
    tables = record {
      interfaces_listed = none _;
      worlds_listed = none _;
      interface_tables = none _;
      world_tables = none _;
      distinct_interfaces = none _;
      distinct_worlds = none _;
    };
    owners = record { listed = none _; own_types = none _; functions = none _; distinct_types = none _; distinct_functions = none _ };
    references = record { aliases = none _; unnamed = none _; own_types = none _; own_functions = none _ };
    worlds = record {
      imports = none _;
      exports = none _;
      imported_functions = none _;
      exported_functions = none _;
      once = tt;
      own_imports = none _;
      own_exports = none _;
      no_includes = none _;
      distinct_imports = none _;
      distinct_exports = none _;
    };
  };
  names = record { namespaces = none _; package_names = none _; versions = none _; interface_names = none _ };
  known = none _;
  no_cycles = record { uses = no_rows; types = no_rows; packages = no_rows };
  canonical = none _;
}

valid_of : (types : List TypeDef) (interfaces : List Interface) (worlds : List World) (packages : List Package) (names : List (PackageName × ℕ))
    → types ≡ [] → interfaces ≡ [] → worlds ≡ [] → packages ≡ [] → names ≡ []
    → IsValid (record { types = types; interfaces = interfaces; worlds = worlds; packages = packages; package_names = names })
valid_of types interfaces worlds packages names t i w p n = rw (t, i, w, p, n) empty_is_valid

-- a graph without anything is the empty one
pub valid_without : (g : Graph) → g.types ≡ [] → g.interfaces ≡ [] → g.worlds ≡ [] → g.packages ≡ [] → g.package_names ≡ [] → IsValid g
valid_without g = valid_of g.types g.interfaces g.worlds g.packages g.package_names
