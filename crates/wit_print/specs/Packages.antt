-- Packages and graphs as WIT text.
use Rattle.std.specs.Prelude.{ℕ, ◌==◌, List, [], ◌++◌, length, slice_get, codes, flat_map, if◌then◌else◌}
use Rattle.std.specs.List.{range_with_len}
use Rattle.std.specs.Option.{option_map_or}
use Rattle.wit_graph_data.specs.declared.graph.Graph.{Graph}
use Rattle.wit_graph_data.specs.declared.graph.Package.{Package}
use Rattle.wit_names.specs.PackageName.{version_suffix}
use Rattle.wit_print.specs.Headings.{docs_wit}
use Rattle.wit_print.specs.Interfaces.{interface_wit}
use Rattle.wit_print.specs.Names.{name_wit}
use Rattle.wit_print.specs.Worlds.{world_wit}

-- documentation, then `package namespace:name`, and `@version` if there is one
abbrev pub package_head : Package → List ℕ
package_head p =
    docs_wit [] p.docs
    ++ (codes "package "
    ++ (name_wit p.name.namespace
    ++ (codes ":" ++ (name_wit p.name.name ++ version_suffix p.name.version))))

-- the interfaces of a package, then its worlds
unfoldable pub items_wit : Graph → List ℕ → Package → List ℕ
items_wit g indent «package» =
    flat_map (λ (e : List ℕ × ℕ). interface_wit g indent e.1) «package».interfaces
    ++ flat_map (λ (e : List ℕ × ℕ). world_wit g indent e.1) «package».worlds

-- package p as a file, if it is there
unfoldable pub package_wit : Graph → ℕ → List ℕ
package_wit g p =
    option_map_or (λ («package» : Package).
    package_head «package» ++ (codes ";\n" ++ items_wit g [] «package»))
    (slice_get g.packages p) []

-- package i in braces, behind an empty line, if it is there and isn't package p
unfoldable pub other_wit : Graph → ℕ → ℕ → List ℕ
other_wit g p i =
    if i == p then []
    else option_map_or (λ («package» : Package).
    codes "\n"
    ++ (package_head «package»
    ++ (codes " {\n" ++ (items_wit g (codes "  ") «package» ++ codes "}\n"))))
    (slice_get g.packages i) []

-- all packages as one file: package p, then the others in braces
abbrev pub graph_wit : Graph → ℕ → List ℕ
graph_wit g p =
    package_wit g p ++ flat_map (other_wit g p) (range_with_len 0 (length g.packages))
