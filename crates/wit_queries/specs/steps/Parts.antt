-- Parts of the definitions under names of their own, for contracts of inner functions and for proofs. Each is what stands
-- in a definition in its place, so none has to be believed.
use Rattle.std.specs.Prelude.{ℕ, List, [], ◌++◌, codes, flat_map}
use Rattle.std.specs.Option.{option_map_or}
use Rattle.wit_names.specs.PackageName.{package_name_text}
use Rattle.wit_names.specs.declared.package_name.PackageName.{PackageName}
use Rattle.wit_data.specs.declared.world.World.{World}
use Rattle.wit_graph_data.specs.IdText.{id_text}
use Rattle.wit_graph_data.specs.declared.graph.Graph.{Graph}
use Rattle.wit_graph_data.specs.declared.graph.Package.{Package}
use Rattle.wit_queries.specs.Selection.{world_line, version_part}

-- the text is no use path
abbrev pub no_path_text : List ℕ → List ℕ
no_path_text text =
    codes "failed to parse world specifier `" ++ (text ++ codes "`: invalid use path")

-- a line for each world of the graph, by id
abbrev pub all_world_lines : Graph → List ℕ
all_world_lines g =
    flat_map (λ (world : World).
    option_map_or (λ p. world_line (id_text g.packages p world.name)) world.package []) g.worlds

-- a name without a version may mean two packages
abbrev pub several_versions_text : PackageName → PackageName → PackageName → List ℕ
several_versions_text name a b =
    codes "package name `"
    ++ (package_name_text name
    ++ (codes "` is available at both versions "
    ++ (version_part a.version
    ++ (codes " and "
    ++ (version_part b.version ++ codes " but which is not specified")))))

-- the package has no world of the name
abbrev pub no_world_text : List ℕ → PackageName → List ℕ
no_world_text world name =
    codes "World `"
    ++ (world ++ (codes "` not found in package `" ++ (package_name_text name ++ codes "`")))

-- a line for each world of a package, in the order of its table
abbrev pub package_world_lines : Graph → ℕ → Package → List ℕ
package_world_lines g p home =
    flat_map (λ (e : List ℕ × ℕ). world_line (id_text g.packages p e.0)) home.worlds

-- the main package has several worlds, and none is named
abbrev pub several_worlds_text : Graph → ℕ → Package → List ℕ
several_worlds_text g p home =
    codes "There are multiple worlds in `"
    ++ (package_name_text home.name
    ++ (codes "`; one must be explicitly chosen:" ++ package_world_lines g p home))
