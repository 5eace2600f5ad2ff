-- Names and paths as WIT text has them.
use Rattle.std.specs.Prelude.{ℕ, nat_eq, List, [], ◌++◌, Option, Some, None, slice_get, codes, unwrap_or, option_and_then, if◌then◌else◌}
use Rattle.std.specs.Option.{option_eq, option_map_or}
use Rattle.wit_data.specs.declared.interface.Interface.{Interface}
use Rattle.wit_graph_data.specs.declared.graph.Graph.{Graph}
use Rattle.wit_graph_data.specs.declared.graph.Package.{Package}
use Rattle.wit_names.specs.PackageName.{version_suffix}
use Rattle.wit_names.specs.declared.package_name.PackageName.{PackageName}
use Rattle.wit_text.specs.Keyword.{keyword_of}
use Rattle.wit_text.specs.declared.keyword.Keyword.{Keyword}

-- a name, behind a `%` if WIT has taken the word
unfoldable pub name_wit : List ℕ → List ℕ
name_wit name = option_map_or (λ (k : Keyword). codes "%") (keyword_of name) [] ++ name

-- a name in a package: `namespace:package/name`, and `@version` if the package has one
abbrev pub path_in : PackageName → List ℕ → List ℕ
path_in p name =
    name_wit p.namespace
    ++ (codes ":" ++ (name_wit p.name
    ++ (codes "/" ++ (name_wit name ++ version_suffix p.version))))

-- the package that owns a thing, if it is there and another one than `home`
abbrev pub foreign_package : List Package → Option ℕ → Option ℕ → Option Package
foreign_package packages home owner =
    option_and_then (λ p. if option_eq nat_eq home (Some p) then None else slice_get packages p)
    owner

-- what a package calls an interface: a path if it is another package's, else its name alone
abbrev pub path_from : List Package → Option ℕ → Interface → List ℕ
path_from packages home interface =
    option_map_or (λ («package» : Package). path_in «package».name (unwrap_or interface.name []))
    (foreign_package packages home interface.package) (name_wit (unwrap_or interface.name []))

-- what a package calls interface i, if that is there
unfoldable pub path_wit : Graph → Option ℕ → ℕ → List ℕ
path_wit g home i =
    option_map_or (path_from g.packages home) (slice_get g.interfaces i) []
