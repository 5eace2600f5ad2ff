-- The texts that name things of a graph from outside.
-- Source: `key_interface`, `id_of_name` and `name_world_key` of wit-parser 0.263.0; the component model's
-- interface names.
use Rattle.std.specs.Prelude.{ℕ, List, [], ◌∷◌, ◌++◌, Option, slice_get, option_and_then, unwrap_or, option_map}
use Rattle.std.specs.Option.{option_map_or}
use Rattle.wit_names.specs.PackageName.{version_suffix}
use Rattle.wit_data.specs.declared.interface.Interface.{Interface}
use Rattle.wit_data.specs.declared.world.WorldKey.{WorldKey}
use Rattle.wit_data.specs.declared.world.WorldKey.TheVariants as key
use Rattle.wit_graph_data.specs.declared.graph.Package.{Package}

-- `namespace:package/name`, and `@version` where there is one, of a name in package p; empty where that isn't there
abbrev pub id_text : List Package → ℕ → List ℕ → List ℕ
id_text packages owner name =
    option_map_or (λ (p : Package).
    p.name.namespace
    ++ (58 ∷ (p.name.name ++ (47 ∷ (name ++ version_suffix p.name.version)))))
    (slice_get packages owner) []

-- the id text of interface i, where it is there and has a name and a package
abbrev pub interface_id_at : List Package → List Interface → ℕ → Option (List ℕ)
interface_id_at packages interfaces i =
    option_and_then (λ (interface : Interface).
    option_and_then
    (λ name. option_map (λ owner. id_text packages owner name) interface.package)
    interface.name) (slice_get interfaces i)

-- what names a key: a label as it stands, an interface by its id text
abbrev pub key_text : List Package → List Interface → WorldKey → List ℕ
key_text packages interfaces (key.Name label) = label
key_text packages interfaces (key.Interface i) =
    unwrap_or (interface_id_at packages interfaces i) []
