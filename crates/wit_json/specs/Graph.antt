-- A graph as JSON, in the layout of `wasm-tools component wit --json`, which generators of bindings read.
-- What that layout leaves out (the names of packages as a table, spans, external ids, the docs of entries of worlds) isn't there.
-- Source: the serialized form of wit-parser 0.263.0's `Resolve`.
use Rattle.std.specs.Prelude.{ℕ, List, ◌++◌, codes}
use Rattle.json.specs.Json.{Json}
use Rattle.json.specs.Print.{print}
use Rattle.json.specs.Tree.{json_tokens}
use Rattle.wit_graph_data.specs.declared.graph.Graph.{Graph}
use Rattle.wit_graph_data.specs.declared.graph.Package.{Package}
use Rattle.wit_names.specs.PackageName.{package_name_text}
use Rattle.wit_names.specs.declared.package_name.PackageName.{PackageName}
use Rattle.wit_json.specs.Gates.{docs_member}
use Rattle.wit_json.specs.Types.{json_of_type_def}
use Rattle.wit_json.specs.Values.{json_of_number, json_of_text, list_of, member, object, object_under_names}
use Rattle.wit_json.specs.Worlds.{json_of_interface, json_of_world}

abbrev pub json_of_package_name : PackageName → Json
json_of_package_name name = json_of_text (package_name_text name)

abbrev pub json_of_package : Package → Json
json_of_package p =
    object (member (codes "name") (json_of_package_name p.name) ++ docs_member p.docs
    ++ member (codes "interfaces") (object_under_names json_of_number p.interfaces)
    ++ member (codes "worlds") (object_under_names json_of_number p.worlds))

-- each thing stands in its list at the index that is its id
abbrev pub json_of_graph : Graph → Json
json_of_graph graph =
    object (member (codes "worlds") (list_of json_of_world graph.worlds)
    ++ member (codes "interfaces") (list_of json_of_interface graph.interfaces)
    ++ member (codes "types") (list_of json_of_type_def graph.types)
    ++ member (codes "packages") (list_of json_of_package graph.packages))

-- the text of a value without a space
abbrev pub compact : Json → List ℕ
compact j = print (json_tokens j)
