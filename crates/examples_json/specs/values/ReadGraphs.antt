-- What graphs are read from with what stands beside them, each as its text.
use Rattle.std.specs.Prelude.{◌≡◌, ℕ, List, [], ◌∷◌, ◌++◌, Some, None, Ok, codes, false, true}
use Rattle.wit_graph_data.specs.declared.features.Features.{Features}
use Rattle.wit_data.specs.declared.world.WorldItem.{WorldItem}
use Rattle.wit_data.specs.New.{new_function, new_interface, new_type, new_world}
use Rattle.wit_data.specs.declared.function.Function.{Function}
use Rattle.wit_data.specs.declared.function.FunctionKind.TheVariants as function
use Rattle.wit_data.specs.declared.interface.Interface.{Interface}
use Rattle.wit_data.specs.declared.types.TypeDef.{TypeDef}
use Rattle.wit_data.specs.declared.types.TypeDefKind.{TypeDefKind}
use Rattle.wit_data.specs.declared.types.TypeDefKind.TheVariants as kind
use Rattle.wit_data.specs.declared.types.TypeOwner.TheVariants as owner
use Rattle.wit_data.specs.declared.types.Type_.TheVariants as type
use Rattle.wit_data.specs.declared.world.WorldItem.TheVariants as item
use Rattle.wit_data.specs.declared.stability.Stability.TheVariants.{Unknown}
use Rattle.wit_names.specs.declared.track.TrackRule.TheVariants.{Published, WithPrereleases}
use Rattle.wit_graph_data.specs.declared.graph.Graph.{Graph}
use Rattle.examples_json.specs.values.Details.{all_features, two_features, two_files}
use Rattle.examples_json.specs.values.Gates.{docs_of}
use Rattle.examples_json.specs.values.Graphs.{no_graph, small_graph}
use Rattle.examples_json.specs.values.ReadValues.{fault_at, to}
use Rattle.wit_json_graphs.specs.Details.{function_with_details, interface_with, item_with, kind_with, type_with_details, entry_with}
use Rattle.wit_json_graphs.specs.Resolves.{read_resolve}
use Rattle.wit_json_graphs.specs.declared.resolves.ResolveParts.{ResolveParts}
use Rattle.wit_json_reading.specs.Documents.{read_from}
use Rattle.wit_json_reading.specs.Features.{read_features, read_rule}
use Rattle.wit_json_reading.specs.Graphs.{read_graph}
use Rattle.wit_json_reading.specs.Reading.{Reading, instead_of}
use Rattle.wit_json_reading.specs.declared.fault.Expected.TheVariants as expected
use Rattle.wit_json_reading.specs.declared.fault.Step.TheVariants as step

abbrev pub graph : List ℕ → Reading Graph
graph text = read_from read_graph text

pub record ExamplesOfReadGraphs : Type 0 where
  pub empty : graph (codes "{\"worlds\":[],\"interfaces\":[],\"types\":[],\"packages\":[]}")
      ≡ Ok no_graph
  -- the names of packages come of the packages
  pub small : graph
      (codes "{\"worlds\":[{\"name\":\"w\",\"imports\":{},\"exports\":{},\"package\":null}],"
      ++ codes
      "\"interfaces\":[{\"name\":\"i\",\"types\":{},\"functions\":{},\"package\":null}],"
      ++ codes "\"types\":[{\"name\":null,\"kind\":{\"type\":\"u8\"},\"owner\":null}],"
      ++ codes "\"packages\":[{\"name\":\"foo:bar\",\"interfaces\":{},\"worlds\":{}}]}")
      ≡ Ok small_graph
  pub same_package : graph
      (codes "{\"worlds\":[],\"interfaces\":[],\"types\":[],\"packages\":[{\"name\":\"foo:bar\","
      ++ codes "\"interfaces\":{},\"worlds\":{}},{\"name\":\"foo:bar\","
      ++ codes "\"interfaces\":{},\"worlds\":{}}]}")
      ≡ fault_at (to (codes "name") ∷ step.Item 1 ∷ to (codes "packages") ∷ []) expected.NewName
  pub no_types : graph (codes "{\"worlds\":[],\"interfaces\":[],\"packages\":[]}")
      ≡ fault_at (to (codes "types") ∷ []) expected.Member
  -- what a world included stands in it
  pub with_includes : graph (codes "{\"worlds\":[{\"name\":\"w\",\"imports\":{},"
      ++ codes "\"exports\":{},\"package\":null,\"includes\":[]}]}")
      ≡ fault_at (to (codes "includes") ∷ step.Item 0 ∷ to (codes "worlds") ∷ []) expected.NoMember
  -- a name that is listed twice counts once
  pub features : read_from read_features
      (codes "{\"names\":[\"fast\",\"new\",\"fast\"],\"all\":false}") ≡ Ok two_features
  pub all : read_from read_features (codes "{\"all\":true,\"names\":[]}") ≡ Ok all_features
  pub no_names : read_from read_features (codes "{\"all\":true}")
      ≡ fault_at (to (codes "names") ∷ []) expected.Member
  pub rule : read_from read_rule (codes "\"with-prereleases\"") ≡ Ok WithPrereleases
  pub no_rule : read_from read_rule (codes "\"prereleases\"") ≡ instead_of expected.TrackRule

-- a record of one field
abbrev pub a_record : TypeDefKind
a_record =
    kind.Record (record { name = codes "x"; ty = type.U8; docs = docs_of None; span = None } ∷ [])

abbrev pub a_placed_record : TypeDefKind
a_placed_record =
    kind.Record
    (record { name = codes "x"; ty = type.U8; docs = docs_of None; span = Some (5, 6) } ∷ [])

abbrev pub a_type : TypeDef
a_type = new_type (Some (codes "t")) a_record owner.None

abbrev pub a_function : Function
a_function =
    new_function (codes "f") function.Freestanding
    (record { name = codes "p"; ty = type.U8; span = None } ∷ []) None

abbrev pub an_interface : Interface
an_interface =
    record (new_interface (Some (codes "i"))) { functions = (codes "f", a_function) ∷ [] }

pub record ExamplesOfReadDetails : Type 0 where
  pub completes : read_from (type_with_details a_type)
      (codes "{\"span\":[3,4],\"external-id\":\"e\",\"parts\":[[5,6]]}")
      ≡ Ok (record a_type
      { kind = a_placed_record; span = Some (3, 4); external_id = Some (codes "e") })
  -- what is left out is unknown, also where the graph itself says it
  pub nothing : read_from (type_with_details (record a_type { span = Some (3, 4) }))
      (codes "{\"parts\":[null]}") ≡ Ok a_type
  pub no_parts : read_from (type_with_details a_type) (codes "{}")
      ≡ fault_at (to (codes "parts") ∷ []) expected.Member
  pub more_parts : read_from (type_with_details a_type) (codes "{\"parts\":[null,null]}")
      ≡ fault_at (to (codes "parts") ∷ []) expected.Details
  pub fewer_parts : read_from (type_with_details a_type) (codes "{\"parts\":[]}")
      ≡ fault_at (to (codes "parts") ∷ []) expected.Details
  -- a resource has no parts
  pub other_kind : read_from (kind_with kind.Resource) (codes "{\"parts\":[]}")
      ≡ fault_at (to (codes "parts") ∷ []) expected.NoMember
  pub of_function : read_from (function_with_details a_function)
      (codes "{\"params\":[[12,13]],\"span\":[11,20]}")
      ≡ Ok (record a_function {
        params = record { name = codes "p"; ty = type.U8; span = Some (12, 13) } ∷ [];
        span = Some (11, 20);
      })
  pub of_interface : read_from (interface_with an_interface)
      (codes "{\"span\":[1,2],\"functions\":{\"f\":{\"params\":[null]}}}")
      ≡ Ok (record an_interface { span = Some (1, 2) })
  pub other_name : read_from (interface_with an_interface)
      (codes "{\"functions\":{\"g\":{\"params\":[null]}}}")
      ≡ fault_at (to (codes "functions") ∷ []) expected.Details
  pub of_entry : read_from (item_with (item.Interface 3 Unknown (docs_of None) None None))
      (codes "{\"docs\":{\"contents\":\"E.\"},\"span\":[1,2]}")
      ≡ Ok (item.Interface 3 Unknown (docs_of (Some (codes "E."))) (Some (1, 2)) None)
  pub no_id : read_from (item_with (item.Interface 3 Unknown (docs_of None) None None))
      (codes "{\"id\":3}") ≡ fault_at (to (codes "id") ∷ []) expected.NoMember

abbrev pub parts : List ℕ → Reading ResolveParts
parts text = read_from read_resolve text

pub record ExamplesOfReadResolves : Type 0 where
  -- a graph alone
  pub alone : parts
      (codes "{\"graph\":{\"worlds\":[],\"interfaces\":[],\"types\":[],\"packages\":[]}}")
      ≡ Ok (record {
        graph = no_graph;
        features = record { names = []; all = false };
        source_map = record { files = []; end = 0 };
        track_rule = Published;
      })
  -- with all that comes out
  pub whole : parts
      (codes "{\"graph\":{\"worlds\":[],\"interfaces\":[],\"types\":[],\"packages\":[]},"
      ++ codes "\"details\":{\"worlds\":[],\"interfaces\":[],\"types\":[]},"
      ++ codes "\"features\":{\"all\":true,\"names\":[]},\"track-rule\":\"with-prereleases\","
      ++ codes "\"sources\":[{\"path\":\"a.wit\",\"text\":\"A\"},"
      ++ codes "{\"path\":\"b.wit\",\"text\":\"\"}]}")
      ≡ Ok (record {
        graph = no_graph;
        features = all_features;
        source_map = two_files;
        track_rule = WithPrereleases;
      })
  pub no_graph_there : parts (codes "{\"details\":{\"worlds\":[],\"interfaces\":[],\"types\":[]}}")
      ≡ fault_at (to (codes "graph") ∷ []) expected.Member
  pub in_details : parts
      (codes "{\"graph\":{\"worlds\":[],\"interfaces\":[],\"types\":[],\"packages\":[]},"
      ++ codes "\"details\":{\"worlds\":[],\"interfaces\":[{}],\"types\":[]}}")
      ≡ fault_at (to (codes "interfaces") ∷ to (codes "details") ∷ []) expected.Details
  pub paths_alone : parts (codes "{\"graph\":{\"worlds\":[],\"interfaces\":[],"
      ++ codes "\"types\":[],\"packages\":[]},\"files\":[\"a.wit\"]}")
      ≡ fault_at (to (codes "files") ∷ []) expected.NoMember
